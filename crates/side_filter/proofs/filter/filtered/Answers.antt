-- `filter::filtered` meets its contract: the tests give the rule's answer, and the rule's answer is never wrong. Assumes nothing.
use Rattle.std.proofs.Common.{true, Float}
use lib.Ieee.{binary64, fits}
use mathlib.Core.Path.{◌≡◌, sym, subst}
use lib.Dec.{T}
use Rattle.point.specs.Accepted.{OfDoubles}
use Rattle.point.proofs.Laws.Within.{accepted_within_lem}
use Rattle.point.specs.declared.Point.{Point}
use Rattle.side_filter.specs.Filter.{x_span_of, y_span_of, filter_by, difference_of, FilteredSays}
use Rattle.side_filter.specs.declared.answer.Early.{Early}
use Rattle.side_filter.proofs.Laws.Filter.{filter_answer, filter_sure, span_is}
use Rattle.side_filter.proofs.filter.filtered.Goals as goal

-- what owning a point tells: the format holds its coordinates
held : (p : Point) → fits binary64 p.x ≡ true → fits binary64 p.y ≡ true → OfDoubles p
held p hx hy = record { x = subst T (sym hx) tt; y = subst T (sym hy) tt }

-- with the rule's X and Y, what the tests say of them is the rule's answer
says : (p q r : Point) {x y : Float} {f : Early} → OfDoubles p → OfDoubles q → OfDoubles r → x ≡ x_span_of p q r → y ≡ y_span_of p q r
    → f ≡ filter_by (difference_of p q r) x y → FilteredSays p q r f
says p q r hp hq hr ex ey e =
    let answer = filter_answer p q r ex ey e in
    record {
      answer = answer;
      sure = λ P Q R. filter_sure _ _ _
          (accepted_within_lem _ hp.x hp.y P) (accepted_within_lem _ hq.x hq.y Q) (accepted_within_lem _ hr.x hr.y R) answer;
    }

pub returns : goal.returns
returns c =
    let p = c.well_formed.0.1.1 in
    let q = c.well_formed.1.0.1.1 in
    let r = c.well_formed.1.1.0.1.1 in
    says c.args.p c.args.q c.args.r (held _ p.0.1 p.1.0.1) (held _ q.0.1 q.1.0.1) (held _ r.0.1 r.1.0.1)
    (span_is _ _ _ c.magnitude.ensures c.magnitude-2.ensures c.greater_of-x.ensures)
    (span_is _ _ _ c.magnitude-3.ensures c.magnitude-4.ensures c.greater_of-y.ensures)
    c.told_by.ensures
