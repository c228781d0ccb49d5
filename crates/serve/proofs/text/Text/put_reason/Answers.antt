-- By the reason, which is never refused.
use Rattle.std.proofs.Common.{◌≡◌, ℕ, arith, length, take, replicate, length-take-le, sym, ap, ◌∙◌, rules}
use Rattle.std.proofs.lemmas.List.{length-replicate}
use Rattle.std.specs.Prelude.{ℤ, map, ◌++◌}
use mir.Val.{to_z, of_z}
use mir.Syntax.{w64}
use Rattle.serve.specs.Text.{ascii}
use Rattle.serve.specs.Parts.{entry_of}
use Rattle.serve.specs.Reasons.{reason_text, counted_text}
use Rattle.reason.specs.Why.{reason_in}
use Rattle.serve.proofs.Laws.Reasons.{reason_answers, reason_border, inside_few, outside_few, reason_inside, reason_outside}
use Rattle.serve.proofs.Laws.Text.{puts_as, puts_then}
use Rattle.serve.proofs.text.Text.put_reason.Goals as goal

-- 64 bytes are lent
room : length (replicate {A = ℕ} 64 0) ≡ 64
room = length-replicate {A = ℕ} 64 0

pub unwrap-requires : goal.unwrap-requires
unwrap-requires c = reason_answers _ _ c.requires.0 c.requires.1 _ _ _ room c.why.ensures

pub slice_bounds-room-end : goal.slice_bounds-room-end
slice_bounds-room-end c = omega (arith, inside_few _ _ c.requires.0 c.requires.1 _ _ _ room c.why.ensures _ c.in-Inside.ensures)

pub slice_bounds-put_counted-end : goal.slice_bounds-put_counted-end
slice_bounds-put_counted-end c =
    sym (length-take-le _ c.why.new.room (omega (arith, inside_few _ _ c.requires.0 c.requires.1 _ _ _ room c.why.ensures _ c.in-Inside.ensures)))

pub slice_bounds-room-end-in-Outside : goal.slice_bounds-room-end-in-Outside
slice_bounds-room-end-in-Outside c = omega (arith, outside_few _ _ c.requires.0 c.requires.1 _ _ _ room c.why.ensures _ c.in-Outside.ensures)

pub slice_bounds-put_counted-end-in-Outside : goal.slice_bounds-put_counted-end-in-Outside
slice_bounds-put_counted-end-in-Outside c =
    sym (length-take-le _ c.why.new.room (omega (arith, outside_few _ _ c.requires.0 c.requires.1 _ _ _ room c.why.ensures _ c.in-Outside.ensures)))

pub returns-in-Border : goal.returns-in-Border
returns-in-Border c =
    puts_as 2102 (reason_text (reason_in c.args.corners.now c.args.p)) c.put_border.ensures (omega arith)
    (reason_border _ _ c.requires.0 c.requires.1 _ _ _ room c.why.ensures _ c.in-Border.ensures)

pub returns-in-Inside : goal.returns-in-Inside
returns-in-Inside c =
    let few = inside_few _ _ c.requires.0 c.requires.1 _ _ _ room c.why.ensures _ c.in-Inside.ensures in
    let whole : to_z w64 (of_z w64 c.in-Inside.c.total) ≡ c.in-Inside.c.total = search rules in
    let size = length-take-le c.in-Inside.c.entries c.why.new.room (omega (arith, few)) in
    puts_as 2102 (reason_text (reason_in c.args.corners.now c.args.p)) (puts_then c.put.ensures c.put_counted.ensures)
    (omega (arith, size, few))
    (ap (λ (z : ℤ). ascii " inside: " ++ counted_text z (map entry_of (take c.in-Inside.c.entries c.why.new.room))) whole
    ∙ reason_inside _ _ c.requires.0 c.requires.1 _ _ _ room c.why.ensures _ c.in-Inside.ensures)

pub returns-in-Outside : goal.returns-in-Outside
returns-in-Outside c =
    let few = outside_few _ _ c.requires.0 c.requires.1 _ _ _ room c.why.ensures _ c.in-Outside.ensures in
    let whole : to_z w64 (of_z w64 c.in-Outside.c.total) ≡ c.in-Outside.c.total = search rules in
    let size = length-take-le c.in-Outside.c.entries c.why.new.room (omega (arith, few)) in
    puts_as 2102 (reason_text (reason_in c.args.corners.now c.args.p)) (puts_then c.put-in-Outside.ensures c.put_counted-in-Outside.ensures)
    (omega (arith, size, few))
    (ap (λ (z : ℤ). ascii " outside: " ++ counted_text z (map entry_of (take c.in-Outside.c.entries c.why.new.room))) whole
    ∙ reason_outside _ _ c.requires.0 c.requires.1 _ _ _ room c.why.ensures _ c.in-Outside.ensures)
