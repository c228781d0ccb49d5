-- `roundoff::whole_magnitude` meets its contract: the hidden bit, and so both parts, by the field of the pattern. Assumes nothing.
use mathlib.Core.Logic.{inl, inr}
use native.Mathlib.Omega.{arith}
use Rattle.double.proofs.Laws.Apart.{Hides, field_parts}
use Rattle.double.proofs.Laws.Pattern.{number_finite}
use Rattle.geometry.proofs.roundoff.whole_magnitude.Goals as goal

pub float_to_bits-pattern : goal.float_to_bits-pattern
float_to_bits-pattern c =
    number_finite _ c.requires.fin

pub overflow_mul-result : goal.overflow_mul-result
overflow_mul-result c =
    let hides : Hides c.args.x c.if-field-eq0.hidden = elim c.if-field-eq0.branch [ goal.then-field-eq0 w ↦ inl (w.if-field-eq0.true, w.hidden-is) | goal.else-field-eq0 w ↦ inr (w.if-field-eq0.false, w.hidden-is) ] in
    elim hides [ inl h ↦ omega arith | inr h ↦ omega arith ]

pub overflow_add-result : goal.overflow_add-result
overflow_add-result c =
    let hides : Hides c.args.x c.if-field-eq0.hidden = elim c.if-field-eq0.branch [ goal.then-field-eq0 w ↦ inl (w.if-field-eq0.true, w.hidden-is) | goal.else-field-eq0 w ↦ inr (w.if-field-eq0.false, w.hidden-is) ] in
    elim hides [ inl h ↦ omega arith | inr h ↦ omega arith ]

pub overflow_sub-result : goal.overflow_sub-result
overflow_sub-result c =
    let hides : Hides c.args.x c.if-field-eq0.hidden = elim c.if-field-eq0.branch [ goal.then-field-eq0 w ↦ inl (w.if-field-eq0.true, w.hidden-is) | goal.else-field-eq0 w ↦ inr (w.if-field-eq0.false, w.hidden-is) ] in
    elim hides [ inl h ↦ omega arith | inr h ↦ omega arith ]

pub returns : goal.returns
returns c =
    let hides : Hides c.args.x c.if-field-eq0.hidden = elim c.if-field-eq0.branch [ goal.then-field-eq0 w ↦ inl (w.if-field-eq0.true, w.hidden-is) | goal.else-field-eq0 w ↦ inr (w.if-field-eq0.false, w.hidden-is) ] in
    field_parts c.args.x c.if-field-eq0.hidden c.requires hides
