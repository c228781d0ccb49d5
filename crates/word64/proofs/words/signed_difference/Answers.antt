-- `word64::signed_difference` meets its contract: by the half that the wrapped difference lies in. Assumes nothing.
use Rattle.std.proofs.Common.{sym, ◌∙◌, subst, arith, w64}
use mir.ValLaws.{to_z-of_z}
use Rattle.word64.specs.Word.{SignedDifferenceSays}
use Rattle.word64.proofs.Laws.Difference.{difference_signed}
use Rattle.word64.proofs.words.signed_difference.Goals as goal

pub returns : goal.returns
returns c =
    let read = to_z-of_z w64 c.cast_signed.result (record { sfits = c.cast_signed.type_inv }) ∙ c.cast_signed.ensures in
    subst (SignedDifferenceSays _ _) (sym read) (difference_signed c.args.a c.args.b _ (omega arith) (omega arith))
