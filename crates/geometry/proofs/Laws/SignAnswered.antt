-- The sign of three accepted points is not refused: for callers that unwrap it. Assumes nothing.
use mathlib.Core.Path.{ap}
use Rattle.std.specs.Prelude.{Result, IsOk, is_ok}
use Rattle.refusal.specs.declared.Refusal.{Refusal}
use Rattle.point.specs.declared.Point.{Point}
use Rattle.point.specs.Accepted.{Accepted}
use Rattle.sum.specs.declared.answer.Sign.{Sign}
use Rattle.geometry.specs.Side.{SignSays}
use Rattle.geometry.proofs.Laws.SignCalls.{sign_answers}

pub never_refused : (p q r : Point) (s : Result Sign Refusal) → Accepted p → Accepted q → Accepted r → SignSays p q r s → IsOk s
never_refused p q r s P Q R h = let (z, e) = sign_answers p q r s P Q R h in ap is_ok e
