-- Taking a double apart: Numbers 4 and 5 of docs/RULES.md.
use Rattle.std.specs.Prelude.{ℕ, ◌-◌, ◌*◌, ◌/◌, ◌^◌, ◌≡◌, Float, Result}
use Rattle.std.specs.Float.{nan, inf, fin, binary64}
use Rattle.std.specs.Float.Ieee.{prec, size}
use Rattle.double.specs.Worth.{mag, of_units}
use Rattle.refusal.specs.Outcome.{Outcome, answers, refuses, not_finite, outcome}
use Rattle.double.specs.declared.answer.Parts.{Parts}
use Rattle.refusal.specs.declared.Refusal.{Refusal}

-- Answer 4: the rules' values, or number and place, for each case of the code's answer
unfoldable pub said : Result Parts Refusal → Outcome Parts
said r = outcome (λ p. p) r

-- Numbers 5: the exponent of a magnitude of n units: how many binary digits it has beyond 53, or 0
unfoldable pub exponent_of : ℕ → ℕ
exponent_of n = size n - prec binary64

-- Numbers 4 and 5: the significand: the magnitude without these digits, below 2^53
unfoldable pub significand_of : ℕ → ℕ
unfolding exponent_of
significand_of n = n / 2 ^ exponent_of n

-- Numbers 4 and 5: the sign bit, the significand and the exponent. Order 4: what is not finite is refused 2 at 0
unfoldable pub apart_of : Float → Outcome Parts
apart_of nan = refuses not_finite 0
apart_of (inf s) = refuses not_finite 0
apart_of (fin s m e) = answers (record {
  negative = s;
  significand = significand_of (mag binary64 (fin s m e));
  exponent = exponent_of (mag binary64 (fin s m e));
})

-- the promise: the parts, or the refusal
abbrev pub TakenSays : Float → Result Parts Refusal → Type 0
TakenSays x r = said r ≡ apart_of x

-- the double that has these parts
unfoldable pub together : Parts → Float
together p = of_units binary64 p.negative (p.significand * 2 ^ p.exponent)
