-- A list of coordinates: it is refused 3, exactly at the first that is not accepted, or all are accepted. Assumes nothing.
use mathlib.Core.Path.{◌≡◌}
use mathlib.Core.List.{List}
use mathlib.Core.Logic.{◌↔◌}
use Prim.Native.Nat.{ℕ}
use lib.Ieee.{Float, nan}
use Rattle.refusal.specs.Outcome.{answers, refuses, not_accepted}
use Rattle.refusal.specs.Search.{AllPass, IsFirst}
use Rattle.refusal.proofs.Laws.Search.{passing_answered, passing_iff}
use Rattle.point.specs.Accepted.{accepted_of, accepting_from}

module _ {A : Type 0} (xs : List Float) (answer : A) where
  pub accepting_refused : (number place : ℕ)
      → (accepting_from 0 xs answer ≡ refuses number place) ↔ ((number ≡ not_accepted) × IsFirst accepted_of nan xs place)
  accepting_refused number place = passing_iff accepted_of not_accepted nan xs answer number place

  pub accepting_answered : {given : A} → accepting_from 0 xs answer ≡ answers given → AllPass accepted_of nan xs
  accepting_answered {given} e = (passing_answered accepted_of not_accepted nan answer 0 xs given e).0
