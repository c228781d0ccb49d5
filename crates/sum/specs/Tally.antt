-- The one pass that finds both extremes: what inner functions promise. Laws say that it finds what the look's definitions name.
use Rattle.std.specs.Prelude.{ℕ, ◌+◌, ◌≡◌, true, false, cond, List, Float, None}
use Rattle.double.specs.Worth.{AllDoubles}
use Rattle.sum.specs.Refused.{AllFinite}
use Rattle.sum.specs.Look.{on_side, as_far, count_of, extreme_of, index_of, look_by, verdict_of}
use Rattle.sum.specs.declared.look.Look.{Look}
use Rattle.sum.specs.declared.look.Tally.{Tally}

-- the tally of entries that stand from index i on
abbrev pub tally_of : ℕ → List Float → Tally
tally_of i xs = record {
  a = extreme_of false xs;
  at = i + index_of false xs;
  m = count_of false xs;
  b = extreme_of true xs;
  bt = i + index_of true xs;
  n = count_of true xs;
}

-- a tally with the entry x before it, at index i
unfoldable pub seen_of : ℕ → Float → Tally → Tally
seen_of i x t =
    cond (on_side false x)
    (cond (as_far false x t.a)
    (record { a = x; at = i; m = t.m + 1; b = t.b; bt = t.bt; n = t.n })
    (record { a = t.a; at = t.at; m = t.m + 1; b = t.b; bt = t.bt; n = t.n }))
    (cond (on_side true x)
    (cond (as_far true x t.b)
    (record { a = t.a; at = t.at; m = t.m; b = x; bt = i; n = t.n + 1 })
    (record { a = t.a; at = t.at; m = t.m; b = t.b; bt = t.bt; n = t.n + 1 }))
    t)

abbrev pub look_at : Tally → Look
look_at t = look_by t.m t.n t.a t.b

-- what a step is handed: an undecided list of finite doubles, and its tally
pub record Stepping (xs : List Float) (t : Tally) : Type 0 where
  pub tally : t ≡ tally_of 0 xs
  pub doubles : AllDoubles xs
  pub finite : AllFinite xs
  pub undecided : verdict_of xs ≡ None
