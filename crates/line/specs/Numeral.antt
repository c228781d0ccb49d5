-- The numbers of a question: a double by its bit pattern, and a count.
use Rattle.std.specs.Prelude.{ℕ, ◌+◌, ◌-◌, ◌*◌, ◌^◌, Bool, ◌&&◌, cond, List, [], ◌∷◌, leb, ltb, eqb, length, Option, Some, None}

-- a byte's code is from the one to the other
abbrev pub between : ℕ → ℕ → ℕ → Bool
between from to b = leb from b && leb b to

-- `0` to `9` are the codes 48 to 57, `A` to `F` are 65 to 70, `a` to `f` are 97 to 102
unfoldable pub digit_of : ℕ → Option ℕ
digit_of b =
    cond (between 48 57 b) (Some (b - 48))
    (cond (between 65 70 b) (Some (b - 65 + 10))
    (cond (between 97 102 b) (Some (b - 97 + 10))
    None))

-- goes on with a digit of the base, where there is one
abbrev pub with_digit : {A : Type 0} → ℕ → Option ℕ → (ℕ → A) → A → A
with_digit base (Some d) k other = cond (ltb d base) (k d) other
with_digit base None k other = other

-- the number v and then the digits of a word, the most significant first; none where a byte is no digit of the base
unfoldable pub onward : ℕ → ℕ → List ℕ → Option ℕ
onward base v [] = Some v
onward base v (b ∷ bs) = with_digit base (digit_of b) (λ d. onward base (base * v + d) bs) None

-- a double: the 16 hexadecimal digits of its pattern, no more and no fewer; capitals and small letters count alike
unfoldable pub pattern_of : List ℕ → Option ℕ
unfolding onward
pattern_of word = cond (eqb (length word) 16) (onward 16 0 word) None

-- a count is below 2^32
abbrev pub small : Option ℕ → Option ℕ
small (Some v) = cond (ltb v (2 ^ 32)) (Some v) None
small None = None

-- and is written in decimal digits alone, no sign among them; a 0 comes first only where it is the whole word
unfoldable pub count_of : List ℕ → Option ℕ
unfolding onward
count_of [] = None
count_of (b ∷ []) = small (onward 10 0 (b ∷ []))
count_of (b ∷ c ∷ bs) = cond (eqb b 48) None (small (onward 10 0 (b ∷ c ∷ bs)))
