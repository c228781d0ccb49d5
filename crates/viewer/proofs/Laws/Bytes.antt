-- Doubles from bytes. In order: eight bytes of a list; the value of eight bytes; how many doubles there are, and the last of them; the loop
-- that decodes. Assumes nothing.
use mathlib.Core.Path.{◌≡◌, refl, sym, ap, ap₂, ◌∙◌}
use mathlib.Core.List.{List, [], ◌∷◌, ◌++◌}
use Prim.Native.Nat.{ℕ, zero, suc, ◌+◌, ◌*◌, ◌^◌, ◌/◌, ◌≤◌, ◌<◌}
use native.Mathlib.Omega.{arith}
use native.Mathlib.Numerals.{add-one}
use lib.ListN.{length, take, drop, get_or, set}
use lib.Seq.{drop-cons, drop-drop, take-suc-set}
use lib.Ieee.{Float, binary64, of_bits}
use Rattle.std.proofs.Common.{w64}
use Rattle.std.specs.Int.{from_le_bytes}
use Rattle.std.specs.Simd.{first_chunks}
use Rattle.viewer.specs.Bytes.{little_endian, doubles_from, doubles_of}

-- the byte at an index, and those after it
bytes_from_lem : (bytes : List ℕ) (k j next : ℕ) → suc j ≡ next → j < length bytes
    → take (suc k) (drop j bytes) ≡ get_or bytes j 0 ∷ take k (drop next bytes)
bytes_from_lem bytes k j next e h = rw (drop-cons bytes j 0 h, e)

pub eight_bytes : (bytes : List ℕ) (at : ℕ) → at + 8 ≤ length bytes
    → take 8 (drop at bytes)
    ≡ get_or bytes at 0
    ∷ get_or bytes (at + 1) 0
    ∷ get_or bytes (at + 2) 0
    ∷ get_or bytes (at + 3) 0
    ∷ get_or bytes (at + 4) 0
    ∷ get_or bytes (at + 5) 0
    ∷ get_or bytes (at + 6) 0
    ∷ get_or bytes (at + 7) 0
    ∷ []
eight_bytes bytes at h =
    rw (
      bytes_from_lem bytes 7 at (at + 1) (omega arith) (omega arith),
      bytes_from_lem bytes 6 (at + 1) (at + 2) (omega arith) (omega arith),
      bytes_from_lem bytes 5 (at + 2) (at + 3) (omega arith) (omega arith),
      bytes_from_lem bytes 4 (at + 3) (at + 4) (omega arith) (omega arith),
      bytes_from_lem bytes 3 (at + 4) (at + 5) (omega arith) (omega arith),
      bytes_from_lem bytes 2 (at + 5) (at + 6) (omega arith) (omega arith),
      bytes_from_lem bytes 1 (at + 6) (at + 7) (omega arith) (omega arith),
      bytes_from_lem bytes 0 (at + 7) (at + 8) (omega arith) (omega arith),
    )

-- byte i counts 256^i
pub little_endian_eight : (a b c d e f g h : ℕ)
    → little_endian (a ∷ b ∷ c ∷ d ∷ e ∷ f ∷ g ∷ h ∷ [])
    ≡ a + b * 256 + c * 256 ^ 2 + d * 256 ^ 3 + e * 256 ^ 4 + f * 256 ^ 5 + g * 256 ^ 6 + h * 256 ^ 7
little_endian_eight a b c d e f g h = omega arith

-- ---- the doubles
pub doubles_length : (n : ℕ) (bytes : List ℕ) → length (doubles_from n bytes) ≡ n
unfolding doubles_from
doubles_length zero bytes = refl
doubles_length (suc n) bytes = ap suc (doubles_length n (drop 8 bytes))

-- the double of pattern i
abbrev pub double_at : List ℕ → ℕ → Float
double_at bytes i = of_bits binary64 (little_endian (take 8 (drop (8 * i) bytes)))

doubles_last : (n : ℕ) (bytes : List ℕ) → doubles_from (suc n) bytes ≡ doubles_from n bytes ++ (double_at bytes n ∷ [])
unfolding doubles_from
doubles_last zero bytes = refl
doubles_last (suc n) bytes =
    let e : 8 + 8 * n ≡ 8 * suc n = omega arith in
    let there : drop (8 * n) (drop 8 bytes) ≡ drop (8 * suc n) bytes = drop-drop (8 * n) 8 bytes ∙ ap (λ (k : ℕ). drop k bytes) e in
    let word : List ℕ → Float = λ l. of_bits binary64 (little_endian (take 8 l)) in
    let last : double_at (drop 8 bytes) n ≡ double_at bytes (suc n) = ap word there in
    ap (λ (l : List Float). of_bits binary64 (little_endian (take 8 bytes)) ∷ l)
    (doubles_last n (drop 8 bytes) ∙ ap (λ (x : Float). doubles_from n (drop 8 bytes) ++ (x ∷ [])) last)

-- ---- the loop
-- pattern i of the first n
pub pattern_at : (n : ℕ) (bytes : List ℕ) (i : ℕ) → i < n → get_or (first_chunks 8 n bytes) i [] ≡ take 8 (drop (8 * i) bytes)
pattern_at zero bytes i h = let z : ⊥ = omega arith in absurd z
pattern_at (suc n) bytes zero h = refl
pattern_at (suc n) bytes (suc i) h =
    let e : 8 + 8 * i ≡ 8 * suc i = omega arith in
    pattern_at n (drop 8 bytes) i (omega arith)
    ∙ ap (take 8) (drop-drop (8 * i) 8 bytes ∙ ap (λ (k : ℕ). drop k bytes) e)

-- its number, as std reads it
pub pattern_is : (bytes : List ℕ) (i : ℕ) → i < length bytes / 8 → {pattern : List ℕ} → pattern ≡ take 8 (drop (8 * i) bytes)
    → from_le_bytes w64 pattern ≡ little_endian (take 8 (drop (8 * i) bytes))
pattern_is bytes i h e =
    let bytes_are = eight_bytes bytes (8 * i) (omega arith) in
    ap (from_le_bytes w64) (e ∙ bytes_are) ∙ eight _ _ _ _ _ _ _ _ ∙ ap little_endian (sym bytes_are)
  where
    eight : (a b c d e f g h : ℕ)
        → from_le_bytes w64 (a ∷ b ∷ c ∷ d ∷ e ∷ f ∷ g ∷ h ∷ []) ≡ little_endian (a ∷ b ∷ c ∷ d ∷ e ∷ f ∷ g ∷ h ∷ [])
    eight a b c d e f g h = omega arith

pub decoding_start : (bytes : List ℕ) (list : List Float) → take 0 list ≡ doubles_from 0 bytes
unfolding doubles_from
decoding_start bytes list = refl

pub decoding_turn : (bytes : List ℕ) (list : List Float) (i : ℕ) → take i list ≡ doubles_from i bytes → i < length list → (x : Float)
    → x ≡ double_at bytes i → take (i + 1) (set list i x) ≡ doubles_from (i + 1) bytes
decoding_turn bytes list i done fits x e =
    let one_more = ap₂ (λ (l : List Float) (y : Float). l ++ (y ∷ [])) done e in
    rw add-one (take-suc-set list i x fits ∙ one_more ∙ sym (doubles_last i bytes))

pub decoding_done : (bytes : List ℕ) (list : List Float) (n : ℕ) → n ≡ length bytes / 8 → take n list ≡ doubles_from n bytes
    → take (length bytes / 8) list ≡ doubles_of bytes
unfolding doubles_of
decoding_done bytes list n e done = rw e at done
