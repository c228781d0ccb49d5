-- Why each release has its place, in words. In order: texts that are computed, one of each form; an entry by its byte; the entries, one by one; a
-- total; the border; what the reason of a place in a good zone is, by what was answered; its line. Not here: the pieces (`Explained`).
-- Assumes nothing.
use Prim.Native.Nat.{ℕ, suc, ◌+◌, ◌*◌, ◌/◌, ◌%◌, ◌≤◌, ◌<◌}
use mathlib.Core.Path.{◌≡◌, refl, sym, ap, ap₂, ◌∙◌}
use mathlib.Core.Bool.{Bool, true, false, cond}
use mathlib.Core.List.{List, [], ◌∷◌, ◌++◌, map, append_assoc, append-nil}
use native.Mathlib.Numerals.{add-one}
use native.Mathlib.Omega.{arith}
use lib.Dec.{eqb}
use lib.IntN.{ℤ, pos, negsuc, nat_abs}
use lib.Signed.{le_z}
use borrow.Author.Tests.{leb-false}
use lib.Ieee.{Float}
use lib.ListN.{length, take, drop, get_or, length-append, length-map, drop_of_length-le}
use lib.Seq.{take_at, drop-cons}
use Rattle.std.specs.Prelude.{Result, Ok, Err, IsOk}
use Rattle.refusal.specs.Outcome.{Outcome, answers}
use Rattle.refusal.specs.declared.Refusal.{Refusal}
use Rattle.refusal.proofs.Laws.Outcome.{never, no_refusal}
use Rattle.ground.specs.Zone.{Lies, outside, border, inside}
use Rattle.ground.specs.Edge.{edges_of}
use Rattle.ground.specs.Reason.{Turn, up, down, Entry, entry, Reason, on_border, is_inside, is_outside, reason_at, reason_of, entries_of}
use Rattle.point.specs.declared.Point.{Point}
use Rattle.point.specs.Accepted.{Accepted}
use Rattle.point.specs.Spot.{spot_of}
use Rattle.geometry.specs.Zone.{most, Zoned, corners_of, place_in}
use Rattle.geometry.proofs.Laws.Answered.{zoned_answers}
use Rattle.reason.specs.Why.{reason_in, code, why_of, why_said, numbered, number_said, lent_after, WhySays}
use Rattle.reason.specs.declared.answer.Met.{Met}
use Rattle.reason.specs.declared.answer.Counted.{Counted}
use Rattle.reason.specs.declared.answer.Why.{Why}
use Rattle.reason.specs.declared.answer.Why.TheVariants.{Border, Inside, Outside}
use Rattle.reason.proofs.Laws.Why.{why_fits, few_entries}
use Rattle.serve.specs.Text.{ascii, decimal_within, decimal}
use Rattle.serve.specs.Reasons.{entry_text, entries_text, total_text, counted_text, reason_text, reason_line}
use Rattle.serve.specs.Parts.{Puts, entry_of}

-- ---- texts
-- the line of a release whose reason is known
abbrev line : ℕ → Reason (List Entry) → List ℕ
line release reason = decimal release ++ reason_text reason

pub inside_example : line 1 (is_inside (pos 1) (entry 1 up ∷ [])) ≡ ascii "1 inside: edge 1 up, total 1\n"
unfolding decimal_within decimal entries_text reason_text
inside_example = refl

pub between_example : line 2 (on_border 1 false) ≡ ascii "2 border: edge 1, between its corners\n"
unfolding decimal_within decimal entries_text reason_text
between_example = refl

pub none_example : line 3 (is_outside (pos 0) []) ≡ ascii "3 outside: no edge counts, total 0\n"
unfolding decimal_within decimal entries_text reason_text
none_example = refl

pub corner_example : line 4 (on_border 1 true) ≡ ascii "4 border: edge 1, at one of its corners\n"
unfolding decimal_within decimal entries_text reason_text
corner_example = refl

pub outside_example : line 5 (is_outside (pos 0) (entry 1 up ∷ entry 3 down ∷ [])) ≡ ascii "5 outside: edge 1 up, edge 3 down, total 0\n"
unfolding decimal_within decimal entries_text reason_text
outside_example = refl

pub down_example : line 6 (is_inside (negsuc 0) (entry 2 down ∷ [])) ≡ ascii "6 inside: edge 2 down, total -1\n"
unfolding decimal_within decimal entries_text reason_text
down_example = refl

pub twice_example : line 512 (is_inside (pos 2) (entry 0 up ∷ entry 63 up ∷ [])) ≡ ascii "512 inside: edge 0 up, edge 63 up, total 2\n"
unfolding decimal_within decimal entries_text reason_text
twice_example = refl

-- ---- an entry by its byte
pub entry_of_code : (x : Entry) → entry_of (code x) ≡ x
entry_of_code x = go x.edge x.turn
  where
    go : (k : ℕ) (t : Turn) → entry_of (code (entry k t)) ≡ entry k t
    go k up =
        let half : (2 * k + 0) / 2 ≡ k = omega arith in
        let even : (2 * k + 0) % 2 ≡ 0 = omega arith in
        ap₂ (λ (m n : ℕ). entry m (cond (eqb n 0) up down)) half even
    go k down =
        let half : (2 * k + 1) / 2 ≡ k = omega arith in
        let odd : (2 * k + 1) % 2 ≡ 1 = omega arith in
        ap₂ (λ (m n : ℕ). entry m (cond (eqb n 0) up down)) half odd

pub entries_of_codes : (xs : List Entry) → map entry_of (map code xs) ≡ xs
entries_of_codes [] = refl
entries_of_codes (x ∷ xs) = ap₂ (λ (y : Entry) (ys : List Entry). y ∷ ys) (entry_of_code x) (entries_of_codes xs)

-- ---- the entries, one by one
-- i of them stand
pub record Entering (entries before out : List ℕ) (i : ℕ) : Type 0 where
  pub short : length out ≤ length before + 32 * i
  pub all : out ++ entries_text (map entry_of (drop i entries)) ≡ before ++ entries_text (map entry_of entries)

module _ (entries before out : List ℕ) (i : ℕ) (e : Entering entries before out i) where
  pub entering_turn : i < length entries → (after : List ℕ) → Puts 32 out (entry_text (entry_of (get_or entries i 0))) after
      → Entering entries before after (i + 1)
  unfolding entries_text
  entering_turn l after p =
      let text = entry_text (entry_of (get_or entries i 0)) in
      let later = entries_text (map entry_of (drop (suc i) entries)) in
      record {
        short = omega (arith, p.few, e.short, ap length p.stands, length-append out text);
        all = ap (λ (j : ℕ). after ++ entries_text (map entry_of (drop j entries))) (add-one i)
            ∙ ap (λ (l : List ℕ). l ++ later) p.stands
            ∙ append_assoc out text later
            ∙ ap (λ (l : List ℕ). out ++ entries_text (map entry_of l)) (sym (drop-cons entries i 0 l))
            ∙ e.all;
      }

  pub entering_done : i ≡ length entries → Puts (32 * length entries) before (entries_text (map entry_of entries)) out
  unfolding entries_text
  entering_done l =
      let text = entries_text (map entry_of entries) in
      let stands : out ≡ before ++ text =
      sym (append-nil out) ∙ ap (λ (l : List ℕ). out ++ entries_text (map entry_of l)) (sym (drop_of_length-le entries (omega arith))) ∙ e.all in
      record { few = omega (arith, e.short, ap length stands, length-append before text); stands = stands }

-- ---- a total, by its digits: from 0 on, and below it
pub total_whole : (z : ℤ) → le_z (pos 0) z ≡ true → decimal (nat_abs z) ≡ total_text z
total_whole (pos n) e = refl
total_whole (negsuc n) e = never (cc)

pub total_below : (z : ℤ) → le_z (pos 0) z ≡ false → ascii "-" ++ decimal (nat_abs z) ≡ total_text z
total_below (pos n) e = absurd (let z : ⊥ = omega (arith, leb-false 0 n e) in z)
total_below (negsuc n) e = refl

-- ---- the border
pub border_corner : (k : ℕ) (corner : Bool) → corner ≡ true
    → ascii " border: edge " ++ decimal k ++ ascii ", at one of its corners\n" ≡ reason_text (on_border k corner)
unfolding reason_text
border_corner k corner e = ap (λ (t : Bool). reason_text (on_border k t)) (sym e)

pub border_between : (k : ℕ) (corner : Bool) → corner ≡ false
    → ascii " border: edge " ++ decimal k ++ ascii ", between its corners\n" ≡ reason_text (on_border k corner)
unfolding reason_text
border_between k corner e = ap (λ (t : Bool). reason_text (on_border k t)) (sym e)

-- ---- the reason, by what was answered
-- on the border
border_same : (reason : Reason (List Entry)) (k : ℕ) (corner : Bool)
    → ◌≡◌ {A = Outcome (Reason ℕ)} (answers (on_border k corner)) (answers (numbered reason)) → on_border k corner ≡ reason
border_same (on_border m t) k corner e = let same : k ≡ m = cc in let at : corner ≡ t = cc in ap₂ on_border same at
border_same (is_inside total xs) k corner e = never (cc)
border_same (is_outside total xs) k corner e = never (cc)

-- inside or outside, with the entries that stand at the start of the lent room
abbrev counted_by : {A : Type 0} → Bool → ℤ → A → Reason A
counted_by true = is_inside
counted_by false = is_outside

abbrev stood_by : Reason (List Entry) → List ℕ → List ℕ
stood_by reason lent = map code (entries_of reason) ++ drop (length (map code (entries_of reason))) lent

entries_stood : (xs : List Entry) (lent : List ℕ) (n : ℕ) → length xs ≡ n
    → map entry_of (take n (map code xs ++ drop (length (map code xs)) lent)) ≡ xs
entries_stood xs lent n e =
    ap (map entry_of) (take_at (map code xs) (drop (length (map code xs)) lent) n (length-map xs code ∙ e)) ∙ entries_of_codes xs

counted_same : (b : Bool) (reason : Reason (List Entry)) (lent : List ℕ) (total : ℤ) (n : ℕ)
    → ◌≡◌ {A = Outcome (Reason ℕ)} (answers (counted_by b total n)) (answers (numbered reason))
    → (counted_by b total (map entry_of (take n (stood_by reason lent))) ≡ reason) × (n ≡ length (entries_of reason))
counted_same true (is_inside t xs) lent total n e =
    let same : total ≡ t = cc in
    let many : length xs ≡ n = cc in
    (ap₂ is_inside same (entries_stood xs lent n many), sym many)
counted_same false (is_outside t xs) lent total n e =
    let same : total ≡ t = cc in
    let many : length xs ≡ n = cc in
    (ap₂ is_outside same (entries_stood xs lent n many), sym many)
counted_same true (on_border k corner) lent total n e = never (cc)
counted_same true (is_outside t xs) lent total n e = never (cc)
counted_same false (on_border k corner) lent total n e = never (cc)
counted_same false (is_inside t xs) lent total n e = never (cc)

-- of a zone and a point that are not refused, where there is room for an entry of every edge
module _ (corners : List Float) (p : Point) (zoned : Zoned corners (length corners / 2)) (accepted : Accepted p) (lent left : List ℕ)
    (r : Result Why Refusal) (room : length lent ≡ most) (says : WhySays corners p lent r left) where
  few : length (entries_of (reason_in corners p)) ≤ most
  unfolding reason_in reason_of place_in
  few = go (place_in corners p) (few_entries corners p zoned accepted)
    where
      go : (l : Lies) → length (entries_of (reason_at inside (edges_of (corners_of corners)) (spot_of p))) ≤ most
          → length (entries_of (reason_at l (edges_of (corners_of corners)) (spot_of p))) ≤ most
      go outside h = h
      go inside h = h
      go (border k) h = omega arith

  told : why_of corners p (length lent) ≡ answers (reason_in corners p)
  told =
      why_fits corners p (length lent) (place_in corners p) (zoned_answers corners (length corners / 2) p zoned accepted)
      (omega (arith, few, room))

  said : why_said r ≡ answers (numbered (reason_in corners p))
  said = says.answer ∙ ap number_said told

  stood : left ≡ stood_by (reason_in corners p) lent
  stood = says.room ∙ ap (λ (o : Outcome (Reason (List Entry))). lent_after o lent) told

  -- nothing is refused
  pub reason_answers : IsOk r
  unfolding why_said
  reason_answers = go r said
    where
      go : (q : Result Why Refusal) → why_said q ≡ answers (numbered (reason_in corners p)) → IsOk q
      go (Ok why) e = refl
      go (Err q) e = no_refusal e

  pub reason_border : (m : Met) → r ≡ Ok (Border m) → reason_text (on_border m.edge m.corner) ≡ reason_text (reason_in corners p)
  unfolding why_said
  reason_border m e = ap reason_text (border_same (reason_in corners p) m.edge m.corner (ap why_said (sym e) ∙ said))

  counted : (b : Bool) (c : Counted) → why_said r ≡ answers (counted_by b c.total c.entries)
      → (counted_by b c.total (map entry_of (take c.entries left)) ≡ reason_in corners p) × (c.entries ≤ most)
  counted b c e =
      let same = counted_same b (reason_in corners p) lent c.total c.entries (sym e ∙ said) in (
        ap (λ (l : List ℕ). counted_by b c.total (map entry_of (take c.entries l))) stood ∙ same.0,
        omega (arith, same.1, few),
      )

  pub inside_few : (c : Counted) → r ≡ Ok (Inside c) → c.entries ≤ most
  unfolding why_said
  inside_few c e = (counted true c (ap why_said e)).1

  pub outside_few : (c : Counted) → r ≡ Ok (Outside c) → c.entries ≤ most
  unfolding why_said
  outside_few c e = (counted false c (ap why_said e)).1

  pub reason_inside : (c : Counted) → r ≡ Ok (Inside c)
      → ascii " inside: " ++ counted_text c.total (map entry_of (take c.entries left)) ≡ reason_text (reason_in corners p)
  unfolding why_said reason_text
  reason_inside c e = ap reason_text (counted true c (ap why_said e)).0

  pub reason_outside : (c : Counted) → r ≡ Ok (Outside c)
      → ascii " outside: " ++ counted_text c.total (map entry_of (take c.entries left)) ≡ reason_text (reason_in corners p)
  unfolding why_said reason_text
  reason_outside c e = ap reason_text (counted false c (ap why_said e)).0

-- the line of a release
pub line_is : (release : ℕ) (corners : List Float) (p : Point) → decimal release ++ reason_text (reason_in corners p) ≡ reason_line release corners p
unfolding reason_line
line_is release corners p = refl
