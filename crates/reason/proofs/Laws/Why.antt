-- What keeps the promise of `why`. In order: a zone that answers; what is told by the zone's answer and the room; the edge that has the point; the edges
-- that count. Not here: what the promise says (`Calls`). Assumes nothing.
use mathlib.Core.Path.{◌≡◌, refl, sym, ap, ap₂, ◌∙◌}
use mathlib.Core.Bool.{Bool, true, false, cond}
use mathlib.Core.List.{List, ◌∷◌, ◌++◌, map}
use Prim.Native.Nat.{ℕ, suc, ◌+◌, ◌*◌, ◌/◌, ◌≤◌, ◌<◌}
use native.Mathlib.Omega.{arith}
use lib.Dec.{leb}
use lib.IntN.{ℤ, pos, negsuc, ◌-ℤ◌}
use lib.ListN.{length, length-map, take, drop, get_or}
use lib.Seq.{drop-cons}
use lib.Ieee.{Float}
use borrow.Author.Tests.{le-leb, lt-leb}
use mir.Syntax.{w64}
use mir.ValLaws.{to_z-of_z}
use Rattle.std.specs.Prelude.{Result, Ok, Err}
use Rattle.refusal.specs.Outcome.{Outcome, answers, refuses, no_room, kind_number}
use Rattle.refusal.specs.Judged.{require, also}
use Rattle.refusal.specs.declared.Kind.TheVariants.{NoRoom}
use Rattle.refusal.specs.declared.Refusal.{Refusal}
use Rattle.refusal.proofs.Laws.Judged.{require_holds, require_fails}
use Rattle.ground.specs.Edge.{Edge, edge, edges_of}
use Rattle.ground.specs.Zone.{Lies, outside, border, inside, tally_of, total_of}
use Rattle.ground.specs.Reason.{Entry, list_from, is_corner, Reason, on_border, is_inside, is_outside, edge_of, reason_at, reason_of, entries_of}
use Rattle.ground.proofs.Laws.Reason.{listed_many, listed_few}
use Rattle.point.specs.declared.Point.{Point}
use Rattle.point.specs.Accepted.{Accepted}
use Rattle.point.specs.Spot.{spot_of}
use Rattle.word64.specs.Word.{SignedDifferenceSays}
use Rattle.word64.proofs.Laws.Signed.{again}
use Rattle.word64.proofs.Laws.Difference.{difference_of_last_words}
use Rattle.whole.proofs.Laws.Parts.{up, dn, ≤_parts, <_parts}
use Rattle.geometry.specs.Zone.{most, corners_of, edge_at, place_in, place_said, zone_said, zone_of}
use Rattle.geometry.specs.declared.answer.Place.TheVariants.{Border as PlaceBorder}
use Rattle.geometry.proofs.Laws.Answered.{accepted_pass, zone_answered, zoned_answers}
use Rattle.geometry.proofs.Laws.Calls.{zone_border}
use Rattle.geometry.proofs.Laws.Edges.{edges_drop, edges_length}
use Rattle.reason.specs.Why.{reason_in, code, needed_in, why_of, why_said, numbered, number_said, lent_after, WhySays}
use Rattle.reason.specs.Parts.{IsZone, ListedSays, codes_in, CountedSays}
use Rattle.reason.specs.declared.listing.Listed.{Listed}
use Rattle.reason.specs.declared.answer.Counted.{Counted}
use Rattle.reason.specs.declared.answer.Why.{Why}
use Rattle.reason.specs.declared.answer.Why.TheVariants.{Border, Inside, Outside}

-- ---- a total as it is read again: it fits
pub total_again : (a b : ℕ) (d : ℤ) → SignedDifferenceSays a b d → again d ≡ d
unfolding up dn
total_again a b (pos n) says = to_z-of_z w64 (pos n) (record { sfits = omega (arith, (<_parts (pos n) _).0 says.most) })
total_again a b (negsuc n) says = to_z-of_z w64 (negsuc n) (record { sfits = omega (arith, (≤_parts _ (negsuc n)).0 says.least) })

-- inside or outside
abbrev pub why_by : Bool → Counted → Why
why_by true = Inside
why_by false = Outside

abbrev pub why_from : Bool → Result Counted Refusal → Result Why Refusal
why_from b (Ok c) = Ok (why_by b c)
why_from b (Err r) = Err r

-- ---- a zone that answers is not refused, and its point is accepted
pub answered_zoned : (xs : List Float) (p : Point) (l : Lies) → zone_of xs p ≡ answers l → IsZone xs × Accepted p × (l ≡ place_in xs p)
answered_zoned xs p l e =
    let a = zone_answered xs p l e in
    let all = accepted_pass (p.x ∷ p.y ∷ xs) a.accepted in (
      record {
        corners = omega (arith, a.even);
        some = a.some;
        few = a.few;
        accepted = λ k h. record { x = all (suc (suc (2 * k))) (omega arith); y = all (suc (suc (2 * k + 1))) (omega arith) };
      },
      record { x = all 0 (omega arith); y = all 1 (omega arith) },
      sym a.place,
    )

-- ---- what is told
module _ (xs : List Float) (p : Point) where
  -- as the zone is refused
  pub why_refused_zone : (room number place : ℕ) → zone_of xs p ≡ refuses number place → why_of xs p room ≡ refuses number place
  unfolding why_of
  why_refused_zone room number place e = rw e

  -- and where it answers, by the room
  after_zone : ℕ → Outcome (Reason (List Entry))
  after_zone room = also (require (leb (needed_in xs p) room) no_room 0) (λ _. answers (reason_in xs p))

  after_zone_lem : (room : ℕ) (l : Lies) → zone_of xs p ≡ answers l → why_of xs p room ≡ after_zone room
  unfolding why_of after_zone
  after_zone_lem room l e = rw e

  module _ (room : ℕ) (l : Lies) (e : zone_of xs p ≡ answers l) where
    pub why_fits : needed_in xs p ≤ room → why_of xs p room ≡ answers (reason_in xs p)
    unfolding after_zone
    why_fits h =
        after_zone_lem room l e
        ∙ require_holds no_room 0 (λ (_ : Unit {0}). answers (reason_in xs p)) (le-leb (needed_in xs p) room h)

    pub why_short : room < needed_in xs p → why_of xs p room ≡ refuses no_room 0
    unfolding after_zone
    why_short h =
        after_zone_lem room l e
        ∙ require_fails no_room 0 (λ (_ : Unit {0}). answers (reason_in xs p)) (lt-leb (needed_in xs p) room h)

  -- an answer and a refusal keep the promise
  tells_answer : (lent : List ℕ) (r : Result Why Refusal) (left : List ℕ) (reason : Reason (List Entry)) → why_of xs p (length lent) ≡ answers reason
      → why_said r ≡ answers (numbered reason)
      → left ≡ map code (entries_of reason) ++ drop (length (map code (entries_of reason))) lent → WhySays xs p lent r left
  tells_answer lent r left reason e said stands = record {
    answer = said ∙ sym (ap number_said e);
    room = stands ∙ sym (ap (λ (o : Outcome (Reason (List Entry))). lent_after o lent) e);
  }

  tells_refused : (lent : List ℕ) (r : Refusal) → why_of xs p (length lent) ≡ refuses (kind_number r.kind) r.place → WhySays xs p lent (Err r) lent
  unfolding why_said
  tells_refused lent r e = record {
    answer = sym (ap number_said e);
    room = sym (ap (λ (o : Outcome (Reason (List Entry))). lent_after o lent) e);
  }

  pub zone_refused_says : (lent : List ℕ) (r : Refusal) → zone_said (Err r) ≡ zone_of xs p → WhySays xs p lent (Err r) lent
  unfolding zone_said
  zone_refused_says lent r e = tells_refused lent r (why_refused_zone (length lent) (kind_number r.kind) r.place (sym e))

  -- ---- a zone and a point that are not refused
  module _ (z : IsZone xs) (a : Accepted p) where
    answered : zone_of xs p ≡ answers (place_in xs p)
    answered = zoned_answers xs (length xs / 2) p z a

    -- ---- the edge that has the point
    pub edge_number : (k : ℕ) → border k ≡ place_in xs p → k < length xs / 2
    unfolding zone_said place_said
    edge_number k e = ((zone_border xs p (PlaceBorder k) (ap answers e ∙ sym answered) k).0 refl).inside

    pub edge_of_lem : (k : ℕ) → k < length xs / 2 → edge_of (edges_of (corners_of xs)) k (spot_of p) ≡ edge_at xs k
    edge_of_lem k h =
        let row = edges_of (corners_of xs) in
        let none = edge (spot_of p) (spot_of p) in
        let within : k < length row = omega (arith, edges_length xs (length xs / 2) z.corners) in
        ap (λ (l : List Edge). get_or l 0 none) (sym (drop-cons row k none within) ∙ edges_drop xs (length xs / 2) k z.corners h)

    pub met_says : (lent : List ℕ) (k : ℕ) → border k ≡ place_in xs p
        → WhySays xs p lent (Ok (Border (record { edge = k; corner = is_corner (edge_at xs k) (spot_of p) }))) lent
    unfolding why_said reason_in reason_of place_in
    met_says lent k e =
        let reason : reason_in xs p ≡ on_border k (is_corner (edge_at xs k) (spot_of p)) =
        ap (λ (l : Lies). reason_at l (edges_of (corners_of xs)) (spot_of p)) (sym e)
        ∙ ap (λ (f : Edge). on_border k (is_corner f (spot_of p))) (edge_of_lem k (edge_number k e)) in
        let none : needed_in xs p ≡ 0 = ap (λ (r : Reason (List Entry)). length (entries_of r)) reason in
        tells_answer lent _ lent (on_border k (is_corner (edge_at xs k) (spot_of p)))
        (why_fits (length lent) (place_in xs p) answered (omega arith) ∙ ap answers reason) refl refl

    -- ---- the edges that count
    abbrev list : List Entry
    list = list_from 0 (edges_of (corners_of xs)) (spot_of p)

    abbrev total : ℤ
    total = total_of (tally_of (edges_of (corners_of xs)) (spot_of p))

    abbrev reason_by : {A : Type 0} → Bool → ℤ → A → Reason A
    reason_by true = is_inside
    reason_by false = is_outside

    pub few_entries : length list ≤ most
    few_entries =
        omega (arith, listed_few 0 (edges_of (corners_of xs)) (spot_of p), edges_length xs (length xs / 2) z.corners, z.few)

    -- by the counts that were found with them
    module _ (c : Listed) (l : ListedSays xs p c) where
      pub many : length (codes_in xs p) ≡ c.ups + c.downs
      many =
          length-map list code ∙ listed_many 0 (edges_of (corners_of xs)) (spot_of p)
          ∙ sym (ap₂ (λ (m n : ℕ). m + n) l.ups l.downs)

      pub counted_few : c.ups + c.downs ≤ most
      counted_few = omega (arith, many, length-map list code, few_entries)

      -- the total of the counts
      total_is : (d : ℤ) → SignedDifferenceSays c.ups c.downs d → d ≡ total
      unfolding total_of tally_of
      total_is d says =
          difference_of_last_words c.ups c.downs c.ups c.downs d
          (omega (arith, counted_few)) (omega (arith, counted_few)) (omega (arith, counted_few)) (omega (arith, counted_few)) says
          ∙ ap₂ (λ (u d : ℕ). pos u -ℤ pos d) l.ups l.downs

      pub counted_as : (lent : List ℕ) (d : ℤ) → SignedDifferenceSays c.ups c.downs d → (entries left : List ℕ)
          → entries ≡ take (c.ups + c.downs) c.entries → length entries ≤ length lent → left ≡ entries ++ drop (length entries) lent
          → CountedSays xs p lent (Ok (record { total = again d; entries = length entries })) left
      counted_as lent d says entries left are fits stands =
          let same : entries ≡ codes_in xs p = are ∙ l.stand in
          let found : ℤ → ℕ → Counted = λ t n. record { total = t; entries = n } in (
            ap₂ found (total_again c.ups c.downs d says ∙ total_is d says) (ap length same),
            omega (arith, ap length same),
            rw (← same) stands,
          )

    -- inside or outside
    module _ (b : Bool) (e : cond b inside outside ≡ place_in xs p) where
      reason_by_lem : reason_in xs p ≡ reason_by b total list
      unfolding reason_in reason_of place_in
      reason_by_lem = ap (λ (l : Lies). reason_at l (edges_of (corners_of xs)) (spot_of p)) (sym e) ∙ go b
        where
          go : (b : Bool) → reason_at (cond b inside outside) (edges_of (corners_of xs)) (spot_of p) ≡ reason_by b total list
          go true = refl
          go false = refl

      entries_by : entries_of (reason_in xs p) ≡ list
      entries_by = ap entries_of reason_by_lem ∙ go b
        where
          go : (b : Bool) → entries_of (reason_by b total list) ≡ list
          go true = refl
          go false = refl

      needed : length (codes_in xs p) ≡ needed_in xs p
      needed = length-map list code ∙ sym (ap length entries_by)

      said_by : (t : Bool)
          → why_said (Ok (why_by t (record { total = total; entries = length (codes_in xs p) }))) ≡ answers (numbered (reason_by t total list))
      unfolding why_said
      said_by true = ap (λ (n : ℕ). answers (is_inside total n)) (length-map list code)
      said_by false = ap (λ (n : ℕ). answers (is_outside total n)) (length-map list code)

      pub placed_says : (lent : List ℕ) (r : Result Counted Refusal) (left : List ℕ)
          → CountedSays xs p lent r left → WhySays xs p lent (why_from b r) left
      placed_says lent (Ok c) left (is, fits, stands) =
          tells_answer lent _ left (reason_in xs p)
          (why_fits (length lent) (place_in xs p) answered (omega (arith, needed)))
          (ap (λ (x : Counted). why_said (Ok (why_by b x))) is ∙ said_by b ∙ ap (λ (r : Reason (List Entry)). answers (numbered r)) (sym reason_by_lem))
          (stands ∙ ap (λ (x : List Entry). map code x ++ drop (length (map code x)) lent) (sym entries_by))
      placed_says lent (Err r) left (is, short, stay) =
          rw (stay, is)
          (tells_refused lent (record { kind = NoRoom; place = 0 }) (why_short (length lent) (place_in xs p) answered (omega (arith, needed))))

      -- the counts that were found with the edges are what is answered, whole
      module _ (c : Listed) (l : ListedSays xs p c) where
        abbrev put : List ℕ
        put = take (c.ups + c.downs) c.entries

        put_many : length put ≡ c.ups + c.downs
        put_many = ap length l.stand ∙ many c l

        pub counted_says : (lent : List ℕ) (d : ℤ) → SignedDifferenceSays c.ups c.downs d → c.ups + c.downs ≤ length lent → (left : List ℕ)
            → left ≡ put ++ drop (length put) lent → (t : Bool) → b ≡ t
            → WhySays xs p lent (Ok (why_by t (record { total = again d; entries = c.ups + c.downs }))) left
        counted_says lent d says fits left stands t same =
            rw (← same, ← put_many)
            (placed_says lent (Ok (record { total = again d; entries = length put })) left (counted_as c l lent d says put left refl (omega (arith, put_many)) stands))
