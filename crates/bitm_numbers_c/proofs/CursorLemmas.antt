-- A cursor of C moves as the spot that it holds.
use Rattle.std.proofs.Common.{◌≡◌, ℕ, ◌<◌, ◌≤◌, List, Option, Some, None, drop, sym, ap, subst, ◌∙◌, arith}
use Rattle.std.specs.Prelude.{IfSome}
use Rattle.bitm_tables.specs.declared.answer.Answer.{Answer}
use Rattle.bitm_tables.specs.declared.answer.Answer.TheVariants.{Found, Absent, Wrong}
use Rattle.bitm_tables.specs.Tables.{Lists}
use Rattle.elias_fano.proofs.lemmas.HintLemmas.{holds_without}
use Rattle.elias_fano.specs.SequenceParts.{parts_of, parts_with, Holds}
use Rattle.elias_fano.specs.Low.{unread, Lows}
use Rattle.elias_fano.specs.Parts.{ArePartsOf}
use Rattle.elias_fano.specs.Sequence.{Reaches}
use Rattle.postings.specs.Moves.{IfFound, HasMoved, IsAnswered, IsHere, IsMove}
use Rattle.postings.specs.Spot.{IsSpot}
use Rattle.postings.specs.declared.spot.Spot.{Spot}
use Rattle.postings.proofs.MoveLemmas.{move_found}
use Rattle.bitm_abi.specs.Sequence.{sequence_parts, IsSequenceSized}
use Rattle.bitm_abi.specs.declared.sequence.Sequence.{Sequence}
use Rattle.bitm_numbers_c.specs.Cursor.{left_in, sequence_items, spot_of, IsMoveIn, IsRight}
use Rattle.bitm_numbers_c.specs.declared.cursors.cursor.Cursor.{Cursor}

-- the parts as they are read, which is without hints
pub held_parts : (xs : List ℕ) (s : Sequence) (low : Lows) (lists : Lists) → low ≡ unread s.low.now s.width → lists ≡ (sequence_parts s).upper
    → Holds xs (sequence_parts s) → Holds xs (parts_with s.len low lists)
held_parts xs s low lists low_is is h =
    subst (λ (l : Lows). Holds xs (parts_with s.len l lists)) (sym low_is)
    (subst (λ (u : Lists). Holds xs (parts_of s.len s.width s.low.now u)) (sym is)
    (holds_without s.len (unread s.low.now s.width) (sequence_parts s).upper s.hints.now xs h))

-- a cursor over the same sequence at a spot of it
pub right_at : (old new : Cursor) (spot : Spot) → new.sequence ≡ old.sequence → spot_of new ≡ spot → IsSequenceSized old.sequence
    → Holds (sequence_items old.sequence) (sequence_parts old.sequence) → IsHere (sequence_items old.sequence) old.sequence.words.now old.sequence.len spot → IsRight new
right_at old new spot same at sized parts here = record {
  sized = subst IsSequenceSized (sym same) sized;
  parts = subst (λ (s : Sequence). Holds (sequence_items s) (sequence_parts s)) (sym same) parts;
  here = subst (λ (s : Sequence). IsHere (sequence_items s) s.words.now s.len (spot_of new)) (sym same)
      (subst (λ (p : Spot). IsHere (sequence_items old.sequence) old.sequence.words.now old.sequence.len p) (sym at) here);
}

-- and the numbers from it on
pub left_at : (old new : Cursor) (spot : Spot) → new.sequence ≡ old.sequence → spot_of new ≡ spot → left_in new ≡ drop spot.at (sequence_items old.sequence)
left_at old new spot same at =
    ap (λ (s : Sequence). drop new.index (sequence_items s)) same ∙ ap (λ (p : Spot). drop p.at (sequence_items old.sequence)) at

module _ (old new : Cursor) (spot : Spot) (low : Lows) (lists : Lists) (low_is : low ≡ unread old.sequence.low.now old.sequence.width)
    (is : lists ≡ (sequence_parts old.sequence).upper) (same : new.sequence ≡ old.sequence) (at : spot_of new ≡ spot) where
  -- a cursor at the first number
  pub started : (xs : List ℕ) → sequence_items old.sequence ≡ xs → IsSequenceSized old.sequence → Holds xs (sequence_parts old.sequence)
      → (Holds xs (parts_with old.sequence.len low lists) → IsHere xs lists.words old.sequence.len spot × (drop spot.at xs ≡ xs))
      → IsRight new × (left_in new ≡ xs)
  started xs items sized h first =
      let began = first (held_parts xs old.sequence low lists low_is is h) in
      let here : IsHere xs old.sequence.words.now old.sequence.len spot = subst (λ (u : Lists). IsHere xs u.words old.sequence.len spot) is began.0 in (
        right_at old new spot same at sized (subst (λ (ys : List ℕ). Holds ys (sequence_parts old.sequence)) (sym items) h)
            (subst (λ (ys : List ℕ). IsHere ys old.sequence.words.now old.sequence.len spot) (sym items) here),
        left_at old new spot same at ∙ (ap (drop spot.at) items ∙ began.1),
      )

  -- a cursor that moved
  pub moved : (v : ℕ) (answer : Answer ℕ)
      → ((xs : List ℕ) → Holds xs (parts_with old.sequence.len low lists) → IsMove xs lists.words old.sequence.len v (spot_of old) answer spot)
      → IsRight old → IsAnswered (left_in old) v answer (left_in new) × IsRight new
  moved v answer moves right =
      let xs = sequence_items old.sequence in
      let move = moves xs (held_parts xs old.sequence low lists low_is is right.parts) in
      let here : IsHere xs lists.words old.sequence.len (spot_of old) = subst (λ (u : Lists). IsHere xs u.words old.sequence.len (spot_of old)) (sym is) right.here in
      let there : IsHere xs old.sequence.words.now old.sequence.len spot = subst (λ (u : Lists). IsHere xs u.words old.sequence.len spot) is (move.here here) in (
        subst (λ (ys : List ℕ). IsAnswered (left_in old) v answer ys) (sym (left_at old new spot same at)) (move.next here),
        right_at old new spot same at right.sized right.parts there,
      )

-- the number that was found near is a move to it
pub near_moves : (cursor : Cursor) (spot : Spot) (v : ℕ) (low : Lows) (o : Option Spot) → low ≡ unread cursor.sequence.low.now cursor.sequence.width
    → spot ≡ spot_of cursor → cursor.index < cursor.sequence.len → cursor.number < v
    → ((xs : List ℕ) → ArePartsOf xs cursor.sequence.len low.width low.words cursor.sequence.words.now → IsSpot xs cursor.sequence.words.now spot
    → IfSome o (λ s. IsSpot xs cursor.sequence.words.now s × Reaches xs v s.at))
    → IsRight cursor → IfSome o (λ s. IsMoveIn cursor.sequence v (spot_of cursor) (Found s.number) s)
near_moves cursor spot v low None low_is at inside less near right = tt
near_moves cursor spot v low (Some s) low_is at inside less near right =
    let xs = sequence_items cursor.sequence in
    let words = cursor.sequence.words.now in
    let n = cursor.sequence.len in
    let are = right.parts.are in
    move_found xs words n v (spot_of cursor) are.sequence.rising are.count s inside less
    (λ here. near xs (subst (λ (l : Lows). ArePartsOf xs n l.width l.words words) (sym low_is) are) (subst (IsSpot xs words) (sym at) here))

-- a number that is found is at least the value
pub found_at_least : (n v : ℕ) (old : Spot) (answer : Answer ℕ) (new : Spot) → HasMoved n v old answer new → IfFound answer (λ x. v ≤ x)
found_at_least n v old (Found x) new h = omega (arith, h.0, h.1.at_least)
found_at_least n v old Absent new h = tt
found_at_least n v old Wrong new h = tt
