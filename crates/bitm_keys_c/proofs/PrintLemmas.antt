-- Fingerprints that are written one after another, and the fingerprint at a number.
use Rattle.std.proofs.Common.{◌≡◌, ◌≢◌, ℕ, ◌+◌, ◌*◌, ◌%◌, ◌^◌, ◌≤◌, ◌↔◌, ◌&&◌, ◌<◌, Bool, if◌then◌else◌, nat_eq, ne_eqb, true, false, List, length, slice_index, Option, Some, None, refl, sym, ap, ◌∙◌, ⊎_elim, inl, inr, arith, subst}
use Rattle.std.specs.Prelude.{⊤}
use Rattle.std.proofs.lemmas.Bool.{cases_lt, cases_order, eqb-false, true_from_ne_false}
use Rattle.std.proofs.lemmas.List.{take_all}
use Rattle.std.proofs.Math.Nat.{mod-lt}
use Rattle.std.proofs.lemmas.Nat.{pow_pos, row_fits}
use Rattle.std.specs.Option.{IsSomeAnd, MatchOption}
use Rattle.bit_lists.specs.Bits.{bits_of}
use Rattle.bit_lists.specs.Number.{number_at, with_number}
use Rattle.bit_lists.proofs.BitLaws.{number_beside_is_kept, read_after_write}
use Rattle.bit_lists.proofs.lemmas.BitsLemmas.{length-bits_of}
use Rattle.bit_words.specs.First.{first_bits}
use Rattle.perfect_hash.specs.Dictionary.{print_at}
use Rattle.bitm_select.specs.Answers.{position_in}
use Rattle.bitm_tables.specs.declared.answer.Answer.{Answer}
use Rattle.bitm_tables.specs.declared.answer.Answer.TheVariants.{Found, Absent, Wrong}
use Rattle.bitm_abi.specs.Hash.{hash_number, HashLists, IsHashNumber, IsHashOf}
use Rattle.perfect_hash.specs.Asking.{IsNumbered}
use Rattle.bitm_keys_c.specs.Prints.{number_of_key_in, ArePrintsKept, ArePrintsWritten, AreSet, HasPrint, HaveNumber, HaveRoom, IsPrint, SetsPrint, WritesPrint}

-- all bits of words
pub whole : (words : List ℕ) → first_bits words (64 * length words) ≡ bits_of words
whole words = take_all (64 * length words) (bits_of words) (omega (arith, length-bits_of words))

module _ (b : List Bool) (k width v : ℕ) (room : k * width + width ≤ length b) where
  -- another fingerprint stays
  pub print_beside : (n : ℕ) → n ≢ k → number_at (with_number b (k * width) width v) (n * width) width ≡ number_at b (n * width) width
  print_beside n other =
      number_beside_is_kept b (k * width) width v (n * width) width room
      (⊎_elim (λ same. absurd (other same))
      (λ apart. ⊎_elim (λ less. inl (row_fits n width k width less (omega arith))) (λ more. inr (row_fits k width n width more (omega arith))) apart)
      (cases_order n k))

both_true : (a b : Bool) → (a && b) ≡ true → (a ≡ true) × (b ≡ true)
both_true true b e = (refl {A = Bool}, e)
both_true false b e = cc

are_true : (a b : Bool) → a ≡ true → b ≡ true → (a && b) ≡ true
are_true true b a_is b_is = b_is
are_true false b a_is b_is = a_is

-- one more key, of which one fingerprint is written, or none
module _ (of_key : ℕ → Option ℕ) (key_prints : List ℕ) (width m : ℕ) (old new : List ℕ) (is : Bool)
    (one : WritesPrint (of_key m) width (slice_index key_prints m) old new is) where
  abbrev number : Option ℕ
  number = of_key m

  abbrev print : ℕ
  print = slice_index key_prints m % 2 ^ width

  -- there is room in the words as they are where there was as they were
  there : (n : ℕ) → HasPrint new width n → HasPrint old width n
  there n room = omega (arith, room, one.len)

  beside_one : (o : Option ℕ) → o ≡ number
      → IsSomeAnd o (λ k. HasPrint old width k × (bits_of new ≡ with_number (bits_of old) (k * width) width print))
      → (n : ℕ) → (number ≡ Some n → ⊥) → print_at new width n ≡ print_at old width n
  beside_one (Some k) e written n other =
      ap (λ b. number_at b (n * width) width) written.1
      ∙ print_beside (bits_of old) k width print (omega (arith, written.0, length-bits_of old)) n (λ same. other (sym e ∙ ap Some (sym same)))
  beside_one None e written n other = absurd written

  beside : (b : Bool) → is ≡ b → (n : ℕ) → (number ≡ Some n → ⊥) → print_at new width n ≡ print_at old width n
  beside true e n other = beside_one number (refl {A = Option ℕ}) (one.written e) n other
  beside false e n other = ap (λ prints. print_at prints width n) (one.kept e).0

  own : (b : Bool) → is ≡ b → (n : ℕ) → number ≡ Some n → HasPrint new width n → IsPrint new width n (slice_index key_prints m)
  own true e n here room =
      let written = subst (λ (o : Option ℕ). IsSomeAnd o (λ k. HasPrint old width k × (bits_of new ≡ with_number (bits_of old) (k * width) width print))) here (one.written e) in
      ap (λ b. number_at b (n * width) width) written.1
      ∙ read_after_write (bits_of old) (n * width) width print (omega (arith, written.0, length-bits_of old))
      (mod-lt (slice_index key_prints m) (pow_pos width))
  own false e n here room =
      absurd ((subst (λ (o : Option ℕ). MatchOption o ⊤ (λ k. ¬ HasPrint old width k)) here (one.kept e).1) (there n room))

  pub written_more : ArePrintsWritten of_key key_prints old width m → ArePrintsWritten of_key key_prints new width (m + 1)
  written_more before j n below is_n last room =
      elim (cases_lt j m) [
        | inl less ↦
            beside is (refl {A = Bool}) n (λ e. last (m, omega (arith, less), omega arith, e))
            ∙ before j n less is_n (λ h. last (h.0, h.1, omega (arith, h.2), h.3)) (there n room)
        | inr from ↦
            let e : j ≡ m = omega (arith, below, from) in
            own is (refl {A = Bool}) n (ap of_key (sym e) ∙ is_n) room
            ∙ ap (λ i. slice_index key_prints i % 2 ^ width) (sym e)
      ]

  pub kept_more : (first : List ℕ) → ArePrintsKept of_key first old width m → ArePrintsKept of_key first new width (m + 1)
  kept_more first before n none room =
      beside is (refl {A = Bool}) n (λ e. none (m, omega arith, omega arith, e))
      ∙ before n (λ h. none (h.0, h.1, omega (arith, h.2), h.3)) (there n room)

  module _ (first : List ℕ) (same : length old ≡ length first) where
    some_room : (o : Option ℕ) → IsSomeAnd o (λ k. HasPrint old width k × (bits_of new ≡ with_number (bits_of old) (k * width) width print))
        → MatchOption o ⊥ (HasPrint first width)
    some_room (Some k) written = omega (arith, written.0, same)
    some_room None written = written

    no_room : (o : Option ℕ) → MatchOption o ⊤ (λ k. ¬ HasPrint old width k) → MatchOption o ⊥ (HasPrint first width) → ⊥
    no_room (Some k) none some = none (omega (arith, some, same))
    no_room None none some = some

    is_written : (b : Bool) → is ≡ b → MatchOption number ⊥ (HasPrint first width) → is ≡ true
    is_written true e some = e
    is_written false e some = absurd (no_room number (one.kept e).1 some)

    pub room_more : (all : Bool) → (all ≡ true) ↔ HaveRoom of_key first width m
        → ((all && is) ≡ true) ↔ HaveRoom of_key first width (m + 1)
    room_more all before = (
      λ both j below.
          elim (cases_lt j m) [
            | inl less ↦ before.0 (both_true all is both).0 j less
            | inr from ↦
                let e : m ≡ j = omega (arith, below, from) in
                subst (λ i. MatchOption (of_key i) ⊥ (HasPrint first width)) e (some_room number (one.written (both_true all is both).1))
          ],
      λ room. are_true all is (before.1 (λ j less. room j (omega (arith, less)))) (is_written is (refl {A = Bool}) (room m (omega arith))),
    )

-- what holds by the numbers of the first m keys holds by others that are the same
module _ (f g : ℕ → Option ℕ) (m : ℕ) (same : (j : ℕ) → j < m → f j ≡ g j) where
  have_on : (j n : ℕ) → HaveNumber f j m n → HaveNumber g j m n
  have_on j n h = (h.0, h.1, h.2, sym (same h.0 h.2) ∙ h.3)

  pub written_alike : (key_prints prints : List ℕ) (width : ℕ) → ArePrintsWritten f key_prints prints width m → ArePrintsWritten g key_prints prints width m
  written_alike key_prints prints width before j n below is last room =
      before j n below (same j below ∙ is) (λ h. last (have_on (j + 1) n h)) room

  pub kept_alike : (old new : List ℕ) (width : ℕ) → ArePrintsKept f old new width m → ArePrintsKept g old new width m
  kept_alike old new width before n none room = before n (λ h. none (have_on 0 n h)) room

  pub room_alike : (prints : List ℕ) (width : ℕ) → HaveRoom f prints width m → HaveRoom g prints width m
  room_alike prints width before j below = subst (λ (o : Option ℕ). MatchOption o ⊥ (HasPrint prints width)) (same j below) (before j below)

  pub room_back : (prints : List ℕ) (width : ℕ) → HaveRoom g prints width m → HaveRoom f prints width m
  room_back prints width before j below = subst (λ (o : Option ℕ). MatchOption o ⊥ (HasPrint prints width)) (sym (same j below)) (before j below)

-- one more answer
abbrev more : (ℕ → Answer ℕ) → ℕ → Answer ℕ → ℕ → Answer ℕ
more f m a j = if nat_eq j m then a else f j

same_eq : (n : ℕ) → nat_eq n n ≡ true
same_eq n = true_from_ne_false (nat_eq n n) (λ e. eqb-false n n e refl)

more_new : (f : ℕ → Answer ℕ) (m : ℕ) (a : Answer ℕ) → more f m a m ≡ a
more_new f m a = ap (λ (e : Bool). if e then a else f m) (same_eq m)

more_old : (f : ℕ → Answer ℕ) (m : ℕ) (a : Answer ℕ) (j : ℕ) → j < m → more f m a j ≡ f j
more_old f m a j less = ap (λ (e : Bool). if e then a else f j) (ne_eqb j m (λ e. omega (arith, e, less)))

-- one more key is set
pub set_more : (h : HashLists) (hashes key_prints first old new : List ℕ) (width m : ℕ) (all is : Bool) → length old ≡ length first
    → AreSet h hashes key_prints first old width m (all ≡ true)
    → SetsPrint h (slice_index hashes m) width (slice_index key_prints m) old new is
    → AreSet h hashes key_prints first new width (m + 1) ((all && is) ≡ true)
set_more h hashes key_prints first old new width m all is same before one =
    let a = one.answer in
    let answers : ℕ → Answer ℕ = more before.answer m a in
    let f : ℕ → Option ℕ = λ j. position_in (before.answer j) in
    let g : ℕ → Option ℕ = λ j. position_in (answers j) in
    let alike : (j : ℕ) → j < m → f j ≡ g j = λ j less. ap position_in (sym (more_old before.answer m a j less)) in
    let writes : WritesPrint (g m) width (slice_index key_prints m) old new is =
    subst (λ (b : Answer ℕ). WritesPrint (position_in b) width (slice_index key_prints m) old new is) (sym (more_new before.answer m a)) one.writes in
    record {
      answer = answers;
      hashed = λ j below.
          elim (cases_lt j m) [
            | inl less ↦ subst (IsHashNumber h (slice_index hashes j)) (sym (more_old before.answer m a j less)) (before.hashed j less)
            | inr from ↦
                let e : m ≡ j = omega (arith, below, from) in
                subst (λ i. IsHashNumber h (slice_index hashes i) (answers i)) e
                (subst (IsHashNumber h (slice_index hashes m)) (sym (more_new before.answer m a)) one.hashed)
          ];
      written = written_more g key_prints width m old new is writes (written_alike f g m alike key_prints old width before.written);
      kept = kept_more g key_prints width m old new is writes first (kept_alike f g m alike first old width before.kept);
      room = room_more g key_prints width m old new is writes first same all
          (λ good. room_alike f g m alike first width (before.room.0 good), λ room. before.room.1 (room_back f g m alike first width room));
    }

-- where the parts are those of a hash, the answers are the numbers
module _ (h : HashLists) (hashes key_prints old new : List ℕ) (width m : ℕ) (good : Type 0) (is : AreSet h hashes key_prints old new width m good)
    (right : IsHashOf h) where
  by_number : (o : Option ℕ) (a : Answer ℕ) → IsNumbered o a → position_in a ≡ o
  by_number o (Found n) e = sym e
  by_number o Absent e = sym e
  by_number o Wrong e = absurd e

  are_numbers : (j : ℕ) → j < m → position_in (is.answer j) ≡ number_of_key_in h hashes j
  are_numbers j below = by_number (number_of_key_in h hashes j) (is.answer j) ((is.hashed j below).counts right)

  pub set_written : ArePrintsWritten (number_of_key_in h hashes) key_prints new width m
  set_written = written_alike (λ j. position_in (is.answer j)) (number_of_key_in h hashes) m are_numbers key_prints new width is.written

  pub set_kept : ArePrintsKept (number_of_key_in h hashes) old new width m
  set_kept = kept_alike (λ j. position_in (is.answer j)) (number_of_key_in h hashes) m are_numbers old new width is.kept

  pub set_room : good ↔ HaveRoom (number_of_key_in h hashes) old width m
  set_room = (
    λ done. room_alike (λ j. position_in (is.answer j)) (number_of_key_in h hashes) m are_numbers old width (is.room.0 done),
    λ room. is.room.1 (room_back (λ j. position_in (is.answer j)) (number_of_key_in h hashes) m are_numbers old width room),
  )

-- and the status says whether each key has a number, and room for its fingerprint
pub set_status : (h borrowed : HashLists) → borrowed ≡ h → (hashes key_prints old new : List ℕ) (width m : ℕ) (all : Bool) (status : ℕ)
    → (all ≡ true → status ≡ 0) → (status ≡ 0 → all ≡ true)
    → AreSet borrowed hashes key_prints old new width m (all ≡ true) → AreSet h hashes key_prints old new width m (status ≡ 0)
set_status h borrowed same hashes key_prints old new width m all status good back is =
    let here : AreSet h hashes key_prints old new width m (all ≡ true) =
    subst (λ (l : HashLists). AreSet l hashes key_prints old new width m (all ≡ true)) same is in
    record {
      answer = here.answer;
      hashed = here.hashed;
      written = here.written;
      kept = here.kept;
      room = (λ done. here.room.0 (back done), λ room. good (here.room.1 room));
    }

pub not_both : (b : Bool) → b ≡ false → b ≡ true → ⊥
not_both true off on = cc
not_both false off on = cc
