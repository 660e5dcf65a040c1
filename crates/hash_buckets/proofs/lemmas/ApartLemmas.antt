-- Slots that are apart, and the bits that are set for them.
use Rattle.std.proofs.Common.{◌≡◌, ℕ, ◌+◌, ◌<◌, ◌≤◌, Bool, false, List, length, take, get_or, slice_set, eqb, sym, ap, ◌∙◌, ⊎_elim, take_all, arith}
use Rattle.std.proofs.lemmas.Bool.{cases_eq, eq-eqb, ne_eqb}
use Rattle.std.proofs.lemmas.Grind.{get_or-set_at}
use Rattle.std.proofs.lemmas.List.{get_or-set_other, length-set}
use Rattle.std.proofs.lemmas.List.Sums.{sum_by_more, sum_by-take-le}
use Rattle.bit_lists.specs.Bits.{item}
use Rattle.bit_lists.specs.Number.{with_number}
use Rattle.bit_lists.proofs.BitLaws.{item_after_write}
use Rattle.hash_buckets.specs.declared.positions.Level.{Level}
use Rattle.hash_buckets.specs.Positions.{slice_of, slot_of}
use Rattle.hash_buckets.specs.Seeds.{one_if, count_at, AddsBits, HaveFreeSlots, AreBegins}

-- one more hash
pub count-more : (level : Level) (seed first : ℕ) (hs : List ℕ) (i q : ℕ) → i < length hs
    → count_at level seed first (take (i + 1) hs) q
    ≡ count_at level seed first (take i hs) q + one_if (eqb (first + slot_of level seed (get_or hs i 0)) q)
count-more level seed first hs i q less = sum_by_more (λ h. one_if (eqb (first + slot_of level seed h) q)) hs i 0 less

pub count-here : (level : Level) (seed first : ℕ) (hs : List ℕ) (i q : ℕ) → i < length hs → q ≡ first + slot_of level seed (get_or hs i 0)
    → count_at level seed first (take (i + 1) hs) q ≡ count_at level seed first (take i hs) q + 1
count-here level seed first hs i q less is =
    omega (arith, count-more level seed first hs i q less, ap one_if (eq-eqb (first + slot_of level seed (get_or hs i 0)) q (sym is)))

pub count-beside : (level : Level) (seed first : ℕ) (hs : List ℕ) (i q : ℕ) → i < length hs → (q ≡ first + slot_of level seed (get_or hs i 0) → ⊥)
    → count_at level seed first (take (i + 1) hs) q ≡ count_at level seed first (take i hs) q
count-beside level seed first hs i q less other =
    omega (arith, count-more level seed first hs i q less, ap one_if (ne_eqb (first + slot_of level seed (get_or hs i 0)) q (λ same. other (sym same))))

pub count-part : (level : Level) (seed first : ℕ) (hs : List ℕ) (i q : ℕ)
    → count_at level seed first (take i hs) q ≤ count_at level seed first hs q
count-part level seed first hs i q = sum_by-take-le (λ h. one_if (eqb (first + slot_of level seed h) q)) hs i

-- a hash whose slot is free, and no slot of those before it
pub apart-more : (level : Level) (seed first : ℕ) (hs : List ℕ) (used : List Bool) (i slot : ℕ) → i < length hs
    → HaveFreeSlots level seed first (take i hs) used → slot ≡ slot_of level seed (get_or hs i 0)
    → item used (first + slot) ≡ false → count_at level seed first (take i hs) (first + slot) ≡ 0
    → HaveFreeSlots level seed first (take (i + 1) hs) used
apart-more level seed first hs used i slot less apart is free none q =
    ⊎_elim
    (λ same. omega (arith, count-here level seed first hs i q less (same ∙ ap (λ s. first + s) is), ap (λ p. one_if (item used p)) same, ap one_if free, ap (count_at level seed first (take i hs)) same, none))
    (λ other. omega (arith, count-beside level seed first hs i q less (λ e. other (e ∙ ap (λ s. first + s) (sym is))), apart q))
    (cases_eq q (first + slot))

-- one more bit is set
pub bits-more : (level : Level) (seed first : ℕ) (hs : List ℕ) (old used : List Bool) (i slot : ℕ) → i < length hs
    → HaveFreeSlots level seed first hs old → slot ≡ slot_of level seed (get_or hs i 0) → first + slot < length used
    → AddsBits old (count_at level seed first (take i hs)) used
    → AddsBits old (count_at level seed first (take (i + 1) hs)) (with_number used (first + slot) 1 1)
bits-more level seed first hs old used i slot less apart is inside adds q =
    let written = item_after_write used (first + slot) 1 inside in
    ⊎_elim
    (λ same. omega (
      arith,
      count-here level seed first hs i q less (same ∙ ap (λ s. first + s) is),
      count-part level seed first hs (i + 1) q,
      apart q,
      ap (λ p. one_if (item (with_number used (first + slot) 1 1) p)) same,
      ap one_if written.0,
    ))
    (λ other. omega (
      arith,
      count-beside level seed first hs i q less (λ e. other (e ∙ ap (λ s. first + s) (sym is))),
      adds q,
      ap one_if (written.1 q other),
    ))
    (cases_eq q (first + slot))

-- one more hash of another slot
pub among-more : (level : Level) (seed : ℕ) (hs : List ℕ) (i slot other : ℕ) → i < length hs → other ≡ slot_of level seed (get_or hs i 0) → (other ≡ slot → ⊥)
    → ((first : ℕ) → count_at level seed first (take i hs) (first + slot) ≡ 0)
    → (first : ℕ) → count_at level seed first (take (i + 1) hs) (first + slot) ≡ 0
among-more level seed hs i slot other less is differs none first =
    count-beside level seed first hs i (first + slot) less (λ same. differs (omega (arith, same, is))) ∙ none first

-- all hashes
pub among-all : (level : Level) (seed : ℕ) (hs : List ℕ) (i slot : ℕ) → length hs ≤ i
    → ((first : ℕ) → count_at level seed first (take i hs) (first + slot) ≡ 0)
    → (first : ℕ) → count_at level seed first hs (first + slot) ≡ 0
among-all level seed hs i slot all none first =
    ap (λ (xs : List ℕ). count_at level seed first xs (first + slot)) (sym (take_all i hs all)) ∙ none first

-- one more slice
pub begins-more : (level : Level) (hs begins : List ℕ) (i b : ℕ) → AreBegins level hs i begins → i < length begins
    → b ≡ slice_of level (get_or hs i 0) → b + level.slice ≤ level.slots → AreBegins level hs (i + 1) (slice_set begins i b)
begins-more level hs begins i b so room is fits = record {
  enough = omega (arith, length-set begins i b, room);
  are = λ k less. ⊎_elim
      (λ same. get_or-set_at begins i k b 0 same room ∙ is ∙ ap (λ n. slice_of level (get_or hs n 0)) (sym same))
      (λ other. get_or-set_other begins i k b 0 other ∙ so.are k (omega arith))
      (cases_eq k i);
  inside = λ k less. ⊎_elim
      (λ same. omega (arith, get_or-set_at begins i k b 0 same room, fits))
      (λ other. omega (arith, get_or-set_other begins i k b 0 other, so.inside k (omega arith)))
      (cases_eq k i);
}
