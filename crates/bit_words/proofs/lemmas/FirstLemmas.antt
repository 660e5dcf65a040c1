-- Numbers and counts among the first items of a list are those of the whole list; a number of no bits.
use Rattle.std.proofs.Common.{◌≡◌, Option, Some, None, SomeIff, ℕ, ◌+◌, ◌-◌, ◌%◌, ◌<◌, ◌≤◌, Bool, true, false, not, List, length, take, count_by, sym, ap, ◌∙◌, ⊎_elim, arith}
use Rattle.std.proofs.lemmas.Bool.{cases_lt}
use Rattle.std.proofs.lemmas.List.{get_or-take, length-take-le, take-take}
use Rattle.std.proofs.lemmas.Nat.Bits.{same_from_bits_below}
use Rattle.bit_lists.proofs.lemmas.BesideLemmas.{number_at-none}
use Rattle.bit_lists.proofs.lemmas.CountLemmas.{count_before-le, ones_before-add-zeros_before}
use Rattle.bit_lists.proofs.lemmas.NumberLemmas.{bit_at-number_at, number_at-lt, with_number-number_at}
use Rattle.bit_lists.proofs.lemmas.ReadLemmas.{reach_of_across, reach_of_inside}
use Rattle.bit_lists.proofs.lemmas.WordLemmas.{truth}
use Rattle.bit_lists.specs.Count.{count_before, ones_before, zeros_before}
use Rattle.bit_lists.specs.Number.{number_at, with_number}
use Rattle.bit_lists.specs.Window.{reach_of}

pub number_first : (b : List Bool) (n s w : ℕ) → s + w ≤ n → n ≤ length b → number_at (take n b) s w ≡ number_at b s w
number_first b n s w inside within =
    same_from_bits_below w (number_at (take n b) s w) (number_at b s w)
    (number_at-lt (take n b) s w (omega (arith, length-take-le n b within))) (number_at-lt b s w (omega arith))
    (λ k l. bit_at-number_at (take n b) s w k l
    ∙ ap truth (get_or-take n b (s + k) false (omega arith))
    ∙ sym (bit_at-number_at b s w k l))

pub count_first : (b : List Bool) (n : ℕ) (v : Bool) (i : ℕ) → i ≤ n → count_before (take n b) v i ≡ count_before b v i
unfolding ones_before zeros_before
count_first b n true i l = ap (count_by (λ x. x)) (take-take i n b l)
count_first b n false i l = ap (count_by not) (take-take i n b l)

-- a number of no bits is 0, and to write one changes nothing
pub no_number : (b : List Bool) (s w : ℕ) → w ≡ 0 → number_at b s w ≡ 0
no_number b s w none = ap (number_at b s) none ∙ number_at-none b s

pub nothing_written : (b : List Bool) (s w v : ℕ) → s ≤ length b → w ≡ 0 → v ≡ 0 → b ≡ with_number b s w v
nothing_written b s w v inside none zero =
    let e : s + 0 ≡ s = omega arith in
    sym (with_number-number_at b s 0 (omega (arith, e)))
    ∙ ap (with_number b s 0) (number_at-none b s ∙ sym zero)
    ∙ ap (λ n. with_number b s n v) (sym none)

-- an unmasked read of 64 bits reaches no further
pub reach_of_word : (s : ℕ) → reach_of s 64 ≡ 64
reach_of_word s = ⊎_elim
    (λ (across : 64 < s % 64 + 64). reach_of_across s 64 across)
    (λ (within : s % 64 + 64 ≤ 64). reach_of_inside s 64 within ∙ omega arith)
    (cases_lt 64 (s % 64 + 64))

-- what was found where P holds is found where Q does
pub found_where : (o : Option ℕ) (P Q : Type 0) (x y : ℕ) → P → Q → x ≡ y → SomeIff o P x → SomeIff o Q y
found_where None P Q x y p q same not_P = absurd (not_P p)
found_where (Some z) P Q x y p q same here = (q, here.1 ∙ same)

-- the bits of a range that are no 1 bits
pub zeros_counted : (b : List Bool) (n from to ones : ℕ) → from ≤ to → to ≤ n → n ≤ length b → ones ≡ ones_before b to - ones_before b from
    → (ones ≤ to - from) × (to - from - ones ≡ zeros_before (take n b) to - zeros_before (take n b) from)
zeros_counted b n from to ones order inside within is =
    let whole_to = ones_before-add-zeros_before b to (omega arith) in
    let whole_from = ones_before-add-zeros_before b from (omega arith) in
    let ones_grow : ones_before b from ≤ ones_before b to = count_before-le b true from to order in
    let zeros_grow : zeros_before b from ≤ zeros_before b to = count_before-le b false from to order in
    let same_to : zeros_before (take n b) to ≡ zeros_before b to = count_first b n false to inside in
    let same_from : zeros_before (take n b) from ≡ zeros_before b from = count_first b n false from (omega arith) in
    (omega arith, omega arith)
