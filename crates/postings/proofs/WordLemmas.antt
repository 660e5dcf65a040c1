-- A word beside the others.
use Rattle.std.proofs.Common.{◌≡◌, ℕ, ◌+◌, ◌*◌, ◌/◌, ◌%◌, ◌<◌, ◌≤◌, Bool, not, List, [], ◌∷◌, ◌++◌, length, get_or, take, map, refl, sym, ap, ◌∙◌, cond, arith, length-take, length-drop, drop}
use Rattle.std.proofs.lemmas.List.{take-append-le, take-map}
use Rattle.std.proofs.lemmas.List.Sums.{sum_by-cons}
use Rattle.std.specs.List.{count_by}
use Rattle.std.specs.Prelude.{Option, MatchOption, IfSome, Some, None}
use Rattle.bit_lists.proofs.BitLaws.{bit_is_digit, bits_are_counted, count_in_stretch, counts_agree, item_of_stretch}
use Rattle.bit_lists.specs.Bits.{bits_of, item, digit}
use Rattle.bit_lists.specs.Count.{count_before, ones_before, zeros_before}
use Rattle.bit_lists.specs.StretchLaws.{stretch}

pub one_word : (words : List ℕ) (w k j : ℕ) → k < length words → w ≡ get_or words k 0 → j < 64 → item (bits_of (w ∷ [])) j ≡ item (bits_of words) (64 * k + j)
one_word words w k j inside is small =
    let q : (64 * k + j) / 64 ≡ k = omega arith in
    let r : (64 * k + j) % 64 ≡ j = omega arith in
    let q0 : j / 64 ≡ 0 = omega arith in
    let r0 : j % 64 ≡ j = omega arith in
    bit_is_digit (w ∷ []) j (omega arith)
    ∙ (ap (λ (m : ℕ). digit (get_or (w ∷ []) m 0) (j % 64)) q0
    ∙ (ap (λ (m : ℕ). digit w m) (r0 ∙ sym r)
    ∙ (ap (λ (m : ℕ). digit m ((64 * k + j) % 64)) (is ∙ ap (λ (m : ℕ). get_or words m 0) (sym q))
    ∙ sym (bit_is_digit words (64 * k + j) (omega arith)))))

pub in_word : (words : List ℕ) (w k : ℕ) (v : Bool) (j : ℕ) → k < length words → w ≡ get_or words k 0 → j ≤ 64
    → count_before (bits_of words) v (64 * k) + count_before (bits_of (w ∷ [])) v j ≡ count_before (bits_of words) v (64 * k + j)
in_word words w k v j inside is small =
    let b = bits_of words in
    let c = stretch b (64 * k) 64 in
    let room : 64 * k + 64 ≤ length b = omega (arith, bits_are_counted words) in
    let len : length c ≡ 64 = omega (arith, length-take 64 (drop (64 * k) b), length-drop (64 * k) b) in
    let same : count_before (bits_of (w ∷ [])) v j ≡ count_before c v j =
    counts_agree (bits_of (w ∷ [])) c v j (omega (arith, bits_are_counted (w ∷ []))) (omega (arith, len))
    (λ i l. one_word words w k i inside is (omega arith) ∙ sym (item_of_stretch b (64 * k) 64 i (omega arith))) in
    omega (arith, same, count_in_stretch b v (64 * k) 64 j room small)

-- zeros are the ones of the negation
count_map : (xs : List Bool) → count_by (λ x. x) (map not xs) ≡ count_by not xs
count_map [] = refl
count_map (x ∷ xs) = sum_by-cons (λ (y : Bool). cond y 1 0) (not x) (map not xs) ∙ (ap (λ (n : ℕ). cond (not x) 1 0 + n) (count_map xs) ∙ sym (sum_by-cons (λ (y : Bool). cond (not y) 1 0) x xs))

pub zeros_sought : (b more : List Bool) (i : ℕ) → i ≤ length b → ones_before (map not (b ++ more)) i ≡ zeros_before b i
unfolding ones_before zeros_before
zeros_sought b more i h =
    ap (count_by (λ x. x)) (take-map not i (b ++ more) ∙ ap (map not) (take-append-le i b more h)) ∙ count_map (take i b)

pub if_some : (o : Option ℕ) (N : Type 0) (P Q : ℕ → Type 0) → MatchOption o N P → ((p : ℕ) → P p → Q p) → IfSome o Q
if_some None N P Q h f = tt
if_some (Some p) N P Q h f = f p h
