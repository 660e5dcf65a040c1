-- Levels that are added one after another.
use Rattle.std.proofs.Common.{◌≡◌, ℕ, ◌+◌, ◌*◌, ◌<◌, ◌≤◌, Bool, true, not, eqb, List, [], ◌∷◌, ◌++◌, length, refl, sym, ap, ◌∙◌, arith, subst, length-append}
use Rattle.std.proofs.lemmas.List.Elements.{filter_agree, All-push}
use Rattle.std.proofs.lemmas.List.Sums.{sum_by_push}
use Rattle.std.specs.List.{All, sum}
use Rattle.std.specs.Option.{option_map}
use Rattle.bit_lists.specs.Bits.{bits_of, item, IsShort}
use Rattle.bit_lists.specs.Count.{ones_before}
use Rattle.perfect_hash.specs.Levels.{hits, IsLevel, LeadTo, left_of, position_from, AddsLevel, Leave}
use Rattle.perfect_hash.specs.Numbers.{AreSizes}
use Rattle.perfect_hash.specs.Perfect.{IsMinimalPerfect}
use Rattle.bit_lists.proofs.BitLaws.{bits_are_counted, none_before_the_first}
use Rattle.perfect_hash.proofs.lemmas.CountingLemmas.{count_by-others}
use Rattle.perfect_hash.proofs.lemmas.LevelLemmas.{FallsInside}
use Rattle.perfect_hash.proofs.lemmas.NumberLemmas.{sum-first, IsNumbered, numbered, number_below, position_from-one}
use Rattle.perfect_hash.proofs.lemmas.PerfectLemmas.{minimal_perfect}
use Rattle.perfect_hash.proofs.lemmas.WordLemmas.{item-first, item-added}

-- a level in other bits that are the same from its beginning on
pub left_of-same : {K : Type 0} (fall : K → ℕ → ℕ → ℕ) (falls : FallsInside fall) (keys : List K) (b c : List Bool) (level begin at w : ℕ) → 0 < w
    → ((p : ℕ) → p < 64 * w → item b (begin + p) ≡ item c (at + p))
    → left_of fall keys b level begin w ≡ left_of fall keys c level at w
left_of-same fall falls keys b c level begin at w some same =
    filter_agree (λ k. not (item b (begin + fall k level w))) (λ k. not (item c (at + fall k level w)))
    (λ k. ap not (same (fall k level w) (falls k level w some))) keys

-- levels are as they were where their bits are
pub LeadTo-kept : {K : Type 0} (fall : K → ℕ → ℕ → ℕ) (falls : FallsInside fall) (keys : List K) (b c : List Bool) (level begin : ℕ) (sizes : List ℕ) (left : List K)
    → ((i : ℕ) → i < begin + 64 * sum sizes → item c i ≡ item b i)
    → LeadTo fall keys b level begin sizes left → LeadTo fall keys c level begin sizes left
LeadTo-kept fall falls keys b c level begin [] left same lead = lead
LeadTo-kept {K} fall falls keys b c level begin (w ∷ sizes) left same lead =
    let within : (p : ℕ) → p < 64 * w → item c (begin + p) ≡ item b (begin + p) =
    λ p less. same (begin + p) (omega (arith, sum-first w sizes)) in
    let P : List K → Type 0 = λ xs. LeadTo fall xs c (level + 1) (begin + 64 * w) sizes left in (
      lead.0,
      (λ p less. within p less ∙ lead.1 p less),
      subst P (sym (left_of-same fall falls keys c b level begin begin w lead.0 within))
          (LeadTo-kept fall falls (left_of fall keys b level begin w) b c (level + 1) (begin + 64 * w) sizes left
          (λ i less. same i (omega (arith, sum-first w sizes))) lead.2),
    )

-- one more level after others
pub LeadTo-more : {K : Type 0} (fall : K → ℕ → ℕ → ℕ) (keys : List K) (b : List Bool) (level begin : ℕ) (sizes : List ℕ) (left : List K) (w next at : ℕ)
    → next ≡ level + length sizes → at ≡ begin + 64 * sum sizes
    → LeadTo fall keys b level begin sizes left → 0 < w → IsLevel fall left b next at w
    → LeadTo fall keys b level begin (sizes ++ w ∷ []) (left_of fall left b next at w)
LeadTo-more {K} fall keys b level begin [] left w next at next_is at_is lead some is =
    let here : next ≡ level = omega arith in
    let there : at ≡ begin = omega arith in
    let P : List K → ℕ → ℕ → Type 0 = λ xs l p. IsLevel fall xs b l p w in
    let at_level : IsLevel fall left b level at w = (let Q : ℕ → Type 0 = λ l. IsLevel fall left b l at w in subst Q here is) in
    let at_begin : IsLevel fall left b level begin w = (let Q : ℕ → Type 0 = λ p. IsLevel fall left b level p w in subst Q there at_level) in
    let of_keys : IsLevel fall keys b level begin w = (let Q : List K → Type 0 = λ xs. IsLevel fall xs b level begin w in subst Q (sym lead) at_begin) in (
      some,
      of_keys,
      ap (λ (xs : List K). left_of fall xs b level begin w) lead
          ∙ ap (λ (l : ℕ). left_of fall left b l begin w) (sym here)
          ∙ ap (λ (p : ℕ). left_of fall left b next p w) (sym there),
    )
LeadTo-more fall keys b level begin (v ∷ sizes) left w next at next_is at_is lead some is = (
  lead.0,
  lead.1,
  LeadTo-more fall (left_of fall keys b level begin v) b (level + 1) (begin + 64 * v) sizes left w next at
      (omega arith) (omega (arith, sum-first v sizes)) lead.2 some is,
)

-- one more level
pub Leave-more : {K : Type 0} (fall : K → ℕ → ℕ → ℕ) (falls : FallsInside fall) (keys left after : List K) (sizes words new_sizes new_words : List ℕ)
    → Leave fall keys sizes words left → AddsLevel fall left sizes words new_sizes new_words after
    → Leave fall keys new_sizes new_words after
Leave-more {K} fall falls keys left after sizes words new_sizes new_words h adds = record {
  lead = subst P (sym adds.sizes_are) (subst Q (sym adds.left_are) lead);
  some = subst R (sym adds.sizes_are) (All-push (λ size. 0 < size) sizes adds.size h.some adds.some);
  all = ap sum adds.sizes_are ∙ omega (arith, adds.len, h.all, sum_by_push (λ x. x) sizes adds.size);
}
  where
    b : List Bool
    b = bits_of new_words

    P : List ℕ → Type 0
    P s = LeadTo fall keys (bits_of new_words) 0 0 s after

    Q : List K → Type 0
    Q xs = LeadTo fall keys (bits_of new_words) 0 0 (sizes ++ adds.size ∷ []) xs

    R : List ℕ → Type 0
    R s = All (λ size. 0 < size) s

    lead : LeadTo fall keys (bits_of new_words) 0 0 (sizes ++ adds.size ∷ [])
        (left_of fall left (bits_of new_words) (length sizes) (64 * length words) adds.size)
    lead =
        LeadTo-more fall keys (bits_of new_words) 0 0 sizes left adds.size (length sizes) (64 * length words)
        (omega arith) (omega (arith, h.all))
        (LeadTo-kept fall falls keys (bits_of words) (bits_of new_words) 0 0 sizes left (λ i less. adds.kept i (omega (arith, h.all))) h.lead)
        adds.some adds.level

-- the words of a level are added
pub adds_level : {K : Type 0} (fall : K → ℕ → ℕ → ℕ) (falls : FallsInside fall) (keys left : List K) (sizes words new_sizes new_words ones : List ℕ) (size level : ℕ)
    → 0 < size → length sizes ≡ level → length ones ≡ size → new_sizes ≡ sizes ++ size ∷ [] → new_words ≡ words ++ ones
    → IsLevel fall keys (bits_of ones) level 0 size
    → left ≡ left_of fall keys (bits_of ones) level 0 (length ones)
    → AddsLevel fall keys sizes words new_sizes new_words left
adds_level {K} fall falls keys left sizes words new_sizes new_words ones size level some level_is len sizes_are words_are is left_is =
    record {
      size = size;
      some = some;
      sizes_are = sizes_are;
      len = omega (arith, ap length words_are, length-append words ones);
      kept = λ i less. ap (λ (ws : List ℕ). item (bits_of ws) i) words_are ∙ item-first words ones i less;
      level = λ p less. added p less ∙ is p less ∙ ap (λ (l : ℕ). eqb (hits fall keys l size p) 1) (sym level_is);
      left_are = left_is
          ∙ ap (λ (n : ℕ). left_of fall keys (bits_of ones) level 0 n) len
          ∙ left_of-same fall falls keys (bits_of ones) (bits_of new_words) level 0 (64 * length words) size some
          (λ p less. sym (added p less))
          ∙ ap (λ (l : ℕ). left_of fall keys (bits_of new_words) l (64 * length words) size) (sym level_is);
    }
  where
    first : (p : ℕ) → p ≡ 0 + p
    first p = omega arith

    added : (p : ℕ) → p < 64 * size → item (bits_of new_words) (64 * length words + p) ≡ item (bits_of ones) (0 + p)
    added p less =
        ap (λ (ws : List ℕ). item (bits_of ws) (64 * length words + p)) words_are
        ∙ item-added words ones p
        ∙ ap (item (bits_of ones)) (first p)

-- levels that leave no key have sizes as a perfect hash wants them
pub are_sizes : {K : Type 0} (fall : K → ℕ → ℕ → ℕ) (keys : List K) (sizes words : List ℕ) → Leave fall keys sizes words []
    → length sizes ≤ 256 → IsShort words → AreSizes sizes (bits_of words)
are_sizes fall keys sizes words h few short = record {
  some = h.some;
  all = omega (arith, h.all, bits_are_counted words);
  few = few;
  short = omega (arith, short, bits_are_counted words);
}

-- and number the keys
pub perfect : {K : Type 0} (fall : K → ℕ → ℕ → ℕ) (falls : FallsInside fall) (keys : List K) (sizes words : List ℕ)
    → Leave fall keys sizes words []
    → IsMinimalPerfect (λ k. option_map (ones_before (bits_of words)) (position_from (fall k) (bits_of words) 0 0 sizes)) keys
perfect {K} fall falls keys sizes words h =
    minimal_perfect (λ k. option_map (ones_before (bits_of words)) (position_from (fall k) (bits_of words) 0 0 sizes)) keys
    (λ k. number_below (bits_of words) (0 + 64 * sum sizes) (length keys) (position_from (fall k) (bits_of words) 0 0 sizes)
    (omega (arith, h.all, bits_are_counted words))
    (omega (arith, all.total, none_before_the_first (bits_of words) true))
    (position_from-one (fall k) (falls k) (bits_of words) 0 0 (0 + 64 * sum sizes) sizes refl h.some))
    (λ v less. all.once v
    (omega (arith, none_before_the_first (bits_of words) true)) (omega (arith, none_before_the_first (bits_of words) true)))
  where
    all : IsNumbered fall keys (bits_of words) 0 0 sizes
    all = numbered fall falls keys (bits_of words) 0 0 sizes (omega (arith, h.all, bits_are_counted words)) h.lead

-- one more level is counted
pub count_next : {K : Type 0} (fall : K → ℕ → ℕ → ℕ) (keys after : List K) (sizes words new_sizes new_words : List ℕ) (n : ℕ)
    → AddsLevel fall keys sizes words new_sizes new_words after → length sizes ≡ n → length new_sizes ≡ n + 1
count_next fall keys after sizes words new_sizes new_words n adds count =
    omega (arith, count, ap length adds.sizes_are, length-append sizes (adds.size ∷ []))

-- no more keys are left than there were
pub no_more : {K : Type 0} (fall : K → ℕ → ℕ → ℕ) (keys after : List K) (sizes words new_sizes new_words : List ℕ)
    → AddsLevel fall keys sizes words new_sizes new_words after → length after ≤ length keys
no_more fall keys after sizes words new_sizes new_words adds =
    omega (
      arith,
      ap length adds.left_are,
      count_by-others (λ k. item (bits_of new_words) (64 * length words + fall k (length sizes) adds.size)) keys,
    )
