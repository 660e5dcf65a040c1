-- Levels of which each falls by the words before it, and one more of them.
use Rattle.std.proofs.Common.{◌≡◌, ℕ, suc, ◌+◌, ◌*◌, ◌<◌, ◌≤◌, Bool, not, eqb, List, [], ◌∷◌, ◌++◌, length, take, slice_index, refl, sym, ap, ◌∙◌, subst, arith}
use Rattle.std.proofs.Math.Seq.{take-append_seam}
use Rattle.std.proofs.lemmas.List.{take-append-le}
use Rattle.std.proofs.lemmas.List.Elements.{filter_agree}
use Rattle.std.proofs.lemmas.List.Sums.{sum_by_more_le}
use Rattle.std.specs.List.{sum}
use Rattle.bit_lists.specs.Bits.{bits_of, item}
use Rattle.perfect_hash.specs.Levels.{fall_in, AreChosen, AreSized, IsLevel, LeadTo, left_of, AddsLevel, Leave}
use Rattle.perfect_hash.proofs.lemmas.BuildLemmas.{Leave-more, left_of-same}
use Rattle.perfect_hash.proofs.lemmas.CountingLemmas.{count_by-agree}
use Rattle.perfect_hash.proofs.lemmas.LevelLemmas.{FallsInside}
use Rattle.perfect_hash.proofs.lemmas.NumberLemmas.{sum-first}

-- where keys fall in a level as they did, its ones are the same
pub IsLevel-alike : {K : Type 0} (fall other : K → ℕ → ℕ → ℕ) (keys : List K) (b : List Bool) (level begin words : ℕ)
    → ((k : K) → fall k level words ≡ other k level words) → IsLevel fall keys b level begin words → IsLevel other keys b level begin words
IsLevel-alike fall other keys b level begin words same is p less =
    is p less
    ∙ ap (λ (n : ℕ). eqb n 1) (count_by-agree (λ k. eqb (fall k level words) p) (λ k. eqb (other k level words) p) (λ k. ap (λ (q : ℕ). eqb q p) (same k)) keys)

-- and it leaves the same
pub left_of-alike : {K : Type 0} (fall other : K → ℕ → ℕ → ℕ) (keys : List K) (b : List Bool) (level begin words : ℕ)
    → ((k : K) → fall k level words ≡ other k level words)
    → left_of fall keys b level begin words ≡ left_of other keys b level begin words
left_of-alike fall other keys b level begin words same =
    filter_agree (λ k. not (item b (begin + fall k level words))) (λ k. not (item b (begin + other k level words)))
    (λ k. ap (λ (q : ℕ). not (item b (begin + q))) (same k)) keys

-- where keys fall in each level as they did, they lead to the same
LeadTo-alike : {K : Type 0} (fall other : K → ℕ → ℕ → ℕ) (keys : List K) (b : List Bool) (level begin : ℕ) (sizes : List ℕ) (left : List K)
    → ((k : K) (i : ℕ) → i < length sizes → fall k (level + i) (slice_index sizes i) ≡ other k (level + i) (slice_index sizes i))
    → LeadTo fall keys b level begin sizes left → LeadTo other keys b level begin sizes left
LeadTo-alike fall other keys b level begin [] left same lead = lead
LeadTo-alike {K} fall other keys b level begin (w ∷ sizes) left same lead =
    let here : (k : K) → fall k level w ≡ other k level w =
    λ k.
    let P : ℕ → Type 0 = λ l. fall k l w ≡ other k l w in
    let e : level + 0 ≡ level = omega arith in
    subst P e (same k 0 (omega arith)) in
    let Q : List K → Type 0 = λ xs. LeadTo other xs b (level + 1) (begin + 64 * w) sizes left in (
      lead.0,
      IsLevel-alike fall other keys b level begin w here lead.1,
      subst Q (left_of-alike fall other keys b level begin w here)
          (LeadTo-alike fall other (left_of fall keys b level begin w) b (level + 1) (begin + 64 * w) sizes left
          (λ k i less.
          let P : ℕ → Type 0 = λ l. fall k l (slice_index sizes i) ≡ other k l (slice_index sizes i) in
          let e : level + suc i ≡ level + 1 + i = omega arith in
          subst P e (same k (suc i) (omega (arith, less)))) lead.2),
    )

-- one more level after others, in bits that go on and by which keys fall in those before it as they did
sized-more : {K : Type 0} (taken : ℕ → ℕ) (fall other : K → ℕ → ℕ → ℕ) (falls : FallsInside other) (keys left : List K) (b c : List Bool)
    (level begin : ℕ) (sizes : List ℕ) (size : ℕ)
    → ((k : K) (i : ℕ) → i < length sizes → fall k (level + i) (slice_index sizes i) ≡ other k (level + i) (slice_index sizes i))
    → ((p : ℕ) → p < begin + 64 * sum sizes → item b p ≡ item c p)
    → LeadTo fall keys b level begin sizes left → AreSized taken fall keys b level begin sizes → size ≡ taken (length left)
    → AreSized taken other keys c level begin (sizes ++ size ∷ [])
sized-more taken fall other falls keys left b c level begin [] size alike kept lead sized is = (is ∙ ap (λ xs. taken (length xs)) (sym lead), tt)
sized-more {K} taken fall other falls keys left b c level begin (w ∷ sizes) size alike kept lead sized is =
    let here : (k : K) → fall k level w ≡ other k level w =
    λ k.
    let P : ℕ → Type 0 = λ l. fall k l w ≡ other k l w in
    let e : level + 0 ≡ level = omega arith in
    subst P e (alike k 0 (omega arith)) in
    let moved : left_of fall keys b level begin w ≡ left_of other keys b level begin w =
    left_of-alike fall other keys b level begin w here in
    let grown : left_of other keys b level begin w ≡ left_of other keys c level begin w =
    left_of-same other falls keys b c level begin begin w lead.0 (λ p less. kept (begin + p) (omega (arith, less, sum-first w sizes))) in
    let P : List K → Type 0 = λ xs. AreSized taken other xs c (level + 1) (begin + 64 * w) (sizes ++ size ∷ []) in (
      sized.0,
      subst P (moved ∙ grown)
          (sized-more taken fall other falls (left_of fall keys b level begin w) left b c (level + 1) (begin + 64 * w) sizes size
          (λ k i less.
          let Q : ℕ → Type 0 = λ l. fall k l (slice_index sizes i) ≡ other k l (slice_index sizes i) in
          let e : level + suc i ≡ level + 1 + i = omega arith in
          subst Q e (alike k (suc i) (omega (arith, less))))
          (λ p less. kept p (omega (arith, less, sum-first w sizes))) lead.2 sized.1 is),
    )

-- one more level that is chosen after others
chosen-more : {P : Type 0} (chooses : P → P → ℕ → List ℕ → ℕ → ℕ → Type 0) (fall other : ℕ → ℕ → ℕ → ℕ) (falls : FallsInside other) (keys left : List ℕ) (b c : List Bool)
    (level first begin : ℕ) (sizes : List ℕ) (size at next : ℕ) (p q r : P)
    → ((k : ℕ) (i : ℕ) → i < length sizes → fall k (level + i) (slice_index sizes i) ≡ other k (level + i) (slice_index sizes i))
    → ((i : ℕ) → i < begin + 64 * sum sizes → item b i ≡ item c i)
    → LeadTo fall keys b level begin sizes left → AreChosen chooses fall keys b level first begin sizes p q
    → at ≡ first + sum sizes → next ≡ level + length sizes → chooses q r at left next size
    → AreChosen chooses other keys c level first begin (sizes ++ size ∷ []) p r
chosen-more {P} chooses fall other falls keys left b c level first begin [] size at next p q r alike kept lead chosen at_is next_is choice =
    let at_first : at ≡ first = omega (arith, at_is) in
    let at_level : next ≡ level = omega (arith, next_is) in
    let A : P → Type 0 = λ s. chooses s r first keys level size in
    let B : List ℕ → Type 0 = λ xs. chooses q r first xs level size in
    let C : ℕ → Type 0 = λ n. chooses q r n left level size in
    let D : ℕ → Type 0 = λ n. chooses q r at left n size in
    (r, subst A (sym chosen) (subst B (sym lead) (subst C at_first (subst D at_level choice))), refl)
chosen-more {P} chooses fall other falls keys left b c level first begin (w ∷ sizes) size at next p q r alike kept lead chosen at_is next_is choice =
    let here : (k : ℕ) → fall k level w ≡ other k level w =
    λ k.
    let Q : ℕ → Type 0 = λ l. fall k l w ≡ other k l w in
    let e : level + 0 ≡ level = omega arith in
    subst Q e (alike k 0 (omega arith)) in
    let moved : left_of fall keys b level begin w ≡ left_of other keys b level begin w =
    left_of-alike fall other keys b level begin w here in
    let grown : left_of other keys b level begin w ≡ left_of other keys c level begin w =
    left_of-same other falls keys b c level begin begin w lead.0 (λ i less. kept (begin + i) (omega (arith, less, sum-first w sizes))) in
    let S : List ℕ → Type 0 = λ xs. AreChosen chooses other xs c (level + 1) (first + w) (begin + 64 * w) (sizes ++ size ∷ []) chosen.0 r in (
      chosen.0,
      chosen.1,
      subst S (moved ∙ grown)
          (chosen-more chooses fall other falls (left_of fall keys b level begin w) left b c (level + 1) (first + w) (begin + 64 * w) sizes size at next chosen.0 q r
          (λ k i less.
          let Q : ℕ → Type 0 = λ l. fall k l (slice_index sizes i) ≡ other k l (slice_index sizes i) in
          let e : level + suc i ≡ level + 1 + i = omega arith in
          subst Q e (alike k (suc i) (omega (arith, less))))
          (λ i less. kept i (omega (arith, less, sum-first w sizes))) lead.2 chosen.2
          (omega (arith, at_is, sum-first w sizes)) (omega (arith, next_is)) choice),
    )

-- one more level, by which hashes fall in those before it as they did
module _ (by by' : ℕ → ℕ → ℕ → ℕ → ℕ) (falls : (begin hash level words : ℕ) → 0 < words → by' begin hash level words < 64 * words)
    (keys left after sizes words new_sizes new_words : List ℕ)
    (same : (begin hash level w : ℕ) → 0 < w → begin + w ≤ length words → by' begin hash level w ≡ by begin hash level w)
    (h : Leave (fall_in by sizes) keys sizes words left)
    (adds : AddsLevel (by' (length words)) left sizes words new_sizes new_words after) where
  old_alike : (hash i : ℕ) → i < length sizes → fall_in by sizes hash (0 + i) (slice_index sizes i) ≡ fall_in by' new_sizes hash (0 + i) (slice_index sizes i)
  old_alike hash i inside =
      let e : 0 + i ≡ i = omega arith in
      let P : ℕ → Type 0 = λ l. fall_in by sizes hash l (slice_index sizes i) ≡ fall_in by' new_sizes hash l (slice_index sizes i) in
      let takes : take i new_sizes ≡ take i sizes =
      ap (take i) adds.sizes_are ∙ take-append-le i sizes (adds.size ∷ []) (omega (arith, inside)) in
      subst P (sym e)
      (sym (same (sum (take i sizes)) hash i (slice_index sizes i) (h.some i 0 inside)
      (omega (arith, h.all, sum_by_more_le (λ x. x) sizes i 0 inside)))
      ∙ ap (λ (s : List ℕ). by' (sum s) hash i (slice_index sizes i)) (sym takes))

  -- the new level begins behind all words
  begins : length words ≡ sum (take (length sizes) new_sizes)
  begins =
      sym h.all ∙ ap sum (sym (take-append_seam sizes (adds.size ∷ [])))
      ∙ ap (λ (s : List ℕ). sum (take (length sizes) s)) (sym adds.sizes_are)

  level_here : (n : ℕ) → length words ≡ n → IsLevel (by' n) left (bits_of new_words) (length sizes) (64 * length words) adds.size
  level_here n is =
      let P : ℕ → Type 0 = λ m. IsLevel (by' m) left (bits_of new_words) (length sizes) (64 * length words) adds.size in
      subst P is adds.level

  pub Leave-next : Leave (fall_in by' new_sizes) keys new_sizes new_words after
  Leave-next =
      Leave-more (fall_in by' new_sizes) (λ hash level w some. falls (sum (take level new_sizes)) hash level w some)
      keys left after sizes words new_sizes new_words
      (record {
        lead = LeadTo-alike (fall_in by sizes) (fall_in by' new_sizes) keys (bits_of words) 0 0 sizes left old_alike h.lead;
        some = h.some;
        all = h.all;
      })
      (record {
        size = adds.size;
        some = adds.some;
        sizes_are = adds.sizes_are;
        len = adds.len;
        kept = adds.kept;
        level = level_here (sum (take (length sizes) new_sizes)) begins;
        left_are = adds.left_are
            ∙ ap (λ (m : ℕ). left_of (by' m) left (bits_of new_words) (length sizes) (64 * length words) adds.size) begins;
      })

  -- and it has as many words as the keys that are left take
  pub AreSized-next : (taken : ℕ → ℕ) → AreSized taken (fall_in by sizes) keys (bits_of words) 0 0 sizes → adds.size ≡ taken (length left)
      → AreSized taken (fall_in by' new_sizes) keys (bits_of new_words) 0 0 new_sizes
  AreSized-next taken sized is =
      let P : List ℕ → Type 0 = λ s. AreSized taken (fall_in by' new_sizes) keys (bits_of new_words) 0 0 s in
      subst P (sym adds.sizes_are)
      (sized-more taken (fall_in by sizes) (fall_in by' new_sizes) (λ hash level w some. falls (sum (take level new_sizes)) hash level w some)
      keys left (bits_of words) (bits_of new_words) 0 0 sizes adds.size old_alike
      (λ p less. sym (adds.kept p (omega (arith, less, h.all)))) h.lead sized is)

  -- and it is chosen for them
  pub AreChosen-next : {P : Type 0} (chooses : P → P → ℕ → List ℕ → ℕ → ℕ → Type 0) (p q r : P) (level : ℕ)
      → AreChosen chooses (fall_in by sizes) keys (bits_of words) 0 0 0 sizes p q → length sizes ≡ level → chooses q r (length words) left level adds.size
      → AreChosen chooses (fall_in by' new_sizes) keys (bits_of new_words) 0 0 0 new_sizes p r
  AreChosen-next chooses p q r level chosen count choice =
      let S : List ℕ → Type 0 = λ s. AreChosen chooses (fall_in by' new_sizes) keys (bits_of new_words) 0 0 0 s p r in
      subst S (sym adds.sizes_are)
      (chosen-more chooses (fall_in by sizes) (fall_in by' new_sizes) (λ hash level w some. falls (sum (take level new_sizes)) hash level w some)
      keys left (bits_of words) (bits_of new_words) 0 0 0 sizes adds.size (length words) level p q r old_alike
      (λ i less. sym (adds.kept i (omega (arith, less, h.all)))) h.lead chosen
      (omega (arith, h.all)) (omega (arith, count)) choice)
