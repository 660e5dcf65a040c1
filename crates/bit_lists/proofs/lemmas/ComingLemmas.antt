-- The bits of a range, from either end.
use Rattle.std.proofs.Common.{◌≡◌, ℕ, suc, ◌+◌, ◌-◌, ◌*◌, ◌<◌, ◌≤◌, Bool, false, List, [], ◌∷◌, ◌++◌, length, take, drop, sym, ap, ap₂, ◌∙◌, arith, length-drop, take_all}
use Rattle.std.proofs.lemmas.List.{length-take-le, get_or-drop, take_more, drop-drop}
use Rattle.std.proofs.Math.Seq.{drop-cons, take-add}
use Rattle.bit_lists.proofs.lemmas.BitsLemmas.{length-bits_of}
use Rattle.bit_lists.specs.Bits.{bits_of, item}
use Rattle.bit_lists.specs.Coming.{bits_coming}

-- as many as the range has positions
pub length-bits_coming : (words : List ℕ) (start end : ℕ) → end ≤ 64 * length words → length (bits_coming words start end) ≡ end - start
unfolding bits_coming
length-bits_coming words start end within =
    length-take-le (end - start) (drop start (bits_of words)) (omega (arith, length-drop start (bits_of words), length-bits_of words))

pub bits_coming_none : (words : List ℕ) (start end : ℕ) → end ≤ start → bits_coming words start end ≡ []
unfolding bits_coming
bits_coming_none words start end l =
    let none : end - start ≡ 0 = omega arith in
    ap (λ n. take n (drop start (bits_of words))) none

-- none come of a range that is at its end, and none of what a step leaves of it
pub ended_bits_coming : (words : List ℕ) (start end from to : ℕ) → end ≤ start → to ≤ from
    → (bits_coming words start end ≡ []) × (bits_coming words from to ≡ [])
ended_bits_coming words start end from to was is = (bits_coming_none words start end was, bits_coming_none words from to is)

pub bits_coming_all : (words : List ℕ) → bits_coming words 0 (64 * length words) ≡ bits_of words
unfolding bits_coming
bits_coming_all words = take_all (64 * length words - 0) (bits_of words) (omega (arith, length-bits_of words))

-- the bit at the start, and the bits after it
pub bits_coming_first : (words : List ℕ) (start end : ℕ) → start < end → end ≤ 64 * length words
    → bits_coming words start end ≡ item (bits_of words) start ∷ bits_coming words (start + 1) end
unfolding bits_coming
bits_coming_first words start end l within =
    let left : end - start ≡ suc (end - (start + 1)) = omega arith in
    let next : suc start ≡ start + 1 = omega arith in
    ap (λ n. take n (drop start (bits_of words))) left
    ∙ ap (take (suc (end - (start + 1)))) (drop-cons (bits_of words) start false (omega (arith, length-bits_of words)))
    ∙ ap (λ n. item (bits_of words) start ∷ take (end - (start + 1)) (drop n (bits_of words))) next

-- the bits before the last one, and the last one
pub bits_coming_last : (words : List ℕ) (start end : ℕ) → start < end → end ≤ 64 * length words
    → bits_coming words start end ≡ bits_coming words start (end - 1) ++ item (bits_of words) (end - 1) ∷ []
unfolding bits_coming
bits_coming_last words start end l within =
    let front = drop start (bits_of words) in
    let before = end - 1 - start in
    let left : end - start ≡ before + 1 = omega arith in
    let at : start + before ≡ end - 1 = omega arith in
    ap (λ n. take n front) left
    ∙ take_more front before false (omega (arith, length-drop start (bits_of words), length-bits_of words))
    ∙ ap (λ x. take before front ++ x ∷ []) (get_or-drop start (bits_of words) before false ∙ ap (item (bits_of words)) at)

-- the bits before a position of the range, and those from it on
bits_coming_split : (words : List ℕ) (start middle end : ℕ) → start ≤ middle → middle ≤ end
    → bits_coming words start end ≡ bits_coming words start middle ++ bits_coming words middle end
unfolding bits_coming
bits_coming_split words start middle end l m =
    let front = drop start (bits_of words) in
    let before = middle - start in
    let all : end - start ≡ before + (end - middle) = omega arith in
    let at : start + before ≡ middle = omega arith in
    ap (λ n. take n front) all
    ∙ take-add before (end - middle) front
    ∙ ap (λ r. take before front ++ take (end - middle) r) (drop-drop before start (bits_of words) ∙ ap (λ k. drop k (bits_of words)) at)

-- what came from the front, what is left, and what came from the back
pub bits_coming_parts : (words : List ℕ) (start i j end : ℕ) → start ≤ i → i ≤ j → j ≤ end
    → bits_coming words start end ≡ bits_coming words start i ++ (bits_coming words i j ++ bits_coming words j end)
bits_coming_parts words start i j end l m n =
    bits_coming_split words start i end l (omega arith) ∙ ap (λ r. bits_coming words start i ++ r) (bits_coming_split words i j end m n)

-- ---- the same, where the range after a step is known by equations

pub bits_coming_step : (words : List ℕ) (start end next same position : ℕ) (bit : Bool) → end ≤ 64 * length words → 0 < end - start
    → same ≡ end → position ≡ start → next ≡ start + 1 → bit ≡ item (bits_of words) position
    → bits_coming words start end ≡ bit ∷ bits_coming words next same
bits_coming_step words start end next same position bit within some kept at on is =
    bits_coming_first words start end (omega arith) within
    ∙ ap₂ (λ x k. x ∷ bits_coming words k end) (sym (is ∙ ap (item (bits_of words)) at)) (sym on)
    ∙ ap (λ k. bit ∷ bits_coming words next k) (sym kept)

pub bits_coming_step_back : (words : List ℕ) (start end next same position : ℕ) (bit : Bool) → end ≤ 64 * length words → 0 < end - start
    → same ≡ start → position ≡ next → end ≡ next + 1 → bit ≡ item (bits_of words) position
    → bits_coming words start end ≡ bits_coming words same next ++ bit ∷ []
bits_coming_step_back words start end next same position bit within some kept at back is =
    let before : end - 1 ≡ next = omega arith in
    bits_coming_last words start end (omega arith) within
    ∙ ap₂ (λ x k. bits_coming words start k ++ x ∷ []) (ap (item (bits_of words)) before ∙ sym (is ∙ ap (item (bits_of words)) at)) before
    ∙ ap (λ k. bits_coming words k next ++ bit ∷ []) (sym kept)
