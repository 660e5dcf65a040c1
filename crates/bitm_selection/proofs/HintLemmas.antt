-- What a bit that was found near a hint says of its rank.
use Rattle.std.proofs.Common.{◌≡◌, ℕ, zero, suc, ◌+◌, ◌*◌, ◌/◌, ◌%◌, ◌^◌, ◌<◌, ◌≤◌, Bool, true, false, List, [], ◌∷◌, ◌++◌, drop, length, min, take, count_ones, refl, ap, sym, ◌∙◌, subst, arith, MatchOption, IfSome, Option, Some, None, ⊎_elim}
use Rattle.std.specs.Prelude.{⊤}
use Rattle.std.proofs.lemmas.Bool.{cases_lt}
use Rattle.std.proofs.lemmas.List.{append-nil, take-append-drop}
use Rattle.std.proofs.Math.ListN.{drop_of_length-le}
use Rattle.std.proofs.Math.Seq.{drop-append_seam, take-append_seam}
use Rattle.bit_lists.specs.Bits.{bits_of}
use Rattle.bit_lists.specs.Count.{count_of, ones_before, Picks}
use Rattle.bit_lists.proofs.lemmas.BitsLemmas.{length-bits_of}
use Rattle.bit_lists.proofs.lemmas.PickLemmas.{rank_below, same_from_Picks}
use Rattle.bitm_select.specs.Search.{sought_bits, IsWord}
use Rattle.bitm_select.proofs.lemmas.MarkLemmas.{count_before-sought_bits, sought_bits-long, word_counts}
use Rattle.bitm_selection.specs.Hints.{hint_words, AreHints, ArePair, IsHint, Lead}

-- before position `from`, which has rank `rank`, there are the bits before its word and those of the word before it
pub before_word : (words : List ℕ) (v : Bool) (rank from w : ℕ) → from / 64 < length words → IsWord (sought_bits v (bits_of words)) (from / 64) w
    → Picks (bits_of words) v rank from
    → ones_before (sought_bits v (bits_of words)) (64 * (from / 64)) + count_ones (w % 2 ^ (from % 64)) ≡ rank
before_word words v rank from w inside is picks =
    let b = bits_of words in
    let m = sought_bits v b in
    let counts = word_counts m (from / 64) w (sought_bits-long words v (from / 64) inside) is (from % 64) (omega arith) in
    let at : 64 * (from / 64) + from % 64 ≡ from = omega arith in
    let all = count_before-sought_bits b v from (omega (arith, picks.inside)) in
    omega (arith, counts, ap (ones_before m) at, all, picks.before)

-- what is found has the rank, by whichever sum the rank is said
pub has_rank : (b : List Bool) (v : Bool) (r s : ℕ) (A : Type 0) (o : Option ℕ) → MatchOption o A (Picks b v r) → r ≡ s → IfSome o (Picks b v s)
has_rank b v r s A None found e = tt
has_rank b v r s A (Some p) found e = subst (λ (n : ℕ). Picks b v n p) e found

-- half `at % 2` of pair `at / 2` is hint `at`
half_is : (v : Bool) (b : List Bool) (k w at r : ℕ) → w < 2 ^ 64 → at / 2 ≡ k → at % 2 ≡ r → ArePair v b k w
    → IsHint v b at (w / 2 ^ (32 * r) % 2 ^ 32)
half_is v b k w at zero fits pair even are =
    let same : 2 * k ≡ at = omega arith in
    let whole : w % 2 ^ 32 ≡ w / 2 ^ (32 * 0) % 2 ^ 32 = omega arith in
    subst (λ (n : ℕ). IsHint v b n (w / 2 ^ (32 * 0) % 2 ^ 32)) same (subst (λ (p : ℕ). IsHint v b (2 * k) p) whole are.low)
half_is v b k w at (suc zero) fits pair odd are =
    let same : 2 * k + 1 ≡ at = omega arith in
    let whole : w / 2 ^ 32 ≡ w / 2 ^ (32 * 1) % 2 ^ 32 = omega arith in
    subst (λ (n : ℕ). IsHint v b n (w / 2 ^ (32 * 1) % 2 ^ 32)) same (subst (λ (p : ℕ). IsHint v b (2 * k + 1) p) whole are.high)
half_is v b k w at (suc (suc r)) fits pair more are = absurd (omega arith)

pub hint_is : (v : Bool) (b : List Bool) (k w at : ℕ) → w < 2 ^ 64 → at / 2 ≡ k → ArePair v b k w → IsHint v b at (w / 2 ^ (32 * (at % 2)) % 2 ^ 32)
hint_is v b k w at fits pair are = half_is v b k w at (at % 2) fits pair refl are

-- the position of a bit is its hint, and no other number is
pub picked_hint : (v : Bool) (b : List Bool) (k p : ℕ) → Picks b v (k * 128) p → IsHint v b k p
picked_hint v b k p picks =
    let here : Picks b v (128 * k) p = subst (λ (r : ℕ). Picks b v r p) (omega arith) picks in
    record { some = λ _. here; none = λ few. absurd (omega (arith, few, rank_below b v (128 * k) p here)) }

pub only_hint : (v : Bool) (b : List Bool) (k p q : ℕ) → Picks b v (k * 128) p → IsHint v b k q → q ≡ p
only_hint v b k p q picks is =
    let here : Picks b v (128 * k) p = subst (λ (r : ℕ). Picks b v r p) (omega arith) picks in
    same_from_Picks b v (128 * k) q p (is.some (rank_below b v (128 * k) p here)) here

-- a bit that is found near a hint, which leads to no bit where there is none, has the rank
pub found_near : (words hints : List ℕ) (v : Bool) (at from rest rank position : ℕ) (o : Option ℕ) → AreHints v words hints → 0 < length hints
    → IsHint v (bits_of words) at from → ((r : ℕ) → Picks (bits_of words) v r from → IfSome o (Picks (bits_of words) v (r + rest)))
    → (length (bits_of words) ≤ from → o ≡ None) → o ≡ Some position → 128 * at + rest ≡ rank → Picks (bits_of words) v rank position
found_near words hints v at from rest rank position o are some is near outside found sum =
    let b = bits_of words in
    ⊎_elim
    (λ below.
    let here : IfSome (Some position) (Picks b v (128 * at + rest)) =
    subst (λ (z : Option ℕ). IfSome z (Picks b v (128 * at + rest))) found (near (128 * at) (is.some below)) in
    subst (λ (r : ℕ). Picks b v r position) sum here)
    (λ past.
    let none : o ≡ None = outside (omega (arith, is.none past, are.short some, length-bits_of words)) in
    let never : ⊥ = subst (λ (z : Option ℕ). MatchOption z ⊥ (λ _. ⊤)) (sym found ∙ none) tt in
    absurd never)
    (cases_lt (128 * at) (count_of b v))

-- a list that was split at the least of n and its length, and whose parts have new items of the same number, is these
-- parts, before index n and from there on
pub parts_of_split : (n : ℕ) (front back : List ℕ) → length front ≡ min n (length front + length back)
    → (take n (front ++ back) ≡ front) × (drop n (front ++ back) ≡ back)
parts_of_split n front [] is =
    let all : front ++ [] ≡ front = append-nil front in
    let long : length front ≤ n = omega arith in
    let past = drop_of_length-le front long in
    let whole : take n front ≡ front = sym (append-nil (take n front)) ∙ ap (λ z. take n front ++ z) (sym past) ∙ take-append-drop n front in
    (ap (take n) all ∙ whole, ap (drop n) all ∙ past)
parts_of_split n front (b ∷ back) is =
    let here : length front ≡ n = omega arith in (
      subst (λ (k : ℕ). take k (front ++ b ∷ back) ≡ front) here (take-append_seam front (b ∷ back)),
      subst (λ (k : ℕ). drop k (front ++ b ∷ back) ≡ b ∷ back) here (drop-append_seam front (b ∷ back)),
    )

-- hints of 1 bits and after them hints of 0 bits lead
pub lead_joined : (ones : ℕ) (front back words : List ℕ) → length front ≡ min (hint_words ones) (length front + length back)
    → AreHints true words front → AreHints false words back → Lead ones (front ++ back) words
lead_joined ones front back words is of_ones of_zeros =
    let parts = parts_of_split (hint_words ones) front back is in
    record {
      of_ones = subst (λ (l : List ℕ). AreHints true words l) (sym parts.0) of_ones;
      of_zeros = subst (λ (l : List ℕ). AreHints false words l) (sym parts.1) of_zeros;
    }
