-- Each step of a checksum can be undone, so that a word that differs is seen to the end.
use Rattle.std.proofs.Common.{◌≡◌, ℕ, suc, ◌+◌, ◌*◌, ◌/◌, ◌%◌, ◌^◌, ◌<◌, ◌≤◌, List, [], ◌∷◌, ◌++◌, length, drop, get_or, All, length-append, refl, sym, ap, ◌∙◌, arith}
use Rattle.std.proofs.Math.Seq.{drop-cons}
use Rattle.std.specs.Int.Bits.{bit_xor, xor_assoc, xor_self, xor_zero_r}
use Rattle.std.proofs.lemmas.Nat.{xor_block, xor_comm, xor_lt}
use Rattle.std.proofs.lemmas.List.Elements.{All-head, All-tail}
use Rattle.bitm_block.specs.Checksum.{folded, mixed, chain_of, chains_from, checksum_from, checksum_of, four_joined, SeesOneWord}

-- what is combined twice is as it was
twice : (a b : ℕ) → bit_xor (bit_xor a b) b ≡ a
twice a b = xor_assoc a b b ∙ ap (bit_xor a) (xor_self b) ∙ xor_zero_r a

-- so two numbers that are the same then were the same
xor_same : (a b c : ℕ) → bit_xor a c ≡ bit_xor b c → a ≡ b
xor_same a b c e = sym (twice a c) ∙ ap (λ x. bit_xor x c) e ∙ twice b c

-- a folded number by its halves
fold_halves : (a r : ℕ) → a < 2 ^ 32 → r < 2 ^ 32 → folded (a * 2 ^ 32 + r) ≡ a * 2 ^ 32 + bit_xor r a
fold_halves a r high low =
    let top : (a * 2 ^ 32 + r) / 2 ^ 32 ≡ 0 * 2 ^ 32 + a = omega arith in
    ap (bit_xor (a * 2 ^ 32 + r)) top
    ∙ xor_block 32 a 0 r a low high
    ∙ ap (λ x. x * 2 ^ 32 + bit_xor r a) (xor_zero_r a)

-- numbers that are folded to the same are the same
fold_same : (x y : ℕ) → x < 2 ^ 64 → y < 2 ^ 64 → folded x ≡ folded y → x ≡ y
fold_same x y fx fy e =
    let a = x / 2 ^ 32 in
    let r = x % 2 ^ 32 in
    let b = y / 2 ^ 32 in
    let s = y % 2 ^ 32 in
    let ex : x ≡ a * 2 ^ 32 + r = omega arith in
    let ey : y ≡ b * 2 ^ 32 + s = omega arith in
    let ha : a < 2 ^ 32 = omega arith in
    let hb : b < 2 ^ 32 = omega arith in
    let hr : r < 2 ^ 32 = omega arith in
    let hs : s < 2 ^ 32 = omega arith in
    let both : a * 2 ^ 32 + bit_xor r a ≡ b * 2 ^ 32 + bit_xor s b =
    sym (fold_halves a r ha hr) ∙ ap folded (sym ex) ∙ e ∙ ap folded ey ∙ fold_halves b s hb hs in
    let la : bit_xor r a < 2 ^ 32 = xor_lt 32 r a hr ha in
    let lb : bit_xor s b < 2 ^ 32 = xor_lt 32 s b hs hb in
    let high : a ≡ b = omega (arith, both, la, lb) in
    let low : bit_xor r a ≡ bit_xor s b = omega (arith, both, high) in
    let rs : r ≡ s = xor_same r s a (low ∙ ap (bit_xor s) (sym high)) in
    omega (arith, ex, ey, high, rs)

-- the factor has an inverse modulo 2^64
undone : (x : ℕ) → x < 2 ^ 64 → x * 0x9e37_79b9_7f4a_7c15 % 2 ^ 64 * 0xf1de_83e1_9937_733d % 2 ^ 64 ≡ x
undone x fits = omega arith

times_same : (x y : ℕ) → x < 2 ^ 64 → y < 2 ^ 64
    → x * 0x9e37_79b9_7f4a_7c15 % 2 ^ 64 ≡ y * 0x9e37_79b9_7f4a_7c15 % 2 ^ 64 → x ≡ y
times_same x y fx fy e = sym (undone x fx) ∙ ap (λ z. z * 0xf1de_83e1_9937_733d % 2 ^ 64) e ∙ undone y fy

mod_small : (n : ℕ) → n % 2 ^ 64 < 2 ^ 64
mod_small n = omega arith

fold_small : (x : ℕ) → x < 2 ^ 64 → folded x < 2 ^ 64
fold_small x fits = xor_lt 64 x (x / 2 ^ 32) fits (omega arith)

mixed_small : (h n : ℕ) → mixed h n < 2 ^ 64
unfolding mixed
mixed_small h n = fold_small (bit_xor h n * 0x9e37_79b9_7f4a_7c15 % 2 ^ 64) (mod_small _)

-- of one sum and two words, or of one word and two sums
mixed_same : (h k n m : ℕ) → h < 2 ^ 64 → k < 2 ^ 64 → n < 2 ^ 64 → m < 2 ^ 64 → mixed h n ≡ mixed k m → bit_xor h n ≡ bit_xor k m
unfolding mixed
mixed_same h k n m fh fk fn fm e =
    times_same (bit_xor h n) (bit_xor k m) (xor_lt 64 h n fh fn) (xor_lt 64 k m fk fm)
    (fold_same (bit_xor h n * 0x9e37_79b9_7f4a_7c15 % 2 ^ 64) (bit_xor k m * 0x9e37_79b9_7f4a_7c15 % 2 ^ 64) (mod_small _) (mod_small _) e)

-- two sums with one word, and one sum with two words
first_same : (h k w : ℕ) → h < 2 ^ 64 → k < 2 ^ 64 → w < 2 ^ 64 → mixed h w ≡ mixed k w → h ≡ k
first_same h k w fh fk fw e = xor_same h k w (mixed_same h k w w fh fk fw fw e)

second_same : (h x y : ℕ) → h < 2 ^ 64 → x < 2 ^ 64 → y < 2 ^ 64 → mixed h x ≡ mixed h y → x ≡ y
second_same h x y fh fx fy e = xor_same x y h (xor_comm x h ∙ mixed_same h h x y fh fh fx fy e ∙ xor_comm h y)

-- ---- one chain

-- a sum that differs goes on to differ
checksums_differ : (words : List ℕ) (h k : ℕ) → All (λ w. w < 2 ^ 64) words → h < 2 ^ 64 → k < 2 ^ 64 → checksum_from h words ≡ checksum_from k words
    → h ≡ k
unfolding checksum_from
checksums_differ [] h k fit fh fk e = e
checksums_differ (w ∷ words) h k fit fh fk e =
    let next = checksums_differ words (mixed h w) (mixed k w) (All-tail (λ (v : ℕ). v < 2 ^ 64) w words fit) (mixed_small h w) (mixed_small k w) e in
    first_same h k w fh fk (All-head (λ (v : ℕ). v < 2 ^ 64) w words fit) next

-- words in front of one that differs
behind : (front back : List ℕ) (x y h : ℕ) → All (λ w. w < 2 ^ 64) back → h < 2 ^ 64 → x < 2 ^ 64 → y < 2 ^ 64
    → checksum_from h (front ++ x ∷ back) ≡ checksum_from h (front ++ y ∷ back) → x ≡ y
unfolding checksum_from
behind [] back x y h fit fh fx fy e =
    second_same h x y fh fx fy (checksums_differ back (mixed h x) (mixed h y) fit (mixed_small h x) (mixed_small h y) e)
behind (w ∷ front) back x y h fit fh fx fy e = behind front back x y (mixed h w) fit (mixed_small h w) fx fy e

same_len : (front back : List ℕ) (x y : ℕ) → length (front ++ x ∷ back) ≡ length (front ++ y ∷ back)
same_len front back x y = length-append front (x ∷ back) ∙ sym (length-append front (y ∷ back))

pub chain_sees_one_word : SeesOneWord chain_of
chain_sees_one_word front back x y fit short fx fy differ e =
    differ
    (behind front back x y (length (front ++ x ∷ back)) fit short fx fy
    (e ∙ ap (λ n. checksum_from n (front ++ y ∷ back)) (sym (same_len front back x y))))

-- ---- four chains

-- four words at an index are mixed in
module _ (words : List ℕ) (i : ℕ) (long : i + 4 ≤ length words) where
  next : (k m : ℕ) → k < 4 → m ≡ i + k → drop m words ≡ get_or words m 0 ∷ drop (m + 1) words
  next k m less is =
      let far : suc m ≡ m + 1 = omega arith in
      drop-cons words m 0 (omega (arith, less, long, is)) ∙ ap (λ n. get_or words m 0 ∷ drop n words) far

  four : drop i words ≡ get_or words i 0 ∷ get_or words (i + 1) 0 ∷ get_or words (i + 2) 0 ∷ get_or words (i + 3) 0 ∷ drop (i + 4) words
  four =
      grind (
        arith,
        next 0 i (omega arith) (omega arith),
        next 1 (i + 1) (omega arith) refl,
        next 2 (i + 2) (omega arith) refl,
        next 3 (i + 3) (omega arith) refl,
      )

  pub chains_more : (a b c d : ℕ) → chains_from a b c d (drop i words)
      ≡ chains_from (mixed a (get_or words i 0)) (mixed b (get_or words (i + 1) 0)) (mixed c (get_or words (i + 2) 0)) (mixed d (get_or words (i + 3) 0))
      (drop (i + 4) words)
  unfolding chains_from
  chains_more a b c d = ap (chains_from a b c d) four

-- the last words, fewer than four, go to the first chain
pub chains_end : (words : List ℕ) (a b c d : ℕ) → length words < 4 → chains_from a b c d words ≡ four_joined (checksum_from a words) b c d
unfolding chains_from
chains_end (p ∷ q ∷ r ∷ s ∷ words) a b c d short = absurd (omega (arith, short))
chains_end words a b c d short = refl

record AreSmall (a b c d : ℕ) : Type 0 where
  a_fits : a < 2 ^ 64
  b_fits : b < 2 ^ 64
  c_fits : c < 2 ^ 64
  d_fits : d < 2 ^ 64

are_small : (a b c d p q r s : ℕ) → AreSmall (mixed a p) (mixed b q) (mixed c r) (mixed d s)
are_small a b c d p q r s = record { a_fits = mixed_small a p; b_fits = mixed_small b q; c_fits = mixed_small c r; d_fits = mixed_small d s }

from_small : (words : List ℕ) (h : ℕ) → h < 2 ^ 64 → checksum_from h words < 2 ^ 64
unfolding checksum_from
from_small [] h fh = fh
from_small (w ∷ words) h fh = from_small words (mixed h w) (mixed_small h w)

-- a chain that differs before the four are joined, or before more words, goes on to differ
module _ (a b c d k : ℕ) (small : AreSmall a b c d) (fk : k < 2 ^ 64) where
  join_a : four_joined a b c d ≡ four_joined k b c d → a ≡ k
  join_a e =
      first_same a k b small.a_fits fk small.b_fits
      (first_same _ _ c (mixed_small a b) (mixed_small k b) small.c_fits
      (first_same _ _ d (mixed_small (mixed a b) c) (mixed_small (mixed k b) c) small.d_fits e))

  join_b : four_joined a b c d ≡ four_joined a k c d → b ≡ k
  join_b e =
      second_same a b k small.a_fits small.b_fits fk
      (first_same _ _ c (mixed_small a b) (mixed_small a k) small.c_fits
      (first_same _ _ d (mixed_small (mixed a b) c) (mixed_small (mixed a k) c) small.d_fits e))

  join_c : four_joined a b c d ≡ four_joined a b k d → c ≡ k
  join_c e =
      second_same (mixed a b) c k (mixed_small a b) small.c_fits fk
      (first_same _ _ d (mixed_small (mixed a b) c) (mixed_small (mixed a b) k) small.d_fits e)

  join_d : four_joined a b c d ≡ four_joined a b c k → d ≡ k
  join_d e = second_same (mixed (mixed a b) c) d k (mixed_small (mixed a b) c) small.d_fits fk e

-- four words before the others
module _ (p q r s : ℕ) (words : List ℕ) (fit : All (λ w. w < 2 ^ 64) (p ∷ q ∷ r ∷ s ∷ words)) where
  after_four : All (λ w. w < 2 ^ 64) words
  after_four i d less = fit (suc (suc (suc (suc i)))) d (omega (arith, less))

chains_a : (words : List ℕ) (a b c d k : ℕ) → All (λ w. w < 2 ^ 64) words → AreSmall a b c d → k < 2 ^ 64
    → chains_from a b c d words ≡ chains_from k b c d words → a ≡ k
unfolding chains_from
chains_a (p ∷ q ∷ r ∷ s ∷ words) a b c d k fit small fk e =
    first_same a k p small.a_fits fk (fit 0 0 (omega arith))
    (chains_a words (mixed a p) (mixed b q) (mixed c r) (mixed d s) (mixed k p) (after_four p q r s words fit)
    (are_small a b c d p q r s) (mixed_small k p) e)
chains_a words a b c d k fit small fk e =
    checksums_differ words a k fit small.a_fits fk
    (join_a (checksum_from a words) b c d (checksum_from k words)
    (record { a_fits = from_small words a small.a_fits; b_fits = small.b_fits; c_fits = small.c_fits; d_fits = small.d_fits })
    (from_small words k fk) e)

chains_b : (words : List ℕ) (a b c d k : ℕ) → All (λ w. w < 2 ^ 64) words → AreSmall a b c d → k < 2 ^ 64
    → chains_from a b c d words ≡ chains_from a k c d words → b ≡ k
unfolding chains_from
chains_b (p ∷ q ∷ r ∷ s ∷ words) a b c d k fit small fk e =
    first_same b k q small.b_fits fk (fit 1 0 (omega arith))
    (chains_b words (mixed a p) (mixed b q) (mixed c r) (mixed d s) (mixed k q) (after_four p q r s words fit)
    (are_small a b c d p q r s) (mixed_small k q) e)
chains_b words a b c d k fit small fk e =
    join_b (checksum_from a words) b c d k
    (record { a_fits = from_small words a small.a_fits; b_fits = small.b_fits; c_fits = small.c_fits; d_fits = small.d_fits })
    fk e

chains_c : (words : List ℕ) (a b c d k : ℕ) → All (λ w. w < 2 ^ 64) words → AreSmall a b c d → k < 2 ^ 64
    → chains_from a b c d words ≡ chains_from a b k d words → c ≡ k
unfolding chains_from
chains_c (p ∷ q ∷ r ∷ s ∷ words) a b c d k fit small fk e =
    first_same c k r small.c_fits fk (fit 2 0 (omega arith))
    (chains_c words (mixed a p) (mixed b q) (mixed c r) (mixed d s) (mixed k r) (after_four p q r s words fit)
    (are_small a b c d p q r s) (mixed_small k r) e)
chains_c words a b c d k fit small fk e =
    join_c (checksum_from a words) b c d k
    (record { a_fits = from_small words a small.a_fits; b_fits = small.b_fits; c_fits = small.c_fits; d_fits = small.d_fits })
    fk e

chains_d : (words : List ℕ) (a b c d k : ℕ) → All (λ w. w < 2 ^ 64) words → AreSmall a b c d → k < 2 ^ 64
    → chains_from a b c d words ≡ chains_from a b c k words → d ≡ k
unfolding chains_from
chains_d (p ∷ q ∷ r ∷ s ∷ words) a b c d k fit small fk e =
    first_same d k s small.d_fits fk (fit 3 0 (omega arith))
    (chains_d words (mixed a p) (mixed b q) (mixed c r) (mixed d s) (mixed k s) (after_four p q r s words fit)
    (are_small a b c d p q r s) (mixed_small k s) e)
chains_d words a b c d k fit small fk e =
    join_d (checksum_from a words) b c d k
    (record { a_fits = from_small words a small.a_fits; b_fits = small.b_fits; c_fits = small.c_fits; d_fits = small.d_fits })
    fk e

-- words in front of one that differs: by fours, and then which of the four it is
behind_fours : (front back : List ℕ) (x y a b c d : ℕ) → All (λ w. w < 2 ^ 64) back → AreSmall a b c d → x < 2 ^ 64 → y < 2 ^ 64
    → chains_from a b c d (front ++ x ∷ back) ≡ chains_from a b c d (front ++ y ∷ back) → x ≡ y
unfolding chains_from
behind_fours [] (q ∷ r ∷ s ∷ back) x y a b c d fit small fx fy e =
    second_same a x y small.a_fits fx fy
    (chains_a back (mixed a x) (mixed b q) (mixed c r) (mixed d s) (mixed a y) (λ i d less. fit (suc (suc (suc i))) d (omega (arith, less)))
    (are_small a b c d x q r s) (mixed_small a y) e)
behind_fours (p ∷ []) (r ∷ s ∷ back) x y a b c d fit small fx fy e =
    second_same b x y small.b_fits fx fy
    (chains_b back (mixed a p) (mixed b x) (mixed c r) (mixed d s) (mixed b y) (λ i d less. fit (suc (suc i)) d (omega (arith, less)))
    (are_small a b c d p x r s) (mixed_small b y) e)
behind_fours (p ∷ q ∷ []) (s ∷ back) x y a b c d fit small fx fy e =
    second_same c x y small.c_fits fx fy
    (chains_c back (mixed a p) (mixed b q) (mixed c x) (mixed d s) (mixed c y) (λ i d less. fit (suc i) d (omega (arith, less)))
    (are_small a b c d p q x s) (mixed_small c y) e)
behind_fours (p ∷ q ∷ r ∷ []) back x y a b c d fit small fx fy e =
    second_same d x y small.d_fits fx fy
    (chains_d back (mixed a p) (mixed b q) (mixed c r) (mixed d x) (mixed d y) fit (are_small a b c d p q r x) (mixed_small d y) e)
behind_fours (p ∷ q ∷ r ∷ s ∷ front) back x y a b c d fit small fx fy e =
    behind_fours front back x y (mixed a p) (mixed b q) (mixed c r) (mixed d s) fit (are_small a b c d p q r s) fx fy e
behind_fours front back x y a b c d fit small fx fy e =
    behind front back x y a fit small.a_fits fx fy
    (join_a (checksum_from a (front ++ x ∷ back)) b c d (checksum_from a (front ++ y ∷ back))
    (record { a_fits = from_small (front ++ x ∷ back) a small.a_fits; b_fits = small.b_fits; c_fits = small.c_fits; d_fits = small.d_fits })
    (from_small (front ++ y ∷ back) a small.a_fits) e)

pub sees_one_word : SeesOneWord checksum_of
sees_one_word front back x y fit short fx fy differ e =
    differ
    (behind_fours front back x y (length (front ++ x ∷ back)) 1 2 3 fit
    (record { a_fits = short; b_fits = omega arith; c_fits = omega arith; d_fits = omega arith }) fx fy
    (e ∙ ap (λ n. chains_from n 1 2 3 (front ++ y ∷ back)) (sym (same_len front back x y))))
