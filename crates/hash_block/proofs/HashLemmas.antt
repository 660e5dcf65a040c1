-- Hashes of strings.
use Rattle.std.proofs.Common.{◌≡◌, ℕ, zero, suc, ◌+◌, ◌*◌, ◌/◌, ◌%◌, ◌^◌, ◌<◌, refl, ap, ◌∙◌, if◌then◌else◌, ◌==◌, arith}
use Rattle.hash_block.specs.Kinds.{fnv_of, hash_by, mixed}
use Rattle.hash_block.specs.SipHash.{after_words, finished, hash_of, keyed, keyed_hash, last_word, number_from, with_word}
use Rattle.hash_block.specs.declared.strings.sip.Sip.{Sip}

-- one more byte is hashed
pub fnv_more : (seed : ℕ) (string : ℕ → ℕ) (n hash byte next : ℕ) → hash ≡ fnv_of seed string n → byte ≡ string n → next ≡ mixed hash byte
    → next ≡ fnv_of seed string (n + 1)
unfolding fnv_of
fnv_more seed string n hash byte next hash_is byte_is next_is =
    let more : suc n ≡ n + 1 = omega arith in
    next_is
    ∙ ap (λ h. mixed h byte) hash_is
    ∙ ap (mixed (fnv_of seed string n)) byte_is
    ∙ ap (fnv_of seed string) more

same_fnv : (seed : ℕ) (string other : ℕ → ℕ) (n : ℕ) → ((j : ℕ) → j < n → string j ≡ other j) → fnv_of seed string n ≡ fnv_of seed other n
unfolding fnv_of
same_fnv seed string other zero same = refl
same_fnv seed string other (suc n) same =
    ap (λ h. mixed h (string n)) (same_fnv seed string other n (λ j less. same j (omega (arith, less))))
    ∙ ap (mixed (fnv_of seed other n)) (same n (omega arith))

-- ---- SipHash

-- one more byte of a number
pub number_more : (string : ℕ → ℕ) (at n number byte next : ℕ) → number ≡ number_from string at n → byte ≡ string (at + n)
    → next ≡ number + byte * 256 ^ n → next ≡ number_from string at (n + 1)
unfolding number_from
number_more string at n number byte next number_is byte_is next_is =
    let more : suc n ≡ n + 1 = omega arith in
    next_is
    ∙ ap (λ h. h + byte * 256 ^ n) number_is
    ∙ ap (λ b. number_from string at n + b * 256 ^ n) byte_is
    ∙ ap (number_from string at) more

same_number_from : (string other : ℕ → ℕ) (at n : ℕ) → ((j : ℕ) → j < at + n → string j ≡ other j) → number_from string at n ≡ number_from other at n
unfolding number_from
same_number_from string other at zero same = refl
same_number_from string other at (suc n) same =
    ap (λ h. h + string (at + n) * 256 ^ n) (same_number_from string other at n (λ j less. same j (omega (arith, less))))
    ∙ ap (λ b. number_from other at n + b * 256 ^ n) (same (at + n) (omega arith))

-- one more word is hashed
pub words_more : (s : Sip) (string : ℕ → ℕ) (n : ℕ) (state : Sip) (word : ℕ) (next : Sip) → state ≡ after_words s string n
    → word ≡ number_from string (8 * n) 8 → next ≡ with_word state word → next ≡ after_words s string (n + 1)
unfolding after_words
words_more s string n state word next state_is word_is next_is =
    let more : suc n ≡ n + 1 = omega arith in
    next_is
    ∙ ap (λ t. with_word t word) state_is
    ∙ ap (with_word (after_words s string n)) word_is
    ∙ ap (after_words s string) more

same_after_words : (s : Sip) (string other : ℕ → ℕ) (n : ℕ) → ((j : ℕ) → j < 8 * n → string j ≡ other j)
    → after_words s string n ≡ after_words s other n
unfolding after_words
same_after_words s string other zero same = refl
same_after_words s string other (suc n) same =
    ap (λ t. with_word t (number_from string (8 * n) 8)) (same_after_words s string other n (λ j less. same j (omega (arith, less))))
    ∙ ap (with_word (after_words s other n)) (same_number_from string other (8 * n) 8 (λ j less. same j (omega (arith, less))))

same_sip : (seed : ℕ) (string other : ℕ → ℕ) (n : ℕ) → ((j : ℕ) → j < n → string j ≡ other j) → hash_of seed string n ≡ hash_of seed other n
unfolding hash_of keyed_hash
same_sip seed string other n same =
    ap (λ t. finished (with_word t (last_word string n)))
    (same_after_words (keyed seed 0) string other (n / 8) (λ j less. same j (omega (arith, less))))
    ∙ ap (λ w. finished (with_word (after_words (keyed seed 0) other (n / 8)) (w + n % 256 * 2 ^ 56)))
    (same_number_from string other (8 * (n / 8)) (n % 8) (λ j less. same j (omega (arith, less))))

-- the hash, of the state after the whole words, and of the bytes that are left
pub hash_is : (k0 k1 : ℕ) (string : ℕ → ℕ) (len : ℕ) (state : Sip) (rest last : ℕ) (next : Sip) (hash : ℕ)
    → state ≡ after_words (keyed k0 k1) string (len / 8) → rest ≡ number_from string (8 * (len / 8)) (len % 8)
    → last ≡ rest + len % 256 * 2 ^ 56 → next ≡ with_word state last → hash ≡ finished next → hash ≡ keyed_hash k0 k1 string len
unfolding keyed_hash
hash_is k0 k1 string len state rest last next hash state_is rest_is last_is next_is is =
    is
    ∙ ap finished next_is
    ∙ ap (λ t. finished (with_word t last)) state_is
    ∙ ap (λ w. finished (with_word (after_words (keyed k0 k1) string (len / 8)) w)) (last_is ∙ ap (λ r. r + len % 256 * 2 ^ 56) rest_is)

-- ---- both

-- equal bytes have one hash
pub same_hash : (kind seed : ℕ) (string other : ℕ → ℕ) (n : ℕ) → ((j : ℕ) → j < n → string j ≡ other j)
    → hash_by kind seed string n ≡ hash_by kind seed other n
same_hash kind seed string other n same =
    ap (λ h. if kind == 10 then h else hash_of seed string n) (same_fnv seed string other n same)
    ∙ ap (λ h. if kind == 10 then fnv_of seed other n else h) (same_sip seed string other n same)
