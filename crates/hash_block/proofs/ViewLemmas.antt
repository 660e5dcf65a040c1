-- What is found among strings.
use Rattle.std.proofs.Common.{◌≡◌, ℕ, ◌+◌, ◌-◌, ◌<◌, Some, None, sym, ap, ◌∙◌, subst, arith}
use Rattle.bitm_tables.specs.Tables.{bits_in}
use Rattle.bitm_tables.specs.declared.answer.Answer.{Answer}
use Rattle.bitm_tables.specs.declared.answer.Answer.TheVariants.{Found, Absent, Wrong}
use Rattle.perfect_hash.specs.Numbers.{number_by}
use Rattle.perfect_hash.specs.Asking.{IsNumbered}
use Rattle.hash_block.specs.Bytes.{stored_from}
use Rattle.hash_block.specs.Kinds.{hash_by}
use Rattle.hash_block.specs.StringsParts.{start_of, string_number_in, AreStrings, IsNumberKept, IsString, IsStringFound, IsStringHeld, StringParts}
use Rattle.hash_block.proofs.HashLemmas.{same_hash}

-- equal bytes have one number
pub same_number : (parts : StringParts) (string other : ℕ → ℕ) (len n : ℕ) → len ≡ n → ((j : ℕ) → j < len → string j ≡ other j)
    → string_number_in parts string len ≡ string_number_in parts other n
same_number parts string other len n len_is same =
    ap (number_by parts.hash.sizes (bits_in parts.hash.lists))
    (same_hash parts.kind parts.hash.seed string other len same ∙ ap (hash_by parts.kind parts.hash.seed other) len_is)

-- a string that stands at a number has it
pub own_number : (parts : StringParts) (v : ℕ) (string : ℕ → ℕ) (len : ℕ) → AreStrings parts → IsString parts v string len
    → string_number_in parts string len ≡ Some v
own_number parts v string len are is =
    same_number parts string (stored_from parts.bytes (start_of parts v)) len (start_of parts (v + 1) - start_of parts v)
    (omega (arith, is.len_is)) (λ j less. sym (is.same j less))
    ∙ (are.each v is.below).own

one_number : (v w : ℕ) → Some v ≡ Some w → v ≡ w
one_number v w same = cc

no_number : (v : ℕ) → Some v ≡ None → ⊥
no_number v same = cc

-- what is kept is held
pub held_of : (parts : StringParts) (string : ℕ → ℕ) (len : ℕ) (number answer : Answer ℕ) → IsNumberKept parts string len number answer
    → IsStringHeld parts string len answer
held_of parts string len (Found v) (Found w) kept = subst (λ (x : ℕ). IsString parts x string len) kept.0 kept.1
held_of parts string len (Found v) Absent kept = tt
held_of parts string len (Found v) Wrong kept = tt
held_of parts string len Absent answer kept = subst (λ (a : Answer ℕ). IsStringHeld parts string len a) (sym kept) tt
held_of parts string len Wrong answer kept = subst (λ (a : Answer ℕ). IsStringHeld parts string len a) (sym kept) tt

-- and found, where the number is that of the hash
pub found_of : (parts : StringParts) (string : ℕ → ℕ) (len : ℕ) (number answer : Answer ℕ) → AreStrings parts
    → IsNumbered (string_number_in parts string len) number → IsNumberKept parts string len number answer → IsStringFound parts string len answer
found_of parts string len (Found v) (Found w) are is kept = subst (λ (x : ℕ). IsString parts x string len) kept.0 kept.1
found_of parts string len (Found v) Absent are is kept = λ u other.
    let same = one_number u v (sym (own_number parts u string len are other) ∙ is) in
    kept (subst (λ (x : ℕ). IsString parts x string len) same other)
found_of parts string len (Found v) Wrong are is kept = absurd kept
found_of parts string len Absent answer are is kept =
    subst (λ (a : Answer ℕ). IsStringFound parts string len a) (sym kept)
    (λ u other. no_number u (sym (own_number parts u string len are other) ∙ is))
found_of parts string len Wrong answer are is kept = absurd is

-- of a string that stands at a number no other number is found
pub only_found : (parts : StringParts) (string : ℕ → ℕ) (len v : ℕ) (answer : Answer ℕ) → AreStrings parts → IsString parts v string len
    → IsStringFound parts string len answer → answer ≡ Found v
only_found parts string len v (Found w) are is found =
    ap Found (one_number w v (sym (own_number parts w string len are found) ∙ own_number parts v string len are is))
only_found parts string len v Absent are is found = absurd (found v is)
only_found parts string len v Wrong are is found = absurd found
