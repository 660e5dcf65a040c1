-- One more position that is read, or one more search, changes nothing else.
use Rattle.std.proofs.Common.{◌≡◌, ℕ, ◌+◌, ◌<◌, List, length, refl, ap, arith}
use Rattle.bitm_tables.specs.declared.answer.Answer.{Answer}
use Rattle.bitm_tables.specs.declared.answer.Answer.TheVariants.{Found, Absent, Wrong}
use Rattle.elias_fano.specs.Answers.{IsItem}
use Rattle.sparse_bits.specs.Looks.{one_more_get, one_more_search, Looks}

module _ {P : Type 0} (old new : Looks P) (e : new ≡ one_more_get old) where
  pub same_positions : new.positions ≡ old.positions
  same_positions = ap (λ (l : Looks P). l.positions) e

  pub same_len : new.len ≡ old.len
  same_len = ap (λ (l : Looks P). l.len) e

  pub same_searches : new.searches ≡ old.searches
  same_searches = ap (λ (l : Looks P). l.searches) e

  pub one_get : new.gets ≡ old.gets + 1
  one_get = ap (λ (l : Looks P). l.gets) e

pub searched_positions : {P : Type 0} (old new : Looks P) → new ≡ one_more_search old → new.positions ≡ old.positions
searched_positions {P} old new e = ap (λ (l : Looks P). l.positions) e

-- there is an answer for each position that there is
pub item_found : (xs : List ℕ) (i : ℕ) (a : Answer ℕ) → i < length xs → IsItem xs i a → ((x : ℕ) → a ≡ Found x → ⊥) → ⊥
item_found xs i (Found x) inside is none = none x refl
item_found xs i Absent inside is none = omega (arith, inside, is)
item_found xs i Wrong inside is none = is
