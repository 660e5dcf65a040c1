-- Sparse bits in a block as C passes them, and what the exported calls answer.
use Rattle.std.specs.Prelude.{ℕ, ◌+◌, Bool, List, min}
use Rattle.bitm_tables.specs.declared.answer.Answer.{Answer}
use Rattle.bitm_abi.specs.Sequence.{sequence_parts, IsSequenceSized}
use Rattle.bitm_abi.specs.Status.{truth_of, Exported, IsFoundBelow}
use Rattle.bitm_select.specs.Answers.{IsFoundFrom, IsSelected}
use Rattle.elias_fano.specs.Answers.{IsIndexIn}
use Rattle.tables_view.specs.Nearest.{IsNext, IsPrevious}
use Rattle.tables_view.specs.Ranks.{IsCountWithin, IsRanked}
use Rattle.sparse_bits.specs.Answers.{IsBitOf, IsBitWithin}
use Rattle.sparse_bits.specs.Positions.{bits_at}
use Rattle.sequence_block.specs.SparseBlock.{parts_of, HoldsOnes, SparseParts}
use Rattle.bitm_numbers_c.specs.declared.sparse.Sparse.{Sparse}
use Rattle.bitm_numbers_c.specs.declared.sparse_lists.Query.{Query}
use Rattle.bitm_numbers_c.specs.declared.sparse_lists.Query.TheVariants.{Bit, Rank, Select}

-- A status is 0 where the answer was written, 1 where there is no such position or bit, 2 where a length is wrong, and 3
-- where the sequence is not that of the positions of 1 bits.

-- the sequence of positions, and the number of bits
abbrev pub sparse_parts : Sparse → SparseParts
sparse_parts sparse = parts_of (sequence_parts sparse.positions) sparse.bits_len

-- the bit at a position of n bits, as 0 or 1: there is none exactly past the end, whatever is held, and it is that of the
-- bits where the positions of their 1 bits are held
pub record FindsBit (position n : ℕ) (holds : List ℕ → Type 0) (answer : Answer ℕ) : Type 0 where
  pub truth : IsFoundBelow 2 answer
  pub inside : IsBitWithin n position (truth_of answer)
  pub right : (xs : List ℕ) → holds xs → IsBitOf (bits_at n 0 xs) position (truth_of answer)

-- the bit of sparse bits, and so with the other queries
abbrev pub IsBit : ℕ → SparseParts → Answer ℕ → Type 0
IsBit position parts = FindsBit position parts.len (λ xs. HoldsOnes xs parts)

-- how many bits of a kind there are before a position, likewise: at most the position
pub record FindsRank (one : Bool) (position n : ℕ) (holds : List ℕ → Type 0) (answer : Answer ℕ) : Type 0 where
  pub inside : IsCountWithin n position answer
  pub right : (xs : List ℕ) → holds xs → IsRanked (bits_at n 0 xs) one position answer

abbrev pub IsRankIn : Bool → ℕ → SparseParts → Answer ℕ → Type 0
IsRankIn one position parts = FindsRank one position parts.len (λ xs. HoldsOnes xs parts)

-- the position of the bit of a kind with a rank, likewise: that of a bit
pub record FindsSelect (one : Bool) (rank n : ℕ) (holds : List ℕ → Type 0) (answer : Answer ℕ) : Type 0 where
  pub inside : IsIndexIn n answer
  pub right : (xs : List ℕ) → holds xs → IsSelected (bits_at n 0 xs) one rank answer

abbrev pub IsSelectIn : Bool → ℕ → SparseParts → Answer ℕ → Type 0
IsSelectIn one rank parts = FindsSelect one rank parts.len (λ xs. HoldsOnes xs parts)

-- the nearest bits of a kind, likewise: on that side of the position
pub record FindsSparseNext (one : Bool) (from n : ℕ) (holds : List ℕ → Type 0) (answer : Answer ℕ) : Type 0 where
  pub inside : IsFoundFrom from n answer
  pub right : (xs : List ℕ) → holds xs → IsNext (bits_at n 0 xs) one from answer

abbrev pub IsNextIn : Bool → ℕ → SparseParts → Answer ℕ → Type 0
IsNextIn one from parts = FindsSparseNext one from parts.len (λ xs. HoldsOnes xs parts)

pub record FindsSparsePrevious (one : Bool) (from n : ℕ) (holds : List ℕ → Type 0) (answer : Answer ℕ) : Type 0 where
  pub inside : IsFoundFrom 0 (min (from + 1) n) answer
  pub right : (xs : List ℕ) → holds xs → IsPrevious (bits_at n 0 xs) one from answer

abbrev pub IsPreviousIn : Bool → ℕ → SparseParts → Answer ℕ → Type 0
IsPreviousIn one from parts = FindsSparsePrevious one from parts.len (λ xs. HoldsOnes xs parts)

-- the answer to a query of a list
abbrev pub Finds : Query → ℕ → ℕ → (List ℕ → Type 0) → Answer ℕ → Type 0
Finds Bit = FindsBit
Finds (Rank one) = FindsRank one
Finds (Select one) = FindsSelect one

abbrev pub Responds : Query → ℕ → SparseParts → Answer ℕ → Type 0
Responds query number parts = Finds query number parts.len (λ xs. HoldsOnes xs parts)

-- the status, and the number before and after the call
abbrev pub BitAnswered : Sparse → ℕ → ℕ → ℕ → ℕ → Type 0
BitAnswered sparse position = Exported (IsSequenceSized sparse.positions) (IsBit position (sparse_parts sparse))

abbrev pub RankAnswered : Sparse → Bool → ℕ → ℕ → ℕ → ℕ → Type 0
RankAnswered sparse one position = Exported (IsSequenceSized sparse.positions) (IsRankIn one position (sparse_parts sparse))

abbrev pub SparseSelectAnswered : Sparse → Bool → ℕ → ℕ → ℕ → ℕ → Type 0
SparseSelectAnswered sparse one rank = Exported (IsSequenceSized sparse.positions) (IsSelectIn one rank (sparse_parts sparse))

abbrev pub NextAnswered : Sparse → Bool → ℕ → ℕ → ℕ → ℕ → Type 0
NextAnswered sparse one from = Exported (IsSequenceSized sparse.positions) (IsNextIn one from (sparse_parts sparse))

abbrev pub PreviousAnswered : Sparse → Bool → ℕ → ℕ → ℕ → ℕ → Type 0
PreviousAnswered sparse one from = Exported (IsSequenceSized sparse.positions) (IsPreviousIn one from (sparse_parts sparse))
