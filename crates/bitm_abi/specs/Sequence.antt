-- A sequence as C passes it, and items of lists of its answers.
use Rattle.std.specs.Prelude.{◌≡◌, ℕ, ◌-◌, ◌^◌, ◌≤◌, ◌↔◌, ◌⊎◌, List}
use Rattle.std.specs.List.{Contains}
use Rattle.bitm_tables.specs.declared.answer.Answer.{Answer}
use Rattle.bitm_tables.specs.Tables.{HasSizes, Lists}
use Rattle.bitm_view.specs.Queries.{selected_by}
use Rattle.tables_view.specs.Sizes.{lists_of}
use Rattle.elias_fano.specs.Answers.{IsIndexIn, IsPredecessorOf}
use Rattle.elias_fano.specs.SequenceParts.{parts_of, with_hints, AreHeldParts, HasLengths, SequenceParts}
use Rattle.elias_fano.specs.Claims.{ClaimAtMost, ClaimLess, IfLast}
use Rattle.elias_fano_view.specs.declared.lists.ListAnswer.{ListAnswer}
use Rattle.elias_fano_view.specs.declared.lists.ListAnswer.TheVariants.{All, AbsentAt, WrongAt, WrongLength}
use Rattle.elias_fano_view.specs.declared.sizes.Sizes.{Sizes}
use Rattle.bitm_abi.specs.declared.sequence.SequenceLens.{SequenceLens}
use Rattle.bitm_abi.specs.declared.sequence.Sequence.{Sequence}

-- the lengths as C sees them
abbrev pub sizes_in_c : Sizes → SequenceLens
sizes_in_c s = record { width = s.width; low_len = s.low; words_len = s.words; upper_len = s.upper; lower_len = s.lower }

-- the parts of a sequence
abbrev pub sequence_parts : Sequence → SequenceParts
sequence_parts sequence =
    with_hints sequence.hints.now
    (parts_of sequence.len sequence.width sequence.low.now (lists_of sequence.words.now sequence.upper.now sequence.lower.now))

-- the lengths of a sequence are right
pub record IsSequenceSized (sequence : Sequence) : Type 0 where
  pub tables : HasSizes (sequence_parts sequence).upper
  pub lengths : HasLengths (sequence_parts sequence)

-- the answer that an item of a list of answers stands for
abbrev pub sought_by : ℕ → Answer ℕ
sought_by = selected_by

-- how far a list of n indices was answered, and why no farther: a status, and the number before and after the call
abbrev pub IsListReported : ListAnswer → ℕ → ℕ → ℕ → ℕ → Type 0
IsListReported All n status old new = (status ≡ 0) × (new ≡ n)
IsListReported (AbsentAt k) n status old new = (status ≡ 1) × (new ≡ k)
IsListReported (WrongAt k) n status old new = (status ≡ 3) × (new ≡ k)
IsListReported WrongLength n status old new = (status ≡ 2) × (new ≡ old)

-- the predecessor of value: the index of the last number that is at most value; whatever the parts hold, they claim
-- that all numbers up to that index are at most value, or that none is where the answer is that there is none
pub record FindsLast (value len width : ℕ) (low : List ℕ) (upper : Lists) (hints : List ℕ) (answer : Answer ℕ) : Type 0 where
  pub inside : IsIndexIn len answer
  pub most : IfLast answer (ClaimAtMost len width low upper value)
  pub counts : (xs : List ℕ) → AreHeldParts xs len width low upper hints → IsPredecessorOf xs value answer

-- the predecessor in a sequence
abbrev pub IsPredecessor : ℕ → SequenceParts → Answer ℕ → Type 0
IsPredecessor value parts = FindsLast value parts.len parts.width parts.low parts.upper parts.hints

-- whether value is one of the numbers, as an item of a list: 1 or 0, or 2^64 - 2 where the parts are not those of a
-- sequence; whatever they hold, they claim how many numbers are less, and the item is 0 where that is all of them
pub record FindsEqual (value len width : ℕ) (low : List ℕ) (upper : Lists) (hints : List ℕ) (n : ℕ) : Type 0 where
  pub truth : (n ≤ 1) ⊎ (n ≡ 2 ^ 64 - 2)
  pub less : n ≤ 1 → (p : ℕ) × ClaimLess len width low upper value p × (p ≡ len → n ≡ 0)
  pub right : (xs : List ℕ) → AreHeldParts xs len width low upper hints → (n ≤ 1) × ((n ≡ 1) ↔ Contains xs value)

-- whether value is a number of a sequence
abbrev pub IsContained : ℕ → SequenceParts → ℕ → Type 0
IsContained value parts = FindsEqual value parts.len parts.width parts.low parts.upper parts.hints
