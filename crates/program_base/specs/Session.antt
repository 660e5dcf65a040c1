-- A session: which answers the lines of an input may have.
use Rattle.std.specs.Prelude.{◌≡◌, ◌≤◌, ℕ, ◌+◌, ◌&&◌, nat_le, List, [], ◌∷◌, ◌++◌, length, Bool, true, false, Option, None, Some, nat_lt, slice_set, ◌⊎◌, if◌then◌else◌}
use Rattle.std.specs.List.{list_all}
use Rattle.std.specs.Io.KnownBytes.{Appends}
use Rattle.program_base.specs.Answer.{answer_text, answers_text, is_good}
use Rattle.bitm.specs.Bits.{bits_of}
use Rattle.bitm.specs.Count.{ones_before, zeros_before, count_before, Picks}
use Rattle.bitm.specs.Number.{number_at}
use Rattle.program_base.specs.Request.{Request, Words, Set, Clear, Build, Rank, Rank0, Select, Select0, Bits, request_of}
use Rattle.program_base.specs.declared.session.answer.Answer.{Answer}
use Rattle.program_base.specs.declared.session.answer.Answer.TheVariants.{Accepted, Ones, Number, Absent, NotBuilt, NoMemory, BadCommand}
use Rattle.program_base.specs.declared.session.command.Kind.{Kind}
use Rattle.program_base.specs.declared.session.command.Kind.TheVariants.{Simple, Binary, Sampled}

-- the bits of the vector, and the kind of index that is built over them
pub record State : Type 0 where
  pub bits : List Bool
  pub built : Option Kind

-- an empty vector, and nothing is built
abbrev pub start : State
start = record { bits = []; built = None }

-- the answer where the bit at the position is changed, and the state after it
abbrev pub changed_answer : State → ℕ → Answer
changed_answer state position = if nat_lt position (length state.bits) then Accepted position else Absent

abbrev pub with_bit : State → ℕ → Bool → State
with_bit state position bit = if nat_lt position (length state.bits) then record { bits = slice_set state.bits position bit; built = None } else state

-- the answer where a number is asked of an index, if one is built
abbrev pub indexed_answer : Option Kind → Answer → Answer
indexed_answer None answer = NotBuilt
indexed_answer (Some kind) answer = answer

-- the number that stands in a range of the bits, if it is in range
abbrev pub range_answer : List Bool → ℕ → ℕ → Answer
range_answer bits begin len =
    if nat_lt begin (length bits) && nat_le (begin + len) (length bits) then Number (number_at bits begin len) else Absent

-- the position of the bit of the kind with the given number of them before it, or none where there is none
abbrev pub IsPositionFound : List Bool → Bool → ℕ → Answer → Type 0
IsPositionFound bits v rank (Number position) = Picks bits v rank position
IsPositionFound bits v rank Absent = count_before bits v (length bits) ≤ rank
IsPositionFound bits v rank (Accepted number) = ⊥
IsPositionFound bits v rank (Ones count) = ⊥
IsPositionFound bits v rank NotBuilt = ⊥
IsPositionFound bits v rank NoMemory = ⊥
IsPositionFound bits v rank BadCommand = ⊥

-- the answer where a position is asked of an index, if one is built that selects
abbrev pub IsPositionAnswer : Option Kind → List Bool → Bool → ℕ → Answer → Type 0
IsPositionAnswer None bits v rank answer = answer ≡ NotBuilt
IsPositionAnswer (Some Simple) bits v rank answer = answer ≡ NotBuilt
IsPositionAnswer (Some Binary) bits v rank answer = IsPositionFound bits v rank answer
IsPositionAnswer (Some Sampled) bits v rank answer = IsPositionFound bits v rank answer

-- what is answered where memory is found
abbrev pub IsAnswer : State → Request → Answer → Type 0
IsAnswer state (Words words) answer = answer ≡ Accepted (length words)
IsAnswer state (Set position) answer = answer ≡ changed_answer state position
IsAnswer state (Clear position) answer = answer ≡ changed_answer state position
IsAnswer state (Build kind) answer = answer ≡ Ones (ones_before state.bits (length state.bits))
IsAnswer state (Rank index) answer =
    answer ≡ indexed_answer state.built (if nat_le index (length state.bits) then Number (ones_before state.bits index) else Absent)
IsAnswer state (Rank0 index) answer =
    answer ≡ indexed_answer state.built (if nat_le index (length state.bits) then Number (zeros_before state.bits index) else Absent)
IsAnswer state (Select rank) answer = IsPositionAnswer state.built state.bits true rank answer
IsAnswer state (Select0 rank) answer = IsPositionAnswer state.built state.bits false rank answer
IsAnswer state (Bits begin len) answer = answer ≡ range_answer state.bits begin len

-- the state after that answer
abbrev pub state_after : State → Request → State
state_after state (Words words) = record { bits = bits_of words; built = None }
state_after state (Set position) = with_bit state position true
state_after state (Clear position) = with_bit state position false
state_after state (Build kind) = record { bits = state.bits; built = Some kind }
state_after state (Rank index) = state
state_after state (Bits begin len) = state
state_after state (Rank0 index) = state
state_after state (Select rank) = state
state_after state (Select0 rank) = state

-- the state after a refusal for memory, which only these two can meet
abbrev pub IsAfterRefusal : State → Request → State → Type 0
IsAfterRefusal old (Words words) new = new ≡ old
IsAfterRefusal old (Set position) new = ⊥
IsAfterRefusal old (Clear position) new = ⊥
IsAfterRefusal old (Build kind) new = new ≡ record { bits = old.bits; built = None }
IsAfterRefusal old (Rank index) new = ⊥
IsAfterRefusal old (Bits begin len) new = ⊥
IsAfterRefusal old (Rank0 index) new = ⊥
IsAfterRefusal old (Select rank) new = ⊥
IsAfterRefusal old (Select0 rank) new = ⊥

-- From old, a line that asks for this may have this answer, and the session goes on to new.
abbrev pub Step : State → Option Request → Answer → State → Type 0
Step old None answer new = (answer ≡ BadCommand) × (new ≡ old)
Step old (Some request) answer new =
    (IsAnswer old request answer × (new ≡ state_after old request)) ⊎ ((answer ≡ NoMemory) × IsAfterRefusal old request new)

-- From old, these lines may have these answers, one for each and in their order, and the session ends at new.
abbrev pub Answers : State → List (List ℕ) → List Answer → State → Type 0
Answers old [] [] new = new ≡ old
Answers old (line ∷ lines) (answer ∷ answers) new = (mid : State) × Step old (request_of line) answer mid × Answers mid lines answers new
Answers old [] (answer ∷ answers) new = ⊥
Answers old (line ∷ lines) [] new = ⊥

-- From old, a session answered a line and went on to new, and it was written: the writer's bytes, where the writer
-- shows them, went from before to after by just the answer and a line feed, and good says that it was not `bad
-- command`.
pub record WroteAnswer (line : List ℕ) (old new : State) (before after : Option (List ℕ)) (good : Bool) : Type 0 where
  pub answer : Answer
  pub step : Step old (request_of line) answer new
  pub written : Appends before after (answer_text answer ++ 10 ∷ [])
  pub reported : good ≡ is_good answer

-- A session over these lines ends in this state, and it was written: the writer's bytes, where the writer shows them,
-- went from before to after by just its answers, and good says that none was `bad command`.
pub record Wrote (lines : List (List ℕ)) (end : State) (before after : Option (List ℕ)) (good : Bool) : Type 0 where
  pub answers : List Answer
  pub session : Answers start lines answers end
  pub written : Appends before after (answers_text answers)
  pub reported : good ≡ list_all is_good answers
