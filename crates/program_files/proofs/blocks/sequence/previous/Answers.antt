-- The item at the index that was found is the number.
use Rattle.std.proofs.Common.{ℕ, List, arith}
use Rattle.bitm_tables.specs.declared.answer.Answer.{Answer}
use Rattle.bitm_tables.specs.declared.answer.Answer.TheVariants.{Absent, Found, Wrong}
use Rattle.elias_fano.specs.Answers.{IsItem}
use Rattle.elias_fano.specs.Sequence.{StaysWithin}
use Rattle.program_files.specs.Sequence.{IsPreviousNumber}
use Rattle.program_files.proofs.blocks.sequence.previous.Goals as goal

item_is_previous : (xs : List ℕ) (v i : ℕ) → StaysWithin xs v i → (answer : Answer ℕ) → IsItem xs i answer → IsPreviousNumber xs v answer
item_is_previous xs v i stays (Found x) is = (i, stays, is.1)
item_is_previous xs v i stays Absent past = absurd (omega (arith, past, stays.inside))
item_is_previous xs v i stays Wrong is = is

pub returns-in-Found : goal.returns-in-Found
returns-in-Found c = λ xs holds.
    item_is_previous xs c.args.value c.in-Found.index (c.in-Found.ensures.answer xs holds) c.get.result (c.get.ensures.answer xs holds)
