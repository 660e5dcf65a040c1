-- The item at the index that was found is the number.
use Rattle.std.proofs.Common.{ℕ, List, arith}
use Rattle.bitm_tables.specs.declared.answer.Answer.{Answer}
use Rattle.bitm_tables.specs.declared.answer.Answer.TheVariants.{Absent, Found, Wrong}
use Rattle.elias_fano.specs.Answers.{IsItem}
use Rattle.elias_fano.specs.Sequence.{Reaches}
use Rattle.program_files.specs.Sequence.{IsNextNumber}
use Rattle.program_files.proofs.blocks.sequence.next.Goals as goal

item_is_next : (xs : List ℕ) (v i : ℕ) → Reaches xs v i → (answer : Answer ℕ) → IsItem xs i answer → IsNextNumber xs v answer
item_is_next xs v i reaches (Found x) is = (i, reaches, is.1)
item_is_next xs v i reaches Absent past = absurd (omega (arith, past, reaches.inside))
item_is_next xs v i reaches Wrong is = is

pub returns-in-Found : goal.returns-in-Found
returns-in-Found c = λ xs holds.
    item_is_next xs c.args.value c.in-Found.index (c.in-Found.ensures.answer xs holds) c.get.result (c.get.ensures.answer xs holds)
