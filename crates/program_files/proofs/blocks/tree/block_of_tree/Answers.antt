use Rattle.std.proofs.Common.{List, ℕ, drop, length, ◌∙◌, subst, arith}
use Rattle.std.proofs.lemmas.List.{take_at}
use Rattle.tree_block.specs.Block.{IsBlockOf}
use Rattle.program_files.proofs.blocks.tree.block_of_tree.Goals as goal

pub returns-in-Ok-clause-block : goal.returns-in-Ok-clause-block
returns-in-Ok-clause-block c =
    let block = c.build.new.block in
    let whole = take_at block (drop (length block) c.in_ok-block.block.items) c.in_ok-block.block.len (omega (arith, c.build.auto.block, c.as_mut_slice.ensures.len)) in
    let made = subst (λ (d : List ℕ). IsBlockOf d block) (c.as_slice.ensures.value ∙ c.in_ok-degrees.ensures) c.in-Ok.ensures.block in
    rw whole made
