-- Where nothing is opened, the block is not sound.
use Rattle.std.proofs.Common.{◌≡◌, ℕ, Bool, false, Option, None, Some, is_some, SomeIff, sym, ◌∙◌, arith}
use Rattle.std.proofs.lemmas.Bool.{true≢false}
use Rattle.text_block.specs.Block.{parts_in, IsSoundBlock}
use Rattle.bitm_trees_c.proofs.texts.blocks.bitm_text_check.Goals as goal

none_where : {T : Type 0} (o : Option T) (S : Type 0) (v : T) → SomeIff o S v → is_some o ≡ false → S → ⊥
none_where (Some x) S v opened none holds = true≢false none
none_where None S v opened none holds = opened holds

pub returns-else-is_some-clause-ok : goal.returns-else-is_some-clause-ok
returns-else-is_some-clause-ok c =
    let block = c.args.block.now in (
      λ (three : 3 ≡ 0). absurd (omega (arith, three)),
      λ sound.
          absurd (none_where c.open_checked.result (IsSoundBlock block) (parts_in block) c.open_checked.ensures (sym c.is_some.ensures ∙ c.if-is_some.false) sound),
    )
