use Rattle.text_block.specs.Block.{parts_in, IsSoundBlock}
use Rattle.program_files.proofs.lemmas.SoundLemmas.{some_where}
use Rattle.program_files.proofs.kinds.checking.is_sound_of.Goals as goal

pub returns-in-Text : goal.returns-in-Text
returns-in-Text c =
    rw (c.in-Text.is, c.is_some.ensures)
    (some_where c.open_checked.result (IsSoundBlock c.args.block.now) (parts_in c.args.block.now) c.open_checked.ensures)
