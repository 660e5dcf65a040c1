use Rattle.std.proofs.Common.{◌≡◌, ◌*◌, ◌≤◌, length}
use Rattle.perfect_hash.specs.Levels.{fall_in, AreChosen, AreSized, Leave}
use Rattle.perfect_hash.specs.Positions.{words_for}
use Rattle.bit_lists.specs.Bits.{bits_of}
use Rattle.perfect_hash.proofs.levels.building.make_levels.Given as goal

-- the levels so far leave the hashes that are left, no more than there were, and each has fewer than 2^50 words
abbrev pub invariant-loop-level : goal.invariant-loop-level
invariant-loop-level g l = record {
  leave : Leave (fall_in (g.P.Placing.fall l.levels.placing) l.levels.sizes.items) l.fn.hashes.items l.levels.sizes.items l.levels.words.items l.hashes.items;
  sized : AreSized (words_for l.fn.percent) (fall_in (g.P.Placing.fall l.levels.placing) l.levels.sizes.items) l.fn.hashes.items
      (bits_of l.levels.words.items) 0 0 l.levels.sizes.items;
  chosen : AreChosen g.P.Placing.chooses (fall_in (g.P.Placing.fall l.levels.placing) l.levels.sizes.items) l.fn.hashes.items
      (bits_of l.levels.words.items) 0 0 0 l.levels.sizes.items l.initial.levels.placing l.levels.placing;
  count : length l.levels.sizes.items ≡ l.level;
  short : length l.levels.words.items ≤ l.level * 1125899906842623;
  fewer : length l.hashes.items ≤ length l.fn.hashes.items;
}
