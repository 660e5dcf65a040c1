use Rattle.std.proofs.Common.{length, not, ◌+◌}
use Rattle.std.proofs.lemmas.List.Filters.{FiltersInPlace}
use Rattle.bit_lists.specs.Bits.{bits_of, item}
use Rattle.perfect_hash.proofs.levels.level.keep_left.Given as goal

-- those of the hashes so far are in front
abbrev pub invariant-loop-i : goal.invariant-loop-i
invariant-loop-i g l =
    FiltersInPlace (λ h. not (item (bits_of l.ones) (0 + g.P.Placing.fall l.placing l.begin h l.level (length l.ones))))
    l.initial.hashes l.hashes l.kept l.i
