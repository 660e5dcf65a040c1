use Rattle.std.proofs.Common.{◌≡◌, map, take}
use Rattle.std.specs.Int.{w64, from_le_bytes}
use Rattle.program_files.proofs.blocks.bytes.words_of_bytes.Given as goal

abbrev pub invariant-loop-chunk : goal.invariant-loop-chunk
invariant-loop-chunk l = l.words.items ≡ map (λ chunk. from_le_bytes w64 chunk) (take l.chunk-index l.chunks)
