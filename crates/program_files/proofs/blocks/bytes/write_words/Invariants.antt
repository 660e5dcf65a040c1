use Rattle.std.proofs.Common.{take}
use Rattle.std.specs.Io.KnownBytes.{Appends}
use Rattle.program_files.specs.Bytes.{bytes_of}
use Rattle.program_files.proofs.blocks.bytes.write_words.Given as goal

abbrev pub invariant-loop-word : goal.invariant-loop-word
invariant-loop-word g l = Appends (g.W.Write.contents l.fn.out) (g.W.Write.contents l.out) (bytes_of (take l.word-index l.words))
