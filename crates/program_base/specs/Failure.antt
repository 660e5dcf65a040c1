-- What the failures of the programs say alike.
use Rattle.std.specs.Prelude.{ℕ, List, codes}

-- the characters where memory was refused
abbrev pub no_memory_text : List ℕ
no_memory_text = codes "memory was refused"

-- the characters where a write failed
abbrev pub cannot_write_text : List ℕ
cannot_write_text = codes "cannot write"
