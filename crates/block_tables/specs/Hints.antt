-- The optional section of hints.
use Rattle.std.specs.Prelude.{ℕ, ◌==◌, ◌&&◌, if◌then◌else◌, nat_lt, List, []}
use Rattle.bitm_block.specs.Header.{count_in, section_entry, section_in}
use Rattle.bitm_selection.specs.Hints.{hints_len}

-- the words of section i where it is one of hints and has the given number of words; none otherwise
abbrev pub hints_with : List ℕ → ℕ → ℕ → List ℕ
hints_with block i len =
    if nat_lt i (count_in block) && (section_entry block i).role == 22 && (section_entry block i).count == len
    then section_in block i else []

-- where it has as many as words with the given number of 1 bits have
abbrev pub hints_in : List ℕ → ℕ → ℕ → ℕ → List ℕ
hints_in block i ones words = hints_with block i (hints_len ones words)
