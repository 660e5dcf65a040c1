-- What a failure says of itself.
use Rattle.std.specs.Prelude.{◌≡◌, ◌⊎◌, ℕ, ◌+◌, List, ◌++◌, codes}
use Rattle.std.specs.Fmt.{decimal}
use Rattle.louds.specs.Tree.{IsTree}
use Rattle.program_base.specs.Failure.{cannot_write_text, no_memory_text}
use Rattle.program_base.specs.List.{list_error_text}
use Rattle.program_base.specs.declared.text.list.ListError.{ListError}
use Rattle.program_base.specs.declared.text.list.ListError.TheVariants as list
use Rattle.program_files.specs.declared.blocks.kind.Kind.{Kind}
use Rattle.program_files.specs.declared.blocks.kind.Kind.TheVariants.{Tree}
use Rattle.program_files.specs.declared.blocks.failure.Failure.{Failure}
use Rattle.program_files.specs.declared.blocks.failure.Failure.TheVariants.{WrongLine, OutOfOrder, NotATree, TooLarge, Unmarked, OtherVersion, WrongBlock, NoMemory, CannotWrite}

-- the characters of its text
abbrev pub failure_text : Failure → List ℕ
failure_text (WrongLine line) = list_error_text (list.WrongLine line)
failure_text (OutOfOrder line) = codes "line " ++ decimal (line + 1) ++ codes ": out of order"
failure_text NotATree = codes "the degrees are those of no tree"
failure_text TooLarge = codes "the numbers are too many for a block"
failure_text Unmarked = codes "not a file of bitm"
failure_text (OtherVersion version) = codes "a file of version " ++ decimal version ++ codes ", which this bitm does not read"
failure_text WrongBlock = codes "not a block of a kind that bitm queries, or not as it was written"
failure_text NoMemory = no_memory_text
failure_text CannotWrite = cannot_write_text

-- what the failure of a list is here
abbrev pub failure_of : ListError → Failure
failure_of (list.WrongLine line) = WrongLine line
failure_of list.NoMemory = NoMemory

-- why there is no block of the kind of these numbers
abbrev pub IsBlockFailure : Kind → List ℕ → Failure → Type 0
IsBlockFailure kind xs e = (e ≡ TooLarge) ⊎ ((e ≡ NoMemory) ⊎ ((e ≡ NotATree) × (kind ≡ Tree) × (¬ (IsTree xs))))

-- why a file of a format that the program reads is not answered
abbrev pub IsAnswerFailure : Failure → Type 0
IsAnswerFailure e = (e ≡ WrongBlock) ⊎ ((e ≡ NoMemory) ⊎ (e ≡ CannotWrite))

-- whether a failure refuses the bytes of a file for what they are
abbrev pub IsRefusal : Failure → Type 0
IsRefusal e = ¬ ((e ≡ NoMemory) ⊎ (e ≡ CannotWrite))
