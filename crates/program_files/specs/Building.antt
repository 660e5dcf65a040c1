-- The blocks of numbers that a text lists.
use Rattle.std.specs.Prelude.{◌≡◌, ℕ, Bool, List, Option, None, Some}
use Rattle.std.specs.Io.KnownBytes.{Appends}
use Rattle.louds.specs.Tree.{IsTree}
use Rattle.tree_block.specs.Block as louds
use Rattle.sequence_block.specs.Block as sequence
use Rattle.program_base.specs.List.{numbers_in_lines, wrong_line}
use Rattle.program_base.specs.Order.{fall_line}
use Rattle.program_files.specs.Bits.{IsBitsOf}
use Rattle.program_files.specs.Bytes.{bytes_of}
use Rattle.program_files.specs.Kind.{order_of}
use Rattle.program_files.specs.Matrix.{IsMatrixBlockOf}
use Rattle.program_files.specs.Sparse.{IsSparseOf}
use Rattle.program_files.specs.declared.blocks.kind.Kind.{Kind}
use Rattle.program_files.specs.declared.blocks.kind.Kind.TheVariants.{Bits, Sequence, Sparse, Matrix, Tree}
use Rattle.program_files.specs.declared.blocks.failure.Failure.{Failure}
use Rattle.program_files.specs.declared.blocks.failure.Failure.TheVariants.{WrongLine, OutOfOrder, NotATree, TooLarge, Unmarked, OtherVersion, WrongBlock, NoMemory, CannotWrite}

-- the block is that of these numbers, of the kind
abbrev pub IsBlockOf : Kind → List ℕ → List ℕ → Type 0
IsBlockOf Bits xs block = IsBitsOf xs block
IsBlockOf Sequence xs block = sequence.IsBlockOf xs block
IsBlockOf Sparse xs block = IsSparseOf xs block
IsBlockOf Matrix xs block = IsMatrixBlockOf xs block
IsBlockOf Tree xs block = louds.IsBlockOf xs block

-- each line of the text is empty or has just a number, and the bytes of the block of these, of the kind, were written:
-- the writer's bytes, where the writer shows them, went from before to after by just them
pub record WroteBlock (kind : Kind) (text : List ℕ) (before after : Option (List ℕ)) : Type 0 where
  pub right : wrong_line text ≡ None
  pub block : List ℕ
  pub block_of : IsBlockOf kind (numbers_in_lines text) block
  pub written : Appends before after (bytes_of block)

-- the first line whose number is out of the order, if there is one
abbrev pub line_out_of_order : Option Bool → List ℕ → Option ℕ
line_out_of_order None text = None
line_out_of_order (Some strict) text = fall_line strict text

-- the first line whose number is out of the order that the kind needs
abbrev pub first_out : Kind → List ℕ → Option ℕ
first_out kind text = line_out_of_order (order_of kind) text

-- why there is no block of the kind of the numbers in a text: a failure that names a line names the first wrong one, or
-- where there is none the first one out of order, and any other says that there is no wrong one
abbrev pub IsTextFailure : Kind → List ℕ → Failure → Type 0
IsTextFailure kind text (WrongLine line) = wrong_line text ≡ Some line
IsTextFailure kind text (OutOfOrder line) = (wrong_line text ≡ None) × (first_out kind text ≡ Some line)
IsTextFailure kind text NotATree = (wrong_line text ≡ None) × (kind ≡ Tree) × (¬ (IsTree (numbers_in_lines text)))
IsTextFailure kind text TooLarge = (wrong_line text ≡ None) × (first_out kind text ≡ None)
IsTextFailure kind text Unmarked = ⊥
IsTextFailure kind text (OtherVersion version) = ⊥
IsTextFailure kind text WrongBlock = ⊥
IsTextFailure kind text NoMemory = wrong_line text ≡ None
IsTextFailure kind text CannotWrite = (wrong_line text ≡ None) × (first_out kind text ≡ None)
