-- The kinds of blocks that hold the numbers of a text.
use Rattle.std.specs.Prelude.{ℕ, List, codes, Bool, true, false, ◌==◌, Option, None, Some, length, nat_lt, slice_index, if◌then◌else◌}
use Rattle.std.specs.Str.{bytes_eq}
use Rattle.program_files.specs.declared.blocks.kind.Kind.{Kind}
use Rattle.program_files.specs.declared.blocks.kind.Kind.TheVariants.{Bits, Sequence, Sparse, Matrix, Tree}

-- the characters of its name
abbrev pub number_kind_text : Kind → List ℕ
number_kind_text Bits = codes "bits"
number_kind_text Sequence = codes "sequence"
number_kind_text Sparse = codes "sparse"
number_kind_text Matrix = codes "matrix"
number_kind_text Tree = codes "tree"

-- the kind of this name
abbrev pub kind_named : List ℕ → Option Kind
kind_named name =
    if bytes_eq name (codes "bits") then Some Bits
    else if bytes_eq name (codes "sequence") then Some Sequence
    else if bytes_eq name (codes "sparse") then Some Sparse
    else if bytes_eq name (codes "matrix") then Some Matrix
    else if bytes_eq name (codes "tree") then Some Tree
    else None

-- the kind of this number in a header
abbrev pub kind_by_number : ℕ → Option Kind
kind_by_number n =
    if n == 2 then Some Bits
    else if n == 3 then Some Sequence
    else if n == 4 then Some Sparse
    else if n == 6 then Some Matrix
    else if n == 7 then Some Tree
    else None

-- the kind that a block says it is of
abbrev pub number_kind_in : List ℕ → Option Kind
number_kind_in block = if nat_lt (length block) 2 then None else kind_by_number (slice_index block 1)

-- whether the numbers of a text have an order, and if so whether no two may be the same
abbrev pub order_of : Kind → Option Bool
order_of Bits = None
order_of Sequence = Some false
order_of Sparse = Some true
order_of Matrix = None
order_of Tree = None
