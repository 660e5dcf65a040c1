-- What a line asks for.
use Rattle.std.specs.Prelude.{ℕ, ◌≤◌, ◌&&◌, nat_le, is_some, length, ⊤, List, [], ◌∷◌, codes, Option, None, Some, option_map, option_and_then, if◌then◌else◌}
use Rattle.std.specs.Str.{bytes_eq}
use Rattle.std.specs.List.{filter_map, list_all}
use Rattle.program_base.specs.Text.{decimal_of, hexadecimal_of, only_part, parts_between_spaces}
use Rattle.program_base.specs.declared.session.command.Kind.{Kind}
use Rattle.program_base.specs.declared.session.command.Kind.TheVariants.{Simple, Binary, Sampled}
use Rattle.program_base.specs.declared.session.command.Command.{Command}
use Rattle.program_base.specs.declared.session.command.Command.TheVariants as command

-- a request
pub data Request : Type 0 where
  Words : List ℕ → Request
  Set : ℕ → Request
  Clear : ℕ → Request
  Build : Kind → Request
  Rank : ℕ → Request
  Bits : ℕ → ℕ → Request
  Rank0 : ℕ → Request
  Select : ℕ → Request
  Select0 : ℕ → Request

-- what a command asks for
abbrev pub request : Command → Request
request (command.Words words) = Words words.items
request (command.Set position) = Set position
request (command.Clear position) = Clear position
request (command.Build kind) = Build kind
request (command.Rank index) = Rank index
request (command.Bits begin len) = Bits begin len
request (command.Rank0 index) = Rank0 index
request (command.Select rank) = Select rank
request (command.Select0 rank) = Select0 rank

-- the words that the parts write, where each part is one and there are at most 65536
abbrev pub written_words : List (List ℕ) → Option (List ℕ)
written_words parts =
    if nat_le (length parts) 65536 && list_all (λ part. is_some (hexadecimal_of part)) parts
    then Some (filter_map hexadecimal_of parts) else None

-- the kind of index that has this name
abbrev pub kind_by_name : List ℕ → Option Kind
kind_by_name name =
    if bytes_eq name (codes "simple") then Some Simple
    else if bytes_eq name (codes "binary") then Some Binary
    else if bytes_eq name (codes "sampled") then Some Sampled
    else None

-- a range whose width is at most 63
abbrev pub short_range : Option ℕ → Option ℕ → Option Request
short_range None len = None
short_range (Some begin) None = None
short_range (Some begin) (Some len) = if nat_le len 63 then Some (Bits begin len) else None

-- the range that just two parts write, its begin and its width
abbrev pub range_request : List (List ℕ) → Option Request
range_request [] = None
range_request (begin ∷ rest) = short_range (decimal_of begin) (option_and_then decimal_of (only_part rest))

abbrev pub request_of_parts : List (List ℕ) → Option Request
request_of_parts [] = None
request_of_parts (name ∷ rest) =
    if bytes_eq name (codes "words") then option_map Words (written_words rest)
    else if bytes_eq name (codes "set") then option_map Set (option_and_then decimal_of (only_part rest))
    else if bytes_eq name (codes "clear") then option_map Clear (option_and_then decimal_of (only_part rest))
    else if bytes_eq name (codes "build") then option_map Build (option_and_then kind_by_name (only_part rest))
    else if bytes_eq name (codes "rank") then option_map Rank (option_and_then decimal_of (only_part rest))
    else if bytes_eq name (codes "bits") then range_request rest
    else if bytes_eq name (codes "rank0") then option_map Rank0 (option_and_then decimal_of (only_part rest))
    else if bytes_eq name (codes "select") then option_map Select (option_and_then decimal_of (only_part rest))
    else if bytes_eq name (codes "select0") then option_map Select0 (option_and_then decimal_of (only_part rest))
    else None

-- what a line asks for, and None where it is no command
abbrev pub request_of : List ℕ → Option Request
request_of line = request_of_parts (parts_between_spaces line)

-- only this asks for memory while the line is read
abbrev pub AsksForWords : Option Request → Type 0
AsksForWords None = ⊥
AsksForWords (Some (Words words)) = ⊤
AsksForWords (Some (Set position)) = ⊥
AsksForWords (Some (Clear position)) = ⊥
AsksForWords (Some (Build kind)) = ⊥
AsksForWords (Some (Rank index)) = ⊥
AsksForWords (Some (Bits begin len)) = ⊥
AsksForWords (Some (Rank0 index)) = ⊥
AsksForWords (Some (Select rank)) = ⊥
AsksForWords (Some (Select0 rank)) = ⊥

-- at most 65536 words, and widths up to 63
abbrev pub IsWithinLimits : Request → Type 0
IsWithinLimits (Words words) = length words ≤ 65536
IsWithinLimits (Set position) = ⊤
IsWithinLimits (Clear position) = ⊤
IsWithinLimits (Build kind) = ⊤
IsWithinLimits (Rank index) = ⊤
IsWithinLimits (Bits begin len) = len ≤ 63
IsWithinLimits (Rank0 index) = ⊤
IsWithinLimits (Select rank) = ⊤
IsWithinLimits (Select0 rank) = ⊤
