-- Which format a file is in, by the mark that it begins with.
use Rattle.std.specs.Prelude.{ℕ, ◌/◌, ◌%◌, ◌^◌, ◌==◌, ◌||◌, List, [], ◌∷◌, length, Option, None, Some, Result, Ok, Err, if◌then◌else◌}
use Rattle.std.specs.Int.{w64, from_le_bytes}
use Rattle.std.specs.Simd.{first_chunks}
use Rattle.program_files.specs.declared.blocks.failure.Failure.{Failure}
use Rattle.program_files.specs.declared.blocks.failure.Failure.TheVariants.{Unmarked, OtherVersion}
use Rattle.program_files.specs.declared.blocks.format.Format.{Format}
use Rattle.program_files.specs.declared.blocks.format.Format.TheVariants.{Block, Old}

-- the version in the highest byte of a mark, where the others are the letters `bitmtab`
abbrev pub version_of : ℕ → Option ℕ
version_of mark = if mark % 2 ^ 56 == 0x62_6174_6d74_6962 then Some (mark / 2 ^ 56) else None

-- the version that the first eight bytes say
abbrev pub version_at : List (List ℕ) → Option ℕ
version_at [] = None
version_at (first ∷ more) = version_of (from_le_bytes w64 first)

-- the version that a file says: none where it is shorter than a mark, or has not those letters
abbrev pub version_of_file : List ℕ → Option ℕ
version_of_file bytes = version_at (first_chunks 8 (length bytes / 8) bytes)

-- the format of files that say a version, or why they are refused
abbrev pub format_of : Option ℕ → Result Format Failure
format_of None = Err Unmarked
format_of (Some version) =
    if version == 3 || version == 4 then Ok Block else if version == 2 then Ok Old else Err (OtherVersion version)

-- the format of a file, or why it is refused whatever else it holds
abbrev pub format_in : List ℕ → Result Format Failure
format_in bytes = format_of (version_of_file bytes)
