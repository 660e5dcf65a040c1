-- What is said of a block.
use Rattle.std.specs.Prelude.{◌≡◌, ◌⊎◌, ◌==◌, ℕ, ◌*◌, ◌/◌, ◌%◌, List, ◌++◌, codes, length, Option, Some, if◌then◌else◌}
use Rattle.std.specs.Fmt.{decimal}
use Rattle.std.specs.Io.KnownBytes.{Appends}
use Rattle.bitm_block.specs.Header.{head_in}
use Rattle.bitm_block.specs.declared.head.Head.{Head}
use Rattle.program_files.specs.Bytes.{words_of_bytes}
use Rattle.program_files.specs.Kind as kinds
use Rattle.program_files.specs.Old.{old_head_in, IsOld}
use Rattle.program_files.specs.declared.blocks.kind.Kind.{Kind as NumberKind}
use Rattle.program_files.specs.declared.blocks.old.OldHead.{OldHead}
use Rattle.program_base.specs.Form.{none_in}
use Rattle.program_base.specs.declared.runs.form.Form.{Form}
use Rattle.program_base.specs.declared.runs.form.Form.TheVariants.{Text, Json}
use Rattle.program_files.specs.KindsKind.{kind_in, kind_text}
use Rattle.program_files.specs.KindsSound.{IsSound}
use Rattle.program_files.specs.declared.kinds.describing.Description.{Description}
use Rattle.program_files.specs.declared.kinds.kind.Kind.{Kind}

-- a number of hundredths, with two digits after the point
abbrev pub hundredths_text : ℕ → List ℕ
hundredths_text n = decimal (n / 100) ++ codes "." ++ decimal (n % 100 / 10) ++ decimal (n % 100 % 10)

-- how many bits of so many bytes there are for one of n items, cut to hundredths
abbrev pub rate_text : Form → ℕ → ℕ → List ℕ
rate_text form bytes n = if n == 0 then none_in form else hundredths_text (800 * bytes / n)

-- the kind, as a line or as the first pair of an object
abbrev pub kind_line : Form → Kind → List ℕ
kind_line Text kind = codes "kind " ++ kind_text kind ++ codes "\n"
kind_line Json kind = codes "{\"kind\":\"" ++ kind_text kind ++ codes "\""

-- how many items there are, how many bits each has, and how many bytes the file has
abbrev pub size_lines : Form → ℕ → ℕ → ℕ → List ℕ
size_lines Text len width bytes = codes "len " ++ decimal len ++ codes "\nwidth " ++ decimal width ++ codes "\nbytes " ++ decimal bytes ++ codes "\n"
size_lines Json len width bytes =
    codes ",\"len\":" ++ decimal len ++ codes ",\"width\":" ++ decimal width ++ codes ",\"bytes\":" ++ decimal bytes

-- how many bits an item takes, as a line or as the last pair of an object
abbrev pub rate_line : Form → ℕ → ℕ → List ℕ
rate_line Text bytes len = codes "bits_per_item " ++ rate_text Text bytes len ++ codes "\n"
rate_line Json bytes len = codes ",\"bits_per_item\":" ++ rate_text Json bytes len ++ codes "}\n"

-- all of this
abbrev pub info_text : Form → Kind → Head → ℕ → List ℕ
info_text form kind head bytes = kind_line form kind ++ (size_lines form head.len head.width bytes ++ rate_line form bytes head.len)

-- the kind of a file of version 2
abbrev pub old_line : Form → NumberKind → List ℕ
old_line Text kind = codes "kind " ++ kinds.number_kind_text kind ++ codes " (version 2)\n"
old_line Json kind = codes "{\"kind\":\"" ++ kinds.number_kind_text kind ++ codes " (version 2)\""

-- all that is said of such a file
abbrev pub old_text : Form → OldHead → ℕ → List ℕ
old_text form head bytes = old_line form head.kind ++ (size_lines form head.len head.width bytes ++ rate_line form bytes head.len)

-- that is to be said of a block that is as it was written and has so many bytes
pub record IsDescribed (block : List ℕ) (bytes : ℕ) (d : Description) : Type 0 where
  pub sound : IsSound block
  pub kind : kind_in block ≡ Some d.kind
  pub head : d.head ≡ head_in block
  pub bytes_are : d.bytes ≡ bytes

-- the bytes are those of a block that is as it was written, and its kind, what its header says and how many bytes it has
-- were written
pub record WroteInfo (form : Form) (bytes : List ℕ) (before after : Option (List ℕ)) : Type 0 where
  pub block : List ℕ
  pub words : words_of_bytes bytes ≡ Some block
  pub sound : IsSound block
  pub written : Appends before after (info_text form sound.kind (head_in block) (length bytes))

-- the bytes are those of a file of version 2 whose parts fit each other, and what its header says was written
pub record WroteOldInfo (form : Form) (bytes : List ℕ) (before after : Option (List ℕ)) : Type 0 where
  pub file : List ℕ
  pub words : words_of_bytes bytes ≡ Some file
  pub fits : IsOld file
  pub written : Appends before after (old_text form (old_head_in file) (length bytes))

-- the one or the other
abbrev pub WroteInfoOfFile : Form → List ℕ → Option (List ℕ) → Option (List ℕ) → Type 0
WroteInfoOfFile form bytes before after = WroteInfo form bytes before after ⊎ WroteOldInfo form bytes before after
