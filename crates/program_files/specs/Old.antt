-- Files of version 2 of the format: bits or a sequence after a header. Nothing but the header has a checksum.
use Rattle.std.specs.Prelude.{◌≡◌, ◌⊎◌, ℕ, ◌+◌, ◌/◌, ◌==◌, List, slice_range, Bool, Option, Some, IsSomeAnd, if◌then◌else◌}
use Rattle.bitm_abi.specs.Stored.{header_in, IsHeaded}
use Rattle.bitm_abi.specs.declared.layout.Span.{Span}
use Rattle.bitm_abi.specs.declared.layout.Stored.{Stored}
use Rattle.bitm_tables.specs.Tables.{HasSizes, HasTables, Lists}
use Rattle.bitm_view.specs.Cut.{bits_of_cut, cut_at, Cut, IsWithin}
use Rattle.elias_fano.specs.SequenceParts.{parts_of, AreParts, HasLengths, Holds, SequenceParts}
use Rattle.tables_view.specs.Sizes.{lists_of}
use Rattle.program_base.specs.Text.{lines_of}
use Rattle.program_base.specs.declared.runs.form.Form.{Form}
use Rattle.program_files.specs.Bits.{IsBitsReply}
use Rattle.program_files.specs.Bytes.{words_of_bytes}
use Rattle.program_files.specs.Query.{Replies, WroteReplies}
use Rattle.program_files.specs.Sequence.{IsSequenceReply}
use Rattle.program_files.specs.declared.blocks.kind.Kind.{Kind}
use Rattle.program_files.specs.declared.blocks.kind.Kind.TheVariants.{Bits, Sequence}
use Rattle.program_files.specs.declared.blocks.old.OldHead.{OldHead}
use Rattle.program_files.specs.declared.blocks.question.Question.{Question}
use Rattle.program_files.specs.declared.blocks.reply.Reply.{Reply}

-- the words of a part of a file
abbrev pub part_of_file : List ℕ → Span → List ℕ
part_of_file file span = slice_range file (span.at / 8) (span.at / 8 + span.len)

-- the words and tables of which a header speaks
abbrev pub tables_at : List ℕ → Stored → Lists
tables_at file h = lists_of (part_of_file file h.words) (part_of_file file h.upper) (part_of_file file h.lower)

-- the bits of a file
abbrev pub old_bits_in : List ℕ → Cut
old_bits_in file = cut_at (tables_at file (header_in file)) (header_in file).len

-- the sequence of a file
abbrev pub sequence_at : List ℕ → Stored → SequenceParts
sequence_at file h = parts_of h.len h.width (part_of_file file h.low) (tables_at file h)

abbrev pub old_sequence_in : List ℕ → SequenceParts
old_sequence_in file = sequence_at file (header_in file)

-- its parts are as long as its numbers need
pub record HasSequence (file : List ℕ) (h : Stored) : Type 0 where
  pub sized : HasSizes (tables_at file h)
  pub lengths : HasLengths (sequence_at file h)

-- a file has bits with the tables of their words. Nothing is said of its samples, which change no answer
pub record IsOldBits (file : List ℕ) : Type 0 where
  pub headed : IsHeaded file
  pub kind : (header_in file).kind ≡ 1
  pub sized : HasSizes (old_bits_in file).lists
  pub tables : HasTables (old_bits_in file).lists
  pub within : IsWithin (old_bits_in file)

-- a file has the parts of a sequence
pub record IsOldSequence (file : List ℕ) : Type 0 where
  pub headed : IsHeaded file
  pub kind : (header_in file).kind ≡ 2
  pub has : HasSequence file (header_in file)
  pub parts : AreParts (old_sequence_in file)

-- a file has the one or the other
abbrev pub IsOld : List ℕ → Type 0
IsOld file = IsOldBits file ⊎ IsOldSequence file

-- the bytes are those of such a file
abbrev pub IsOldFile : List ℕ → Type 0
IsOldFile bytes = IsSomeAnd (words_of_bytes bytes) IsOld

-- the kind of this number in a header
abbrev pub old_kind_of : ℕ → Kind
old_kind_of n = if n == 1 then Bits else Sequence

-- what its header says of its items
abbrev pub old_head_in : List ℕ → OldHead
old_head_in file =
    let h = header_in file in record { kind = old_kind_of h.kind; len = h.len; width = h.width }

-- the replies of the bits in a file were written to the lines of a text
pub record WroteOldBits (form : Form) (file text : List ℕ) (before after : Option (List ℕ)) (good : Bool) : Type 0 where
  pub fits : IsOldBits file
  pub wrote : WroteReplies form (IsBitsReply (bits_of_cut (old_bits_in file))) (lines_of text) before after good

-- what a sequence in a file answers to a question
abbrev pub IsOldReply : List ℕ → Question → Reply → Type 0
IsOldReply file question reply = (xs : List ℕ) → Holds xs (old_sequence_in file) → IsSequenceReply xs question reply

-- the replies of the sequence in a file were written to the lines of a text
pub record WroteOldSequence (form : Form) (file text : List ℕ) (before after : Option (List ℕ)) (good : Bool) : Type 0 where
  pub fits : IsOldSequence file
  pub wrote : WroteReplies form (IsOldReply file) (lines_of text) before after good

-- the bytes are those of a file of version 2, and the replies of what it holds were written
pub record RepliesOfOld (form : Form) (bytes text : List ℕ) (before after : Option (List ℕ)) (good : Bool) : Type 0 where
  pub file : List ℕ
  pub words : words_of_bytes bytes ≡ Some file
  pub wrote : WroteOldBits form file text before after good ⊎ WroteOldSequence form file text before after good

-- the replies of what a file of either version holds were written
abbrev pub RepliesOfFile : Form → List ℕ → List ℕ → Option (List ℕ) → Option (List ℕ) → Bool → Type 0
RepliesOfFile form bytes text before after good = Replies form bytes text before after good ⊎ RepliesOfOld form bytes text before after good
