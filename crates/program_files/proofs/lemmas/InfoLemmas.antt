-- What is said of a block is that of the kind that it says.
use Rattle.std.proofs.Common.{◌≡◌, List, ℕ, Option, Some, length, subst, SomeIff, IsSomeAnd}
use Rattle.std.specs.Io.KnownBytes.{Appends}
use Rattle.program_files.specs.Bytes.{words_of_bytes}
use Rattle.program_files.specs.Old.{old_head_in, IsOld, IsOldFile}
use Rattle.program_files.specs.declared.blocks.old.OldHead.{OldHead}
use Rattle.program_base.specs.declared.runs.form.Form.{Form}
use Rattle.program_files.specs.Info.{info_text, old_text, IsDescribed, WroteInfo, WroteOldInfo}
use Rattle.program_files.specs.declared.kinds.describing.Description.{Description}
use Rattle.program_files.proofs.lemmas.SoundLemmas.{same_kind}

pub wrote_info : (form : Form) (bytes block : List ℕ) (d : Description) (a b : Option (List ℕ)) → words_of_bytes bytes ≡ Some block
    → IsDescribed block (length bytes) d → Appends a b (info_text form d.kind d.head d.bytes) → WroteInfo form bytes a b
wrote_info form bytes block d a b words h wrote = record {
  block = block;
  words = words;
  sound = record { kind = d.kind; says = h.kind; sound = same_kind block d.kind h.kind h.sound };
  written = rw (h.head, h.bytes_are) at wrote;
}

-- what was said of the head of a file of version 2 is what its header says
pub wrote_old : (form : Form) (bytes file : List ℕ) (head : OldHead) (a b : Option (List ℕ)) → words_of_bytes bytes ≡ Some file → SomeIff (Some head) (IsOld file) (old_head_in file)
    → Appends a b (old_text form head (length bytes)) → WroteOldInfo form bytes a b
wrote_old form bytes file head a b words iff wrote = record {
  file = file;
  words = words;
  fits = iff.0;
  written = subst (λ (h : OldHead). Appends a b (old_text form h (length bytes))) iff.1 wrote;
}

-- bytes of a file of version 2 have its words
pub old_words : (bytes file : List ℕ) → words_of_bytes bytes ≡ Some file → IsOldFile bytes → IsOld file
old_words bytes file words old = subst (λ (o : Option (List ℕ)). IsSomeAnd o IsOld) words old
