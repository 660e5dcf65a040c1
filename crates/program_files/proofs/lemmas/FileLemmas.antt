-- What is known of the index in a file.
use Rattle.std.proofs.Common.{◌≡◌, ◌∙◌, ℕ, Bool, List, Some, Result, Ok, Err, IsErrOf, length, ap, subst, sym}
use Rattle.std.specs.Prelude.{unwrap_or}
use Rattle.program_files.specs.Bytes.{words_of_bytes}
use Rattle.program_files.specs.File.{IsOpened, IsTextFile}
use Rattle.std.proofs.lemmas.List.{length-map}
use Rattle.text_block.specs.Block.{parts_in, text_of_parts, HoldsIndex, TextParts, bytes_of_parts}
use Rattle.text_index.specs.Bytes.{byte_of_letter}
use Rattle.text_index.proofs.lemmas.PartLemmas.{part-len}

-- the text is as long as the parts say
pub text-long : (parts : TextParts) → HoldsIndex parts → parts.tables.letters.len ≡ length (bytes_of_parts parts)
text-long parts h = part-len parts.tables parts.letters (parts.marks, h.index) ∙ sym (length-map (text_of_parts parts) (byte_of_letter parts.used))

-- a file has one block
same_block : (file text block : List ℕ) (is : IsTextFile file text) → words_of_bytes file ≡ Some block → is.block ≡ block
same_block file text block is words = ap (λ o. unwrap_or o is.block) (sym is.words ∙ words)

-- the block of a text's index is opened
pub opens : (file text block : List ℕ) (sums : Bool) → IsTextFile file text → words_of_bytes file ≡ Some block → IsOpened sums block
opens file text block sums is words = subst (IsOpened sums) (same_block file text block is words)
    (record { text_block = is.sound.text_block; verified = λ _. is.sound.verified })

-- it holds the index of that text
pub holds : (file text block : List ℕ) (parts : TextParts) → IsTextFile file text → words_of_bytes file ≡ Some block → parts ≡ parts_in block
    → HoldsIndex parts
holds file text block parts is words same =
    subst HoldsIndex (ap parts_in (same_block file text block is words) ∙ sym same) is.sound.index

pub text_of : (file text block : List ℕ) (parts : TextParts) → IsTextFile file text → words_of_bytes file ≡ Some block → parts ≡ parts_in block
    → bytes_of_parts parts ≡ text
text_of file text block parts is words same =
    sym (is.text_is ∙ ap (λ b. bytes_of_parts (parts_in b)) (same_block file text block is words) ∙ ap bytes_of_parts (sym same))

-- what a failed result failed with
abbrev error_in : {A E : Type 0} → E → Result A E → E
error_in d (Ok a) = d
error_in d (Err e) = e

pub failure_is : {A E : Type 0} (x e : E) → IsErrOf {T = A} (Err x) e → x ≡ e
failure_is x e h = ap (error_in x) h
