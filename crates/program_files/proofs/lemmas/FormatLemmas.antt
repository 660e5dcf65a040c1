-- Which format the files have that are blocks, and those of version 2.
use Rattle.std.proofs.Common.{◌≡◌, ℕ, ◌/◌, ◌%◌, ◌^◌, ◌≤◌, List, [], ◌∷◌, length, map, Bool, true, false, None, Some, Ok, refl, sym, ap, ◌∙◌, arith, if◌then◌else◌}
use Rattle.std.specs.Int.{w64, from_le_bytes}
use Rattle.std.specs.Prelude.{slice_index}
use Rattle.bitm_block.specs.Header.{version_in, IsKnown, IsMarked}
use Rattle.program_files.specs.Bytes.{words_of_bytes}
use Rattle.program_files.specs.Format.{format_in, format_of, version_at, version_of, version_of_file}
use Rattle.program_files.specs.declared.blocks.format.Format.TheVariants.{Block, Old}

-- the version of chunks of bytes is that of the first word that they are
first_version : (chunks : List (List ℕ)) (words : List ℕ) → map (λ chunk. from_le_bytes w64 chunk) chunks ≡ words → 1 ≤ length words
    → version_at chunks ≡ version_of (slice_index words 0)
first_version [] words is some = absurd (omega (arith, some, ap length (sym is)))
first_version (first ∷ more) words is some = ap (λ ws. version_of (slice_index ws 0)) is

-- what is there under a condition
there : {T : Type 0} (b : Bool) (x w : T) → (if b then Some x else None) ≡ Some w → x ≡ w
there true x w is = cc
there false x w is = cc

pub word_version : (bytes words : List ℕ) → words_of_bytes bytes ≡ Some words → 1 ≤ length words → version_of_file bytes ≡ version_of (slice_index words 0)
word_version bytes words is some = first_version _ words (there _ _ words is) some

-- a mark that has the letters says the version in its highest byte
marked_version : (mark version : ℕ) → mark % 2 ^ 56 ≡ 0x62_6174_6d74_6962 → mark / 2 ^ 56 ≡ version → version_of mark ≡ Some version
marked_version mark version letters is = rw (letters, is) refl

-- blocks are of version 3 or 4
known_format : (version : ℕ) → IsKnown version → format_of (Some version) ≡ Ok Block
known_format version known = grind (arith, known.0, known.1)

pub block_format : (bytes words : List ℕ) → words_of_bytes bytes ≡ Some words → IsMarked words → format_in bytes ≡ Ok Block
block_format bytes words is marked =
    let same = word_version bytes words is (omega (arith, marked.long)) in
    let known = marked_version (slice_index words 0) (version_in words) marked.letters refl in
    ap format_of (same ∙ known) ∙ known_format (version_in words) marked.version

pub old_format : (bytes words : List ℕ) → words_of_bytes bytes ≡ Some words → 1 ≤ length words → slice_index words 0 ≡ 0x0262_6174_6d74_6962
    → format_in bytes ≡ Ok Old
old_format bytes words is some mark = ap format_of (word_version bytes words is some ∙ ap version_of mark)
