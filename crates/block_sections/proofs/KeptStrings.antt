-- Strings in a block that is extended are those of before.
use Rattle.std.proofs.Common.{◌≡◌, ℕ, ◌≤◌, List, slice_index, ap, sym, subst, ◌∙◌, arith}
use Rattle.bitm_block.specs.Header.{count_in, section_in}
use Rattle.bitm_block.specs.declared.head.Head.{Head}
use Rattle.bitm_block.specs.declared.layout.Section.{Section}
use Rattle.block_sections.proofs.ExtendLemmas.{count_is}
use Rattle.block_sections.specs.Extended.{IsExtended}
use Rattle.block_sections.proofs.KeptLemmas.{role_is}
use Rattle.block_sections.specs.Strings.{KeepsString}
use Rattle.hash_block.specs.Block.{hash_in, IsHashBlock}
use Rattle.hash_block.specs.StringsBlock.{strings_in, IsSoundBlock, IsStringBlock}
use Rattle.hash_block.specs.Given.{given, len_of}
use Rattle.hash_block.specs.Kinds.{IsStringKind}
use Rattle.hash_block.specs.StringsParts.{string_number_in, AreStrings, HasStringStarts, IsString, StringParts}

abbrev strings_with : ℕ → List ℕ → List ℕ → List ℕ → StringParts
strings_with kind hash starts bytes = record { kind = kind; hash = hash_in hash; starts = starts; bytes = bytes }

module _ (block : List ℕ) (added : Section) (words new : List ℕ) (is : IsExtended block added words new) where
  kind_is : slice_index new 1 ≡ slice_index block 1
  kind_is = ap (λ (h : Head). h.kind) is.head_is

  strings_are : 3 ≤ count_in block → strings_in new ≡ strings_in block
  strings_are three =
      let kind : ℕ = slice_index block 1 in
      ap (λ k. strings_with k (section_in new 0) (section_in new 1) (section_in new 2)) kind_is
      ∙ ap (λ h. strings_with kind h (section_in new 1) (section_in new 2)) (is.kept 0 (omega (arith, three)))
      ∙ ap (λ s. strings_with kind (section_in block 0) s (section_in new 2)) (is.kept 1 (omega (arith, three)))
      ∙ ap (λ b. strings_with kind (section_in block 0) (section_in block 1) b) (is.kept 2 (omega (arith, three)))

  opened_strings : IsStringBlock block → IsStringBlock new
  opened_strings old =
      let three = old.sections.three in record {
        is_block = is.is_block;
        sections = record {
          kind = subst IsStringKind (sym kind_is) old.sections.kind;
          three = omega (arith, three, count_is block added words new is);
          hash = role_is block added words new is 0 (omega (arith, three)) ∙ old.sections.hash;
          starts = role_is block added words new is 1 (omega (arith, three)) ∙ old.sections.starts;
          bytes = role_is block added words new is 2 (omega (arith, three)) ∙ old.sections.bytes;
        };
        hash_block = subst (λ (h : List ℕ). IsHashBlock h) (sym (is.kept 0 (omega (arith, three)))) old.hash_block;
        starts = subst (λ (p : StringParts). HasStringStarts p) (sym (strings_are three)) old.starts;
        len = ap (λ (h : Head). h.len) is.head_is ∙ old.len ∙ sym (ap (λ (p : StringParts). p.hash.keys) (strings_are three));
      }

  sound_strings : IsSoundBlock block → IsSoundBlock new
  sound_strings old = record {
    string_block = opened_strings old.string_block;
    verified = is.verified;
    strings = subst (λ (p : StringParts). AreStrings p) (sym (strings_are old.string_block.sections.three)) old.strings;
  }

  pub keeps_string : KeepsString block new
  keeps_string = record {
    opened = opened_strings;
    parts = λ old. strings_are old.sections.three;
    sound = sound_strings;
    strings = λ number bytes ends old.
        let same = strings_are old.sound.string_block.sections.three in record {
          sound = sound_strings old.sound;
          numbers = λ string len. ap (λ (p : StringParts). string_number_in p string len) same ∙ old.numbers string len;
          count = ap (λ (p : StringParts). p.hash.keys) same ∙ old.count;
          all = λ i v less some.
              subst (λ (p : StringParts). IsString p v (given bytes ends i) (len_of ends i)) (sym same) (old.all i v less some);
          only = old.only;
        };
  }
