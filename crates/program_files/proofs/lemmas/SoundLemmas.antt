-- What is known of a block that is of the kind that it says, or is not.
use Rattle.std.proofs.Common.{◌≡◌, ◌↔◌, List, ℕ, Option, None, Some, is_some, refl, subst, IsTrue, SomeIff}
use Rattle.bitm_block.specs.Header.{IsBlock}
use Rattle.program_files.proofs.lemmas.RefusalLemmas.{numbers_block}
use Rattle.program_files.specs.KindsKind.{kind_in}
use Rattle.program_files.specs.KindsSound.{IsSound, IsSoundOf}
use Rattle.program_files.specs.declared.kinds.kind.Kind.{Kind}
use Rattle.program_files.specs.declared.kinds.kind.Kind.TheVariants.{Numbers, Hash, SeededHash, Dictionary, Text, Trie, Strings}

-- a block is sound where it is so as one of the kind that it says
pub same_kind : (block : List ℕ) (kind : Kind) → kind_in block ≡ Some kind → IsSound block → IsSoundOf kind block
same_kind block kind says h = let same : h.kind ≡ kind = cc in subst (λ k. IsSoundOf k block) same h.sound

pub no_kind : (block : List ℕ) → kind_in block ≡ None → ¬ (IsSound block)
no_kind block says h = cc

-- what is opened only where a fact holds says by being there that it does
pub some_where : {T : Type 0} (o : Option T) (S : Type 0) (v : T) → SomeIff o S v → IsTrue (is_some o) ↔ S
some_where (Some x) S v opened = (λ _. opened.0, λ _. refl)
some_where None S v opened = (λ some. cc, λ holds. absurd (opened holds))

-- header and directory of a sound block are right
kind_block : (kind : Kind) (block : List ℕ) → IsSoundOf kind block → IsBlock block
kind_block (Numbers kind) block h = numbers_block kind block h
kind_block Hash block h = h.hash_block.is_block
kind_block SeededHash block h = h.seeded_block.is_block
kind_block Dictionary block h = h.dictionary_block.hash_block.is_block
kind_block Text block h = h.text_block.is_block
kind_block Trie block h = h.trie_block.is_block
kind_block Strings block h = h.string_block.is_block

pub sound_block : (block : List ℕ) → IsSound block → IsBlock block
sound_block block h = kind_block h.kind block h.sound
