-- The parts are those of a dictionary, so each key has a number of its own.
use Rattle.std.proofs.Common.{List, ℕ, length, sym, ap, ◌∙◌}
use Rattle.bitm_tables.specs.Tables.{Lists}
use Rattle.hash_block.specs.Dictionary.{IsDictionaryOf}
use Rattle.hash_block.specs.Numbered.{key_number, NumberKeys}
use Rattle.hash_block.specs.Parts.{HashParts}
use Rattle.hash_block.proofs.NumberedLemmas.{moved, numbers_keys}
use Rattle.hash_block.proofs.keyed.build_keyed.Goals as goal

pub write_dictionary-requires-clause-numbers : goal.write_dictionary-requires-clause-numbers
write_dictionary-requires-clause-numbers c =
    let parts = c.args.dictionary.now in
    let words = c.words-words.ensures.words ∙ ap (λ (l : Lists). l.words) c.tables.ensures ∙ ap (λ (h : HashParts). h.lists.words) c.hash-hash.ensures in
    let sizes = c.sizes-sizes.ensures.sizes ∙ ap (λ (h : HashParts). h.sizes) c.hash-hash.ensures in
    let seed = c.seed.ensures ∙ ap (λ (h : HashParts). h.seed) c.hash-hash.ensures in
    let keys = c.keys-keys.ensures.keys in
    moved NumberKeys parts.hash.lists.words c.words-words.result.now parts.hash.sizes c.sizes-sizes.result.now parts.hash.seed c.seed.result parts.keys
    c.keys-keys.result.now (sym words) (sym sizes) (sym seed) (sym keys)
    (numbers_keys parts (ap length (sym keys) ∙ c.keys-keys.ensures.len) (c.check.ensures.0 c.if-not-check.false))

pub returns-clause-dictionary : goal.returns-clause-dictionary
returns-clause-dictionary c =
    let parts = c.args.dictionary.now in
    let words = c.words-words.ensures.words ∙ ap (λ (l : Lists). l.words) c.tables.ensures ∙ ap (λ (h : HashParts). h.lists.words) c.hash-hash.ensures in
    let sizes = c.sizes-sizes.ensures.sizes ∙ ap (λ (h : HashParts). h.sizes) c.hash-hash.ensures in
    let seed = c.seed.ensures ∙ ap (λ (h : HashParts). h.seed) c.hash-hash.ensures in
    moved (λ (w s : List ℕ) (e : ℕ) (k : List ℕ). IsDictionaryOf (key_number w s e) k c.write_dictionary.new.block) c.words-words.result.now
    parts.hash.lists.words c.sizes-sizes.result.now parts.hash.sizes c.seed.result parts.hash.seed c.keys-keys.result.now parts.keys words sizes seed
    c.keys-keys.ensures.keys c.write_dictionary.ensures
