-- The first word shows the position, or is passed; the others show it, or none does.
use Rattle.std.proofs.Common.{◌≡◌, ℕ, List, ◌+◌, ◌-◌, ◌*◌, ◌<◌, length, count_ones, ap, refl, sym, subst, arith}
use Rattle.bit_lists.proofs.lemmas.BitsLemmas.{length-bits_of}
use Rattle.bit_lists.specs.Bits.{bits_of}
use Rattle.bit_lists.specs.Count.{as_bit, ones_before, Picks}
use Rattle.bitm_select.specs.Search.{sought_in, IsWord}
use Rattle.bitm_select.proofs.lemmas.MarkLemmas.{CountsWord, sought_bits-long, word_counts, picked_in_word, word_passed, none_counted}
use Rattle.bitm_select.proofs.lemmas.SelectedLemmas.{absent}
use Rattle.bitm_select.proofs.many.loaded.in_last.Goals as goal
use Rattle.bitm_select.proofs.many.loaded.in_last.Goals.{Else-rest-count}

pub returns-then-first-len-clause-answer : goal.returns-then-first-len-clause-answer
returns-then-first-len-clause-answer g c =
    let words = (g.T.TableSource.lists c.args.source.now).words in
    none_counted (bits_of words) (as_bit g.row.BIT) _ (64 * c.args.first)
    (omega (arith, length-bits_of words, c.words_len-len.ensures, c.if-first-len.true)) (omega arith)

-- the first word
first_word : (words : List ℕ) (bit first w : ℕ) → first < length words → IsWord (sought_in bit words) first w
    → CountsWord (sought_in bit words) first w
first_word words bit first w inside is = word_counts (sought_in bit words) first w (sought_bits-long words (as_bit bit) first inside) is

pub returns-then-rest-count-clause-answer : goal.returns-then-rest-count-clause-answer
returns-then-rest-count-clause-answer g c =
    let e = c.select_in_word.ensures in
    let words = (g.T.TableSource.lists c.args.source.now).words in
    let R = ones_before (sought_in g.row.BIT words) (64 * c.args.first) + c.args.rest in
    let inside : c.args.first < length words = omega (arith, c.words_len-len.ensures, c.if-first-len.false) in
    picked_in_word words (as_bit g.row.BIT) c.args.first c.args.word R c.args.rest
    (first_word words g.row.BIT c.args.first c.args.word inside (c.requires.word inside)) (refl {A = ℕ})
    c.select_in_word.result inside e.inside e.before e.after

passed : (g : _) (c : Else-rest-count g)
    → ones_before (sought_in g.row.BIT (g.T.TableSource.lists c.args.source.now).words) (64 * c.args.first) + c.args.rest
    ≡ ones_before (sought_in g.row.BIT (g.T.TableSource.lists c.args.source.now).words) (64 * (c.args.first + 1))
    + (c.args.rest - count_ones c.args.word)
passed g c =
    let words = (g.T.TableSource.lists c.args.source.now).words in
    let R = ones_before (sought_in g.row.BIT words) (64 * c.args.first) + c.args.rest in
    let inside : c.args.first < length words = omega (arith, c.words_len-len.ensures, c.if-first-len.false) in
    word_passed words (as_bit g.row.BIT) c.args.first c.args.word R c.args.rest
    (first_word words g.row.BIT c.args.first c.args.word inside (c.requires.word inside)) (refl {A = ℕ}) c.ranges.word.fits c.if-rest-count.false

pub returns-in-Some-clause-answer : goal.returns-in-Some-clause-answer
returns-in-Some-clause-answer g c =
    let words = (g.T.TableSource.lists c.args.source.now).words in
    subst (λ (n : ℕ). Picks (bits_of words) (as_bit g.row.BIT) n c.in-Some.position)
    (sym (passed g (goal.at.returns-in-Some-clause-answer g c).Else-rest-count)) c.in-Some.ensures.answer

pub returns-in-None-clause-answer : goal.returns-in-None-clause-answer
returns-in-None-clause-answer g c =
    let words = (g.T.TableSource.lists c.args.source.now).words in
    let first = c.args.first in
    let count = length words - (first + 1) in
    let R = ones_before (sought_in g.row.BIT words) (64 * first) + c.args.rest in
    let same : c.words_len-len.result - (first + 1) ≡ count = omega (arith, c.words_len-len.ensures) in
    absent words (as_bit g.row.BIT) (first + 1) R count (omega (arith, c.words_len-len.ensures, c.requires.last)) (refl {A = ℕ})
    (omega (
      arith,
      c.in-None.ensures.answer,
      passed g (goal.at.returns-in-None-clause-answer g c).Else-rest-count,
      ap (λ (n : ℕ). ones_before (sought_in g.row.BIT words) (64 * (first + 1 + n))) same,
    ))
