-- The word that has the rank shows its position; where it has too few ones it is the last of the eight.
use Rattle.std.proofs.Common.{◌≡◌, ℕ, ◌+◌, ◌-◌, ◌*◌, ap, subst, arith, slice_index, inl, inr}
use Rattle.std.proofs.lemmas.Bool.{cases_lt}
use Rattle.bit_lists.specs.Count.{ones_before, as_bit}
use Rattle.bitm_select.specs.Search.{IsWord, sought_in}
use Rattle.bitm_tables.specs.Tables.{Lists}
use Rattle.bitm_select.proofs.lemmas.MarkLemmas.{CountsWord, sought_bits-long, word_counts, picked_in_word, word_passed}
use Rattle.bitm_select.proofs.lemmas.RecordLemmas.{counts_rise}
use Rattle.bitm_select.proofs.search.record.among_all.Goals as goal
use Rattle.bitm_select.proofs.search.record.among_all.Goals.{After-sought_word-word}

pub last_at_most-k-requires-clause-rise : goal.last_at_most-k-requires-clause-rise
last_at_most-k-requires-clause-rise g c =
    counts_rise (sought_in g.row.BIT (g.T.TableSource.lists c.args.source.now).words) c.args.first c.ones_to_words-counts.result
    c.ones_to_words-counts.ensures.counts

word : (g : _) (c : After-sought_word-word g)
    → CountsWord (sought_in g.row.BIT (g.T.TableSource.lists c.args.source.now).words) (c.args.first + c.last_at_most-k.result) c.sought_word-word.result
word g c =
    let words = (g.T.TableSource.lists c.args.source.now).words in
    let at = c.args.first + c.last_at_most-k.result in
    word_counts (sought_in g.row.BIT words) at c.sought_word-word.result
    (sought_bits-long words (as_bit g.row.BIT) at (omega (arith, c.requires.whole, c.last_at_most-k.ensures.inside)))
    (subst (λ (l : Lists). IsWord (sought_in g.row.BIT l.words) at c.sought_word-word.result) c.ones_to_words-counts.ensures.same c.sought_word-word.ensures.word)

-- the rank that is left in the word
left : (g : _) (c : After-sought_word-word g)
    → let m = sought_in g.row.BIT (g.T.TableSource.lists c.args.source.now).words in
    ones_before m (64 * c.args.first) + c.args.rank
    ≡ ones_before m (64 * (c.args.first + c.last_at_most-k.result)) + (c.args.rank - slice_index c.ones_to_words-counts.result c.last_at_most-k.result)
left g c =
    let k = c.last_at_most-k.result in
    omega (arith, c.ones_to_words-counts.ensures.counts k c.last_at_most-k.ensures.inside, c.last_at_most-k.ensures.at_most)

pub returns-then-rest-word-clause-answer : goal.returns-then-rest-word-clause-answer
returns-then-rest-word-clause-answer g c =
    let d = (goal.at.returns-then-rest-word-clause-answer g c).After-sought_word-word in
    let e = c.select_in_word.ensures in
    let words = (g.T.TableSource.lists c.args.source.now).words in
    let k = c.last_at_most-k.result in
    let R = ones_before (sought_in g.row.BIT words) (64 * c.args.first) + c.args.rank in
    picked_in_word words (as_bit g.row.BIT) (c.args.first + k) c.sought_word-word.result R (c.args.rank - slice_index c.ones_to_words-counts.result k)
    (word g d) (left g d) c.select_in_word.result (omega (arith, c.requires.whole, c.last_at_most-k.ensures.inside)) e.inside e.before e.after

pub returns-else-rest-word-clause-answer : goal.returns-else-rest-word-clause-answer
returns-else-rest-word-clause-answer g c =
    let d = (goal.at.returns-else-rest-word-clause-answer g c).After-sought_word-word in
    let words = (g.T.TableSource.lists c.args.source.now).words in
    let m = sought_in g.row.BIT words in
    let k = c.last_at_most-k.result in
    let at = c.args.first + k in
    let R = ones_before m (64 * c.args.first) + c.args.rank in
    let passed = word_passed words (as_bit g.row.BIT) at c.sought_word-word.result R (c.args.rank - slice_index c.ones_to_words-counts.result k)
    (word g d) (left g d) c.sought_word-word.type_inv c.if-rest-word.false in
    elim (cases_lt k 7) [
      | inl below ↦
          let next : at + 1 ≡ c.args.first + (k + 1) = omega arith in
          omega (
            arith,
            passed,
            ap (λ (n : ℕ). ones_before m (64 * n)) next,
            c.last_at_most-k.ensures.next (omega (arith, below)),
            c.ones_to_words-counts.ensures.counts (k + 1) (omega (arith, below)),
          )
      | inr over ↦
          let next : at + 1 ≡ c.args.first + 8 = omega (arith, over, c.last_at_most-k.ensures.inside) in
          omega (arith, passed, ap (λ (n : ℕ). ones_before m (64 * n)) next)
    ]
