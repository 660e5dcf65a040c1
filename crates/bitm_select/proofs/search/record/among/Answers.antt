-- The word that has the rank shows its position, and each other word is passed.
use Rattle.std.proofs.Common.{◌≡◌, ℕ, ◌+◌, ◌-◌, ◌*◌, ap, ◌∙◌, subst, arith, count_ones}
use Rattle.bit_lists.specs.Count.{ones_before, as_bit}
use Rattle.bitm_select.specs.Search.{IsWord, sought_in}
use Rattle.bitm_tables.specs.Tables.{Lists}
use Rattle.bitm_tables.specs.declared.source.counts.ReadCounts.{ReadCounts}
use Rattle.bitm_select.proofs.lemmas.MarkLemmas.{CountsWord, sought_bits-long, word_counts, picked_in_word, word_passed}
use Rattle.bitm_select.proofs.search.record.among.Goals as goal
use Rattle.bitm_select.proofs.search.record.among.Goals.{After-sought_word-word}

word : (g : _) (c : After-sought_word-word g)
    → CountsWord (sought_in g.row.BIT (g.T.TableSource.lists c.args.source.now).words) (c.args.first + c.loop-k.k) c.sought_word-word.result
word g c =
    let words = (g.T.TableSource.lists c.args.source.now).words in
    let at = c.args.first + c.loop-k.k in
    word_counts (sought_in g.row.BIT words) at c.sought_word-word.result
    (sought_bits-long words (as_bit g.row.BIT) at (omega (arith, c.requires.inside, c.loop-k-test.true, c.loop-k.auto.k-end)))
    (subst (λ (l : Lists). IsWord (sought_in g.row.BIT l.words) at c.sought_word-word.result) c.loop-k.invariant.same c.sought_word-word.ensures.word)

pub returns-then-rest-ones-clause-answer : goal.returns-then-rest-ones-clause-answer
returns-then-rest-ones-clause-answer g c =
    let e = c.select_in_word.ensures in
    let words = (g.T.TableSource.lists c.args.source.now).words in
    let R = ones_before (sought_in g.row.BIT words) (64 * c.args.first) + c.args.rank in
    picked_in_word words (as_bit g.row.BIT) (c.args.first + c.loop-k.k) c.sought_word-word.result R c.loop-k.rest
    (word g (goal.at.returns-then-rest-ones-clause-answer g c).After-sought_word-word) c.loop-k.invariant.rest
    c.select_in_word.result (omega (arith, c.requires.inside, c.loop-k-test.true, c.loop-k.auto.k-end)) e.inside e.before e.after

pub loop-k-preserved : goal.loop-k-preserved
loop-k-preserved g c =
    let i = c.loop-k.invariant in
    let e = c.sought_word-word.ensures in
    let words = (g.T.TableSource.lists c.args.source.now).words in
    let m = sought_in g.row.BIT words in
    let at = c.args.first + c.loop-k.k in
    let R = ones_before m (64 * c.args.first) + c.args.rank in
    let next : at + 1 ≡ c.args.first + (c.loop-k.k + 1) = omega arith in
    let passed : R ≡ ones_before m (64 * (at + 1)) + (c.loop-k.rest - count_ones c.sought_word-word.result) =
    word_passed words (as_bit g.row.BIT) at c.sought_word-word.result R c.loop-k.rest
    (word g (goal.at.loop-k-preserved g c).After-sought_word-word) i.rest c.sought_word-word.type_inv c.if-rest-ones.false in
    record {
      rest = subst (λ (n : ℕ). R ≡ ones_before m (64 * n) + (c.loop-k.rest - count_ones c.sought_word-word.result)) next passed;
      words = omega (arith, ap (λ (r : ReadCounts). r.words) e.counted, i.words);
      upper = ap (λ (r : ReadCounts). r.upper) e.counted ∙ i.upper;
      lower = ap (λ (r : ReadCounts). r.lower) e.counted ∙ i.lower;
      same = e.same ∙ i.same;
    }

pub returns-clause-answer : goal.returns-clause-answer
returns-clause-answer g c =
    let m = sought_in g.row.BIT (g.T.TableSource.lists c.args.source.now).words in
    let all : c.loop-k.k ≡ c.args.count = omega (arith, c.loop-k-test.false, c.loop-k.auto.k-end) in
    omega (arith, c.loop-k.invariant.rest, ap (λ k. ones_before m (64 * (c.args.first + k))) all)
