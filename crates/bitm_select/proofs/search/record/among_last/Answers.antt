-- The word that has the position shows it by the ones that it has from there on, and each other word is passed.
use Rattle.std.proofs.Common.{◌≡◌, ℕ, ◌+◌, ◌-◌, ◌*◌, ap, ◌∙◌, refl, subst, arith, count_ones}
use Rattle.bit_lists.specs.Count.{ones_before, as_bit}
use Rattle.bitm_select.specs.Search.{IsWord, sought_in}
use Rattle.bitm_tables.specs.Tables.{Lists}
use Rattle.bitm_tables.specs.declared.source.counts.ReadCounts.{ReadCounts}
use Rattle.bitm_select.proofs.lemmas.MarkLemmas.{CountsWord, sought_bits-long, word_counts, picked_in_word, word_passed}
use Rattle.bitm_select.proofs.search.record.among_last.Goals as goal
use Rattle.bitm_select.proofs.search.record.among_last.Goals.{After-sought_word-word}

word : (g : _) (c : After-sought_word-word g) → CountsWord (sought_in g.row.BIT (g.T.TableSource.lists c.args.source.now).words)
    (c.args.first + (7 - c.loop-k.k)) c.sought_word-word.result
word g c =
    let words = (g.T.TableSource.lists c.args.source.now).words in
    let at = c.args.first + (7 - c.loop-k.k) in
    word_counts (sought_in g.row.BIT words) at c.sought_word-word.result
    (sought_bits-long words (as_bit g.row.BIT) at (omega (arith, c.requires.whole)))
    (subst (λ (l : Lists). IsWord (sought_in g.row.BIT l.words) at c.sought_word-word.result) c.loop-k.invariant.same c.sought_word-word.ensures.word)

-- the ones before the word, those in it, and those that are left
counted : (g : _) (c : After-sought_word-word g) → let m = sought_in g.row.BIT (g.T.TableSource.lists c.args.source.now).words in
    ones_before m (64 * (c.args.first + (7 - c.loop-k.k))) + count_ones c.sought_word-word.result + c.args.rest
    ≡ ones_before m (64 * (c.args.first + 8)) + c.loop-k.left
counted g c =
    let words = (g.T.TableSource.lists c.args.source.now).words in
    let m = sought_in g.row.BIT words in
    let at = c.args.first + (7 - c.loop-k.k) in
    let w = c.sought_word-word.result in
    let next : at + 1 ≡ c.args.first + (8 - c.loop-k.k) = omega (arith, c.loop-k-test.true) in
    let passed = word_passed words (as_bit g.row.BIT) at w (ones_before m (64 * at) + count_ones w) (count_ones w) (word g c) refl c.sought_word-word.type_inv (omega arith) in
    omega (arith, passed, c.loop-k.invariant.left, ap (λ (n : ℕ). ones_before m (64 * n)) next)

pub returns-then-left-ones-clause-answer : goal.returns-then-left-ones-clause-answer
returns-then-left-ones-clause-answer g c =
    let d = (goal.at.returns-then-left-ones-clause-answer g c).After-sought_word-word in
    let e = c.select_in_word.ensures in
    let words = (g.T.TableSource.lists c.args.source.now).words in
    let m = sought_in g.row.BIT words in
    picked_in_word words (as_bit g.row.BIT) (c.args.first + (7 - c.loop-k.k)) c.sought_word-word.result
    (ones_before m (64 * (c.args.first + 8)) - c.args.rest) (count_ones c.sought_word-word.result - c.loop-k.left) (word g d)
    (omega (arith, counted g d, c.if-left-ones.true)) c.select_in_word.result (omega (arith, c.requires.whole)) e.inside e.before e.after

pub loop-k-preserved : goal.loop-k-preserved
loop-k-preserved g c =
    let d = (goal.at.loop-k-preserved g c).After-sought_word-word in
    let i = c.loop-k.invariant in
    let e = c.sought_word-word.ensures in
    let m = sought_in g.row.BIT (g.T.TableSource.lists c.args.source.now).words in
    let next : c.args.first + (7 - c.loop-k.k) ≡ c.args.first + (8 - (c.loop-k.k + 1)) = omega arith in
    record {
      some = omega (arith, c.if-left-ones.false);
      left = omega (arith, counted g d, c.if-left-ones.false, ap (λ (n : ℕ). ones_before m (64 * n)) next);
      words = omega (arith, ap (λ (r : ReadCounts). r.words) e.counted, i.words);
      upper = ap (λ (r : ReadCounts). r.upper) e.counted ∙ i.upper;
      lower = ap (λ (r : ReadCounts). r.lower) e.counted ∙ i.lower;
      same = e.same ∙ i.same;
    }
