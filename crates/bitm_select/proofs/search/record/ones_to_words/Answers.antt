-- Each word adds its ones.
use Rattle.std.proofs.Common.{◌≡◌, ℕ, ◌+◌, ◌*◌, ◌<◌, slice_index, length, ap, ◌∙◌, refl, subst, arith, count_ones}
use Rattle.std.proofs.lemmas.List.{length-set}
use Rattle.bit_lists.specs.Count.{ones_before, as_bit}
use Rattle.bitm_select.specs.Search.{IsWord, sought_in}
use Rattle.bitm_tables.specs.Tables.{Lists}
use Rattle.bitm_tables.specs.declared.source.counts.ReadCounts.{ReadCounts}
use Rattle.bitm_tables.proofs.lemmas.StretchLemmas.{ones_before-self}
use Rattle.bitm_select.proofs.lemmas.MarkLemmas.{sought_bits-long, word_counts, word_passed}
use Rattle.bitm_select.proofs.lemmas.RecordLemmas.{counted_more}
use Rattle.bitm_select.proofs.search.record.ones_to_words.Goals as goal
use Rattle.bitm_select.proofs.search.record.ones_to_words.Goals.{After-sought_word-word}

more : (g : _) (c : After-sought_word-word g)
    → let m = sought_in g.row.BIT (g.T.TableSource.lists c.args.source.now).words in
    ones_before m (64 * c.args.first) + (slice_index c.loop-k.counts c.loop-k.k + count_ones c.sought_word-word.result)
    ≡ ones_before m (64 * (c.args.first + (c.loop-k.k + 1)))
more g c =
    let words = (g.T.TableSource.lists c.args.source.now).words in
    let m = sought_in g.row.BIT words in
    let at = c.args.first + c.loop-k.k in
    let w = c.sought_word-word.result in
    let is = subst (λ (l : Lists). IsWord (sought_in g.row.BIT l.words) at w) c.loop-k.invariant.same c.sought_word-word.ensures.word in
    let inside : at < length words = omega (arith, c.requires.whole, c.loop-k-test.true) in
    let counts = word_counts m at w (sought_bits-long words (as_bit g.row.BIT) at inside) is in
    let passed = word_passed words (as_bit g.row.BIT) at w (ones_before m (64 * at) + count_ones w) (count_ones w) counts refl c.sought_word-word.type_inv (omega arith) in
    let next : at + 1 ≡ c.args.first + (c.loop-k.k + 1) = omega arith in
    omega (arith, c.loop-k.invariant.counts c.loop-k.k (omega arith), passed, ap (λ (n : ℕ). ones_before m (64 * n)) next)

pub overflow_add-counts : goal.overflow_add-counts
overflow_add-counts g c =
    let d = (goal.at.overflow_add-counts g c).After-sought_word-word in
    let m = sought_in g.row.BIT (g.T.TableSource.lists c.args.source.now).words in
    omega (arith, more g d, ones_before-self m (64 * (c.args.first + (c.loop-k.k + 1))), c.requires.whole, c.requires.short, c.loop-k-test.true)

pub loop-k-preserved : goal.loop-k-preserved
loop-k-preserved g c =
    let d = (goal.at.loop-k-preserved g c).After-sought_word-word in
    let m = sought_in g.row.BIT (g.T.TableSource.lists c.args.source.now).words in
    let i = c.loop-k.invariant in
    let e = c.sought_word-word.ensures in
    let v = slice_index c.loop-k.counts c.loop-k.k + count_ones c.sought_word-word.result in
    record {
      len = length-set c.loop-k.counts (c.loop-k.k + 1) v ∙ i.len;
      counts = counted_more m c.args.first c.loop-k.k v c.loop-k.counts (omega (arith, i.len, c.loop-k-test.true)) i.counts (more g d);
      words = omega (arith, ap (λ (r : ReadCounts). r.words) e.counted, i.words);
      upper = ap (λ (r : ReadCounts). r.upper) e.counted ∙ i.upper;
      lower = ap (λ (r : ReadCounts). r.lower) e.counted ∙ i.lower;
      same = e.same ∙ i.same;
    }
