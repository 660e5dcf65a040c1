-- Each word before the end adds its ones.
use Rattle.std.proofs.Common.{◌≡◌, ℕ, ◌+◌, ◌*◌, refl, rules, ap, subst, ◌∙◌, arith}
use Rattle.bit_lists.specs.Bits.{bits_of}
use Rattle.bit_lists.specs.Count.{ones_before}
use Rattle.bitm_tables.specs.Tables.{Lists}
use Rattle.bitm_tables.specs.declared.source.counts.ReadCounts.{ReadCounts}
use Rattle.bitm_tables.proofs.lemmas.StretchLemmas.{word_more}
use Rattle.bitm_select.proofs.many.ranks.tested_ones.Goals as goal

pub loop-k-init : goal.loop-k-init
loop-k-init g c =
    let lists = g.T.TableSource.lists c.args.source.now in
    record {
      order = omega (arith, c.if-len-eq0.false);
      ones = word_more lists.words c.args.first c.args.word (omega (arith, c.requires.inside)) c.ranges.word.fits c.requires.word;
      few = search rules;
      words = refl;
      upper = refl;
      lower = refl;
      same = refl;
    }

pub loop-k-preserved : goal.loop-k-preserved
loop-k-preserved g c =
    let b = bits_of (g.T.TableSource.lists c.args.source.now).words in
    let e = c.ones_of_word-ones.ensures in
    let i = c.loop-k.invariant in
    let k = c.loop-k.k in
    let next : c.args.first + k + 1 ≡ c.args.first + (k + 1) = omega arith in
    let more =
    subst (λ (l : Lists). ones_before (bits_of l.words) (64 * (c.args.first + k)) + c.ones_of_word-ones.result ≡ ones_before (bits_of l.words) (64 * (c.args.first + k + 1)))
    i.same e.count in
    record {
      order = omega (arith, i.order, c.if-k-len.false);
      ones = omega (arith, i.ones, more, ap (λ (n : ℕ). ones_before b (64 * n)) next);
      few = omega (arith, i.few, e.few);
      words = omega (arith, ap (λ (r : ReadCounts). r.words) e.counted, i.words);
      upper = ap (λ (r : ReadCounts). r.upper) e.counted ∙ i.upper;
      lower = ap (λ (r : ReadCounts). r.lower) e.counted ∙ i.lower;
      same = e.same ∙ i.same;
    }
