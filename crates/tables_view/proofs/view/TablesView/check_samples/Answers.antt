-- The summary is that of the tables, with the rank of all bits as the number of ones.
use Rattle.std.proofs.Common.{rules, ◌≡◌, ℕ, ◌*◌, List, ◌↔◌, IsTrue, length, ap, subst, sym, ◌∙◌, arith}
use Rattle.bit_lists.proofs.lemmas.BitsLemmas.{length-bits_of}
use Rattle.bit_lists.specs.Count.{as_bit, ones_before}
use Rattle.bitm_strategies.specs.Density.{clamped_log}
use Rattle.bitm_tables.proofs.lemmas.TableLemmas.{entries}
use Rattle.bitm_tables.specs.Tables.{AreTablesOf, Lists, bits_in}
use Rattle.bitm_strategies.proofs.lemmas.SampleLemmas.{length-starts}
use Rattle.tables_view.specs.Samples.{AreSamples}
use Rattle.tables_view.proofs.view.TablesView.check_samples.Goals as goal
use Rattle.tables_view.proofs.view.TablesView.check_samples.Goals.{After-claimed_ones}

long : (g : _) (c : After-claimed_ones g) → length (bits_in c.args.self.now) ≡ length c.self.inside.words.now * 64
long g c = omega (arith, length-bits_of c.args.self.now.words, ap (λ (l : Lists). length l.words) c.self.view_is)

pub returns-then-samples-self : goal.returns-then-samples-self
returns-then-samples-self g c = λ t. (
  search rules,
  λ s.
      let b = bits_in c.args.self.now in
      absurd (
      c.if-samples-self.true
      (omega (
        arith,
        ap (λ (xs : List ℕ). length xs) s.starts_are,
        length-starts b (as_bit g.row.BIT) (clamped_log c.args.samples.now.log2),
        (entries b _ _ t).upper_length,
        ap (λ (l : Lists). length l.upper) c.self.view_is,
      ))
      ),
)

pub returns-in_default : goal.returns-in_default
returns-in_default g c = λ _.
    absurd (omega (arith, c.in_default.ensures.inside, long g (goal.at.returns-in_default g c).After-claimed_ones))

pub returns : goal.returns
returns g c = λ t.
    let b = bits_in c.args.self.now in
    let l = long g (goal.at.returns g c).After-claimed_ones in
    let r = c.in-Some.ensures.answer t in
    let tables : AreTablesOf b c.self.inside.upper.now c.self.inside.lower.now =
    subst (λ (x : Lists). AreTablesOf b x.upper x.lower) (sym c.self.view_is) t in
    subst (λ (d : ℕ). IsTrue c.are_samples.result ↔ AreSamples b (as_bit g.row.BIT) d c.args.samples.now.samples.now c.args.samples.now.starts.now)
    c.clamped_log-log2.ensures.value
    (c.are_samples.ensures b (record { tables = tables; ones_are = r.1 ∙ ap (ones_before b) (sym l); bits_are = sym l }))
