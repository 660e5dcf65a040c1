-- The summary is that of the tables, with the rank of all bits as the number of ones.
use Rattle.std.proofs.Common.{◌≡◌, ℕ, ◌*◌, ◌^◌, ◌≤◌, length, take, ap, subst, sym, ◌∙◌, arith}
use Rattle.bit_lists.proofs.lemmas.BitsLemmas.{length-bits_of}
use Rattle.bit_lists.specs.Count.{as_bit, ones_before}
use Rattle.bitm_strategies.specs.Density.{clamped_log}
use Rattle.bitm_tables.specs.Tables.{AreTablesOf, Lists, bits_in}
use Rattle.tables_view.specs.Samples.{AreSamples}
use Rattle.tables_view.proofs.SamplingLemmas.{room_for}
use Rattle.tables_view.proofs.view.TablesView.build_samples.Goals as goal
use Rattle.tables_view.proofs.view.TablesView.build_samples.Goals.{After-claimed_ones}

long : (g : _) (c : After-claimed_ones g) → length (bits_in c.args.self.now) ≡ length c.self.inside.words.now * 64
long g c = omega (arith, length-bits_of c.args.self.now.words, ap (λ (l : Lists). length l.words) c.self.view_is)

pub returns-in_default-clause-room : goal.returns-in_default-clause-room
returns-in_default-clause-room g c = λ _.
    absurd (omega (arith, c.in_default.ensures.inside, long g (goal.at.returns-in_default-clause-room g c).After-claimed_ones))

pub fill_all-requires-clause-room : goal.fill_all-requires-clause-room
fill_all-requires-clause-room g c =
    let value = c.clamped_log-log2.ensures.value in
    subst (λ (d : ℕ). length c.self.inside.words.now * 64 ≤ length c.args.samples.now * 2 ^ d) (sym value)
    (room_for (length c.self.inside.words.now) (length c.args.samples.now) (clamped_log c.args.log2)
    (omega (arith, value, c.clamped_log-log2.ensures.low)) (omega (arith, c.samples_len.ensures, c.if-samples-samples_len.false)))

pub returns-clause-made : goal.returns-clause-made
returns-clause-made g c = λ t.
    let b = bits_in c.args.self.now in
    let l = long g (goal.at.returns-clause-made g c).After-claimed_ones in
    let r = c.in-Some.ensures.answer t in
    let tables : AreTablesOf b c.self.inside.upper.now c.self.inside.lower.now =
    subst (λ (x : Lists). AreTablesOf b x.upper x.lower) (sym c.self.view_is) t in
    subst (λ (d : ℕ). AreSamples b (as_bit g.row.BIT) d (take c.fill_all.result c.fill_all.new.samples) c.fill_all.new.starts)
    c.clamped_log-log2.ensures.value
    (c.fill_all.ensures.made b (record { tables = tables; ones_are = r.1 ∙ ap (ones_before b) (sym l); bits_are = sym l }))
