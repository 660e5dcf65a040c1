-- The parts are those of the numbers.
use Rattle.std.proofs.Common.{◌≡◌, ℕ, List, ap, sym, ◌∙◌, subst, arith}
use Rattle.bit_lists.specs.Bits.{digit_count}
use Rattle.elias_fano.proofs.lemmas.HintLemmas.{none_lead}
use Rattle.elias_fano.specs.SequenceParts.{parts_with, Holds}
use Rattle.elias_fano.specs.Low.{sharing, Lows}
use Rattle.elias_fano.specs.Parts.{IsLow, IsUpper}
use Rattle.postings.proofs.sequence.Seeker.of.Goals as goal
use Rattle.postings.proofs.sequence.Seeker.of.Goals.{After-start}

holds : (g : _) (c : After-start g) → Holds c.args.list.now.items (parts_with c.len.result c.new-low.result c.probe-source.result.lists)
holds g c =
    let xs = c.args.list.now.items in
    let width = sym c.low_width.ensures in
    let P : Lows → Type 0 = λ low. Holds xs (parts_with c.len.result low c.probe-source.result.lists) in
    subst P (sym c.new-low.ensures)
    record {
      are = record {
        sequence = c.numbers_rise.ensures;
        count = c.len.ensures.count;
        width = c.low_width.ensures;
        low_is = subst (λ (l : ℕ). IsLow xs l c.low_words.result.now) width c.low_words.ensures;
        upper_is = subst (λ (l : ℕ). IsUpper xs l c.probe-source.result.lists.words) width c.probe-source.ensures.words;
      };
      tables = c.probe-source.ensures.tables;
      lead = none_lead _ _;
    }

pub returns-clause-left : goal.returns-clause-left
returns-clause-left g c = c.start.ensures.left c.args.list.now.items (holds g (goal.at.returns-clause-left g c).After-start)

pub returns-clause-fragments : goal.returns-clause-fragments
returns-clause-fragments g c =
    let h = holds g (goal.at.returns-clause-fragments g c).After-start in
    let xs = c.args.list.now.items in
    let items : c.start.result.items ≡ xs = c.start.ensures.items xs h in
    let few = c.start.ensures.fragments xs h in
    let is : digit_count (sharing xs c.new-low.result.width 0) ≡ digit_count (sharing c.start.result.items c.start.result.width 0) =
    ap (λ (ys : List ℕ). digit_count (sharing ys c.new-low.result.width 0)) (sym items)
    ∙ ap (λ (w : ℕ). digit_count (sharing c.start.result.items w 0)) (sym c.start.ensures.width) in
    omega (arith, few, is, ap (λ (low : Lows). low.read) c.new-low.ensures)
