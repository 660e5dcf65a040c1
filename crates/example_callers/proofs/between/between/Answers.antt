-- The parts of a sequence hold its numbers.
use Rattle.std.proofs.Common.{ℕ, sym, subst}
use Rattle.elias_fano.proofs.lemmas.HintLemmas.{none_lead}
use Rattle.elias_fano.specs.Parts.{IsLow, IsUpper}
use Rattle.example_callers.proofs.between.between.Goals as goal

pub indexes_between-requires : goal.indexes_between-requires
indexes_between-requires g c =
    let xs = c.args.sequence.now.items in
    let width = sym c.low_width-width.ensures in (
      xs,
      record {
        are = record {
          sequence = c.numbers_rise.ensures;
          count = c.len-n.ensures.count;
          width = c.low_width-width.ensures;
          low_is = subst (λ (l : ℕ). IsLow xs l c.low_words-low.result.now) width c.low_words-low.ensures;
          upper_is = subst (λ (l : ℕ). IsUpper xs l c.probe.result.lists.words) width c.probe.ensures.words;
        };
        tables = c.probe.ensures.tables;
        lead = none_lead _ _;
      },
    )
