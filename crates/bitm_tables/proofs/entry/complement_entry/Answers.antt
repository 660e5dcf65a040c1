-- Where the fields fit nothing wraps, and the difference is the greatest number less the entry: the entry of the negated
-- bits.
use Rattle.std.proofs.Common.{◌≡◌, ◌-◌, ap, ◌∙◌, subst, sym, arith}
use Rattle.bitm_tables.specs.Entry.{FieldsFit, IsEntryOf, greatest_entry, lower_entry, negation, padded_bits, field_0}
use Rattle.bitm_tables.proofs.lemmas.EntryLemmas.{entry-complement, entry-fits, zeros-complement}
use Rattle.bitm_tables.proofs.entry.complement_entry.Goals as goal

pub returns-clause-value : goal.returns-clause-value
returns-clause-value c = λ fit. omega (arith, fit.before, fit.one, fit.two, fit.three)

pub returns-clause-fields : goal.returns-clause-fields
returns-clause-fields c =
    λ fit.
    record {
      before = omega (arith, fit.before, fit.one, fit.two, fit.three);
      one = omega (arith, fit.before, fit.one, fit.two, fit.three);
      two = omega (arith, fit.before, fit.one, fit.two, fit.three);
      three = omega (arith, fit.before, fit.one, fit.two, fit.three);
    }

pub returns-clause-negation : goal.returns-clause-negation
returns-clause-negation c b e =
    let fit = subst (λ n. FieldsFit n c.args.at) (sym e.value) (entry-fits b c.args.at) in
    returns-clause-value c fit ∙ ap (λ n. greatest_entry c.args.at - n) e.value ∙ entry-complement b c.args.at e.inside

pub returns-clause-zeros : goal.returns-clause-zeros
returns-clause-zeros c b e = ap field_0 (returns-clause-negation c b e) ∙ zeros-complement b c.args.at e.inside
