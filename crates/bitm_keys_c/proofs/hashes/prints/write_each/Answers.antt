-- One more key; before the first none has a fingerprint.
use Rattle.std.proofs.Common.{◌≡◌, ◌∙◌, IsTrue, length, refl, subst, arith}
use Rattle.bitm_tables.specs.declared.answer.Answer.TheVariants.{Absent}
use Rattle.bitm_keys_c.specs.Prints.{AreSet}
use Rattle.bitm_keys_c.proofs.PrintLemmas.{set_more}
use Rattle.bitm_keys_c.proofs.hashes.prints.write_each.Goals as goal

pub loop-at-init : goal.loop-at-init
loop-at-init c = record {
  long = refl;
  set = record {
    answer = λ _. Absent;
    hashed = λ j less. absurd (omega (arith, less));
    written = λ j n less. absurd (omega (arith, less));
    kept = λ n none room. refl;
    room = (λ _ j less. absurd (omega (arith, less)), λ _. refl);
  };
}

pub loop-at-preserved : goal.loop-at-preserved
loop-at-preserved c =
    let i = c.loop-at.invariant in
    record {
      long = c.write_print-all.ensures.len ∙ i.long;
      set = set_more c.args.hash.now c.args.key_hashes.now c.args.key_prints.now c.args.prints.now c.loop-at.prints c.write_print-all.new.prints c.args.width
          c.loop-at.at c.loop-at.all c.write_print-all.result i.long i.set c.write_print-all.ensures.print;
    }

pub returns-clause-set : goal.returns-clause-set
returns-clause-set c =
    let all : c.loop-at.at ≡ length c.args.key_hashes.now = omega (arith, c.loop-at-test.false, c.loop-at.auto.at-end) in
    subst (λ m. AreSet c.args.hash.now c.args.key_hashes.now c.args.key_prints.now c.args.prints.now c.loop-at.prints c.args.width m (IsTrue c.loop-at.all))
    all c.loop-at.invariant.set
