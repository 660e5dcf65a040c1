-- Each level sends the look-up on, or says the slot.
use Rattle.std.proofs.Common.{◌≡◌, rules, true, false, get_or, sym, ◌∙◌, arith}
use Rattle.std.proofs.lemmas.List.Elements.{All-get_or}
use Rattle.hash_buckets.specs.Positions.{IsBucketLevel}
use Rattle.hash_buckets.proofs.lemmas.SlotLemmas.{none_at, found_by, goes_by, level_fits, none_left, slot_inside, slots_fit, starts}
use Rattle.hash_buckets.proofs.asking.slot_on.Goals as goal

pub loop-level-init : goal.loop-level-init
loop-level-init c = record {
  on = starts c.args.levels.now c.args.seeds.now c.args.hash;
  reads = search rules;
}

pub overflow_sub-seeds : goal.overflow_sub-seeds
overflow_sub-seeds c = c.loop-level.invariant.on.inside

pub fits-requires : goal.fits-requires
fits-requires c = c.loop-level.invariant.on.short

pub returns-then-not-fits-clause-wrong : goal.returns-then-not-fits-clause-wrong
returns-then-not-fits-clause-wrong c are =
    let l = c.loop-level in
    let levels = c.args.levels.now in
    let seeds = c.args.seeds.now in
    let level : IsBucketLevel (get_or levels l.level-index none_at) = All-get_or IsBucketLevel levels l.level-index none_at c.loop-level-test.true are.each in
    let seeded = level_fits levels seeds c.args.hash l.level-index l.begin l.first l.here l.invariant.on c.loop-level-test.true are in
    let short = slots_fit levels seeds c.args.hash l.level-index l.begin l.first l.here l.invariant.on c.loop-level-test.true are in
    false_true (sym c.if-not-fits.true ∙ c.fits.ensures.1 (level, omega (arith, seeded), short))
  where
    false_true : false ≡ true → ⊥
    false_true h = cc

pub returns-then-not-fits-clause-reads : goal.returns-then-not-fits-clause-reads
returns-then-not-fits-clause-reads c = grind (arith, c.loop-level.invariant.reads, c.loop-level-test.true)

pub returns-then-seed-ne0-clause-found : goal.returns-then-seed-ne0-clause-found
returns-then-seed-ne0-clause-found c =
    let l = c.loop-level in
    found_by c.args.levels.now c.args.seeds.now c.args.hash l.level-index l.begin l.first l.here c.bucket_in.result c.slot_in.result
    l.invariant.on c.loop-level-test.true c.bucket_in.ensures.at c.if-seed-ne0.true c.slot_in.ensures.at

pub returns-then-seed-ne0-clause-reads : goal.returns-then-seed-ne0-clause-reads
returns-then-seed-ne0-clause-reads c = grind (arith, c.loop-level.invariant.reads, c.loop-level-test.true, c.read_word.ensures)

pub loop-level-preserved : goal.loop-level-preserved
loop-level-preserved c =
    let l = c.loop-level in
    let fit = c.fits.ensures.0 c.if-not-fits.false in
    record {
      on = goes_by c.args.levels.now c.args.seeds.now c.args.hash l.level-index l.begin l.first l.here c.bucket_in.result c.next_hash-here.result
          l.invariant.on c.loop-level-test.true c.bucket_in.ensures.at c.if-seed-ne0.false c.next_hash-here.ensures
          (omega (arith, fit.1, l.invariant.on.inside)) (omega (arith, fit.2));
      reads = grind (arith, l.invariant.reads, c.read_word.ensures);
    }

pub returns-clause-none : goal.returns-clause-none
returns-clause-none c =
    let l = c.loop-level in
    none_left c.args.levels.now c.args.seeds.now c.args.hash l.level-index l.begin l.first l.here l.invariant.on c.loop-level-test.false

pub returns-clause-reads : goal.returns-clause-reads
returns-clause-reads c = grind (arith, c.loop-level.invariant.reads, c.loop-level.auto.level-index-end)

pub returns-then-seed-ne0-clause-inside : goal.returns-then-seed-ne0-clause-inside
returns-then-seed-ne0-clause-inside c =
    let l = c.loop-level in
    slot_inside c.args.levels.now c.args.seeds.now c.args.hash l.level-index l.begin l.first l.here c.slot_in.result
    l.invariant.on c.loop-level-test.true c.slot_in.ensures.inside
