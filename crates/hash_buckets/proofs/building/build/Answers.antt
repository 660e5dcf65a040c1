-- Each hash has a slot of its own, and each used slot a number.
use Rattle.std.proofs.Common.{◌≡◌, ◌-◌, ◌++◌, ℕ, List, take, drop, length, sym, ap, ◌∙◌, subst, arith}
use Rattle.std.proofs.Math.Seq.{take-append_seam}
use Rattle.std.proofs.lemmas.List.{length-take, take-append-le}
use Rattle.bit_lists.specs.Bits.{bits_of}
use Rattle.hash_buckets.specs.declared.positions.Level.{Level}
use Rattle.hash_buckets.specs.declared.levels.Made.{Made}
use Rattle.hash_buckets.specs.Building.{AreEqualAt, AreLeft, IsBuilt}
use Rattle.hash_buckets.proofs.lemmas.BuiltLemmas.{built, few_ones, left_so, left_claimed}
use Rattle.hash_buckets.proofs.building.build.Goals as goal

pub write_free-requires-clause-few : goal.write_free-requires-clause-few
write_free-requires-clause-few c =
    let made = c.build_levels-made in
    few_ones (take made.result.levels made.new.levels) made.new.seeds c.args.hashes.now c.copy_from_slice.new.self (bits_of c.clear_bits.new.words) (bits_of made.new.used)
    c.copy_from_slice.ensures.after c.clear_bits.ensures.zeros made.ensures.marks

pub returns-clause-built : goal.returns-clause-built
returns-clause-built c =
    let made = c.build_levels-made in
    let hashes = c.args.hashes.now in
    let free = c.write_free.new.free in
    let n = made.result.slots - length hashes in
    let levels_are : take made.result.levels (made.new.levels ++ drop c.min-most.result c.args.levels.now) ≡ take made.result.levels made.new.levels =
    take-append-le made.result.levels made.new.levels (drop c.min-most.result c.args.levels.now) (omega (arith, made.ensures.made.few, made.auto.levels)) in
    let long : length free ≡ n = omega (arith, c.write_free.auto.free, length-take n c.args.free.now, made.ensures.levels.within, c.min-limit.ensures) in
    let free_is : take n (free ++ drop n c.args.free.now) ≡ free =
    ap (λ (m : ℕ). take m (free ++ drop n c.args.free.now)) (sym long) ∙ take-append_seam free (drop n c.args.free.now) in
    let P : List Level → Type 0 = λ levels. IsBuilt hashes (record { levels = levels; seeds = take made.result.seeds made.new.seeds; free = take n (free ++ drop n c.args.free.now); keys = length hashes }) in
    let Q : List ℕ → Type 0 = λ slots. IsBuilt hashes (record { levels = take made.result.levels made.new.levels; seeds = take made.result.seeds made.new.seeds; free = slots; keys = length hashes }) in
    subst P (sym levels_are)
    (subst Q (sym free_is)
    (built made.result (take made.result.levels made.new.levels) made.new.seeds free hashes c.copy_from_slice.new.self (bits_of c.clear_bits.new.words) (bits_of made.new.used) c.min-limit.result
    made.ensures.levels (omega (arith, c.min-limit.ensures, c.clear_bits.ensures.len, c.requires.short)) (omega (arith, made.ensures.made.seeded, made.auto.seeds))
    c.copy_from_slice.ensures.after c.clear_bits.ensures.zeros made.ensures.marks made.ensures.left c.if-made-ne0.false c.type_inv.hashes (omega (arith, c.if-keys-eq0.false))
    c.write_free.ensures long))

pub returns-then-made-ne0-clause-left : goal.returns-then-made-ne0-clause-left
returns-then-made-ne0-clause-left c =
    let made = c.build_levels-made in
    let hashes = c.args.hashes.now in
    let levels_are : take made.result.levels (made.new.levels ++ drop c.min-most.result c.args.levels.now) ≡ take made.result.levels made.new.levels =
    take-append-le made.result.levels made.new.levels (drop c.min-most.result c.args.levels.now) (omega (arith, made.ensures.made.few, made.auto.levels)) in
    let P : Made → Type 0 = λ other. AreLeft other (take other.levels (made.new.levels ++ drop c.min-most.result c.args.levels.now)) made.new.seeds hashes in
    let Q : List Level → Type 0 = λ levels. AreLeft made.result levels made.new.seeds hashes in
    left_claimed c.refusal.result made.result P (AreEqualAt hashes) c.refusal.ensures
    (subst Q (sym levels_are)
    (left_so made.result (take made.result.levels made.new.levels) made.new.seeds hashes c.copy_from_slice.new.self c.min-limit.result
    made.ensures.levels c.copy_from_slice.ensures.after made.ensures.left))
