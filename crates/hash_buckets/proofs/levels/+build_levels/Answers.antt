-- The first level is made, and then those after it.
use Rattle.std.proofs.Common.{rules, ◌≡◌, ◌+◌, ◌++◌, List, take, drop, length, sym, subst, arith}
use Rattle.std.proofs.lemmas.List.{length-append, length-drop, length-take}
use Rattle.bit_lists.specs.Bits.{bits_of}
use Rattle.hash_buckets.specs.declared.positions.Level.{Level}
use Rattle.hash_buckets.specs.Seeds.{AddsBits}
use Rattle.hash_buckets.specs.Building.{count_left, slots_at, AreMade}
use Rattle.hash_buckets.proofs.lemmas.LevelsLemmas.{left-more, left-none, levels-are, made-more, marks-more, marks-none}
use Rattle.hash_buckets.proofs.levels.+build_levels.Goals as goal

pub returns-then-keys-eq0-clause-marks : goal.returns-then-keys-eq0-clause-marks
returns-then-keys-eq0-clause-marks t c = marks-none c.args.seeds.now c.args.first c.args.hashes.now (bits_of c.args.used.now)

pub returns-then-keys-eq0-clause-left : goal.returns-then-keys-eq0-clause-left
returns-then-keys-eq0-clause-left t c = left-none c.args.seeds.now c.args.first c.args.hashes.now

pub returns-then-not-has_room-clause-marks : goal.returns-then-not-has_room-clause-marks
returns-then-not-has_room-clause-marks t c = marks-none c.args.seeds.now c.args.first c.args.hashes.now (bits_of c.args.used.now)

pub returns-then-not-has_room-clause-left : goal.returns-then-not-has_room-clause-left
returns-then-not-has_room-clause-left t c = left-none c.args.seeds.now c.args.first c.args.hashes.now

pub build_levels-rest-requires : goal.build_levels-rest-requires
build_levels-rest-requires t c =
    let room = c.has_room.ensures.0 c.if-not-has_room.false in (
      omega (arith, c.split_at_mut-head.ensures.back_len),
      (
        omega (arith, room.within),
        (
          omega (arith, c.requires.limit, c.place_level-left.auto.used),
          (
            omega (arith, c.requires.short, c.place_level-left.auto.used),
            omega (
              arith,
              length-take c.place_level-left.result c.place_level-left.new.hashes,
              length-append c.place_level-left.new.sorted (drop (length c.args.hashes.now) c.args.sorted.now),
              length-drop (length c.args.hashes.now) c.args.sorted.now,
              length-take (length c.args.hashes.now) c.args.sorted.now,
              c.place_level-left.auto.sorted,
              c.place_level-left.ensures.few,
              c.requires.room,
            ),
          ),
        ),
      ),
    )

pub returns-clause-levels : goal.returns-clause-levels
returns-clause-levels t c =
    let rest = c.build_levels-rest in
    let P : List Level → Type 0 = λ levels. AreMade (record { levels = rest.result.levels + 1; seeds = rest.result.seeds + c.level_for-level.result.buckets; slots = rest.result.slots; left = rest.result.left }) c.args.first c.args.limit levels in
    subst P (sym (levels-are c.split_at_mut-head.result.0.now rest.new.levels c.level_for-level.result rest.result.levels c.split_at_mut-head.ensures.front_len))
    (made-more rest.result c.level_for-level.result (take rest.result.levels rest.new.levels) c.args.first c.args.limit c.level_for-level.ensures.level rest.ensures.levels)

pub returns-clause-marks : goal.returns-clause-marks
returns-clause-marks t c =
    let rest = c.build_levels-rest in
    let level = c.level_for-level.result in
    let hashes = c.args.hashes.now in
    let own = c.place_level-left.new.seeds in
    let P : List Level → Type 0 = λ levels. AddsBits (bits_of c.args.used.now) (slots_at levels (own ++ rest.new.seeds) c.args.first hashes) (bits_of rest.new.used) in
    subst P (sym (levels-are c.split_at_mut-head.result.0.now rest.new.levels level rest.result.levels c.split_at_mut-head.ensures.front_len))
    (marks-more level (take rest.result.levels rest.new.levels) own rest.new.seeds c.args.first hashes (take c.place_level-left.result c.place_level-left.new.hashes)
    (bits_of c.args.used.now) (bits_of c.place_level-left.new.used) (bits_of rest.new.used)
    (omega (arith, c.place_level-left.auto.seeds, c.split_at_mut-own.ensures.front_len)) c.level_for-level.ensures.level.buckets (search rules)
    c.place_level-left.ensures.left c.place_level-left.ensures.marks rest.ensures.marks)

pub returns-clause-left : goal.returns-clause-left
returns-clause-left t c =
    let rest = c.build_levels-rest in
    let level = c.level_for-level.result in
    let hashes = c.args.hashes.now in
    let own = c.place_level-left.new.seeds in
    let P : List Level → Type 0 = λ levels. rest.result.left ≡ count_left levels (own ++ rest.new.seeds) c.args.first hashes in
    subst P (sym (levels-are c.split_at_mut-head.result.0.now rest.new.levels level rest.result.levels c.split_at_mut-head.ensures.front_len))
    (left-more level (take rest.result.levels rest.new.levels) own rest.new.seeds c.args.first hashes (take c.place_level-left.result c.place_level-left.new.hashes) rest.result.left
    (omega (arith, c.place_level-left.auto.seeds, c.split_at_mut-own.ensures.front_len)) c.level_for-level.ensures.level.buckets (search rules)
    c.place_level-left.ensures.left rest.ensures.left)
