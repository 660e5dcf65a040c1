-- Each entry begins where the one before it ends, and the last one ends with the part or with the words.
use Rattle.std.proofs.Common.{◌≡◌, ◌+◌, ◌*◌, ◌^◌, [], ◌∷◌, ◌++◌, length, map, min, sym, ap, ap₂, ◌∙◌, arith}
use Rattle.std.specs.Int.{div_ceil}
use Rattle.std.specs.List.{range_with_len}
use Rattle.std.proofs.lemmas.List.FromFn.{map-range_with_len_more}
use Rattle.bit_lists.proofs.lemmas.CountLemmas.{few_ones, ones_before-at_most_all}
use Rattle.bit_lists.specs.Bits.{bits_of}
use Rattle.bit_lists.specs.Count.{ones_before}
use Rattle.bitm_tables.specs.Entry.{lower_entry}
use Rattle.bitm_tables.proofs.lemmas.TableMakingLemmas.{counted_in_part, entry_begun, part_ended, part_begun}
use Rattle.bitm_tables.proofs.tables.push_entries.Goals as goal

pub loop-at-init : goal.loop-at-init
loop-at-init c =
    let b = bits_of c.args.words.now in
    let e : c.args.part * 2 ^ 32 ≡ 2048 * (c.args.part * 2 ^ 21) = omega arith in
    record { entries = c.requires.so_far; ones = omega (arith, ap (ones_before b) e) }

pub make_entry-entry-requires-clause-begun : goal.make_entry-entry-requires-clause-begun
make_entry-entry-requires-clause-begun c = entry_begun (length c.args.words.now) c.loop-at.at (omega arith)

pub make_entry-entry-requires-clause-before : goal.make_entry-entry-requires-clause-before
make_entry-entry-requires-clause-before c =
    counted_in_part (bits_of c.args.words.now) c.args.part c.loop-at.at c.loop-at.in_part (omega arith) (omega arith) c.loop-at.invariant.ones

pub overflow_add-in_part : goal.overflow_add-in_part
overflow_add-in_part c =
    let most = ones_before-at_most_all (bits_of c.args.words.now) (2048 * (c.loop-at.at + 1)) in
    omega (arith, c.loop-at.invariant.ones, c.make_entry-entry.ensures.ones, most, few_ones c.args.words.now, c.requires.short)

pub loop-at-preserved : goal.loop-at-preserved
loop-at-preserved c =
    let b = bits_of c.args.words.now in
    record {
      entries =
          c.in_ok-push.ensures.items
          ∙ ap₂ (λ xs x. xs ++ x ∷ []) c.loop-at.invariant.entries c.make_entry-entry.ensures.entry
          ∙ sym (map-range_with_len_more (lower_entry b) 0 c.loop-at.at c.loop-at.at (omega arith));
      ones = omega (arith, c.loop-at.invariant.ones, c.make_entry-entry.ensures.ones);
    }

pub returns-clause-entries : goal.returns-clause-entries
returns-clause-entries c =
    let ended : c.loop-at.at ≡ min (div_ceil (length c.args.words.now) 32) ((c.args.part + 1) * 2 ^ 21) =
    omega (arith, part_begun (length c.args.words.now) c.args.part c.requires.begun) in
    c.loop-at.invariant.entries ∙ ap (λ n. map (lower_entry (bits_of c.args.words.now)) (range_with_len 0 n)) ended

pub returns-clause-ones : goal.returns-clause-ones
returns-clause-ones c =
    let ended : c.loop-at.at ≡ min (div_ceil (length c.args.words.now) 32) ((c.args.part + 1) * 2 ^ 21) =
    omega (arith, part_begun (length c.args.words.now) c.args.part c.requires.begun) in
    c.loop-at.invariant.ones ∙ part_ended c.args.words.now c.args.part c.loop-at.at ended
