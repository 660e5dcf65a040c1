-- The parts follow one another: each has its upper entry, its lower entries and its ones.
use Rattle.std.proofs.Common.{◌≡◌, ◌+◌, ◌*◌, ◌^◌, [], ◌∷◌, ◌++◌, length, map, min, sym, ap, ap₂, ◌∙◌, arith}
use Rattle.std.specs.Int.{div_ceil}
use Rattle.std.specs.List.{range_with_len}
use Rattle.std.proofs.lemmas.List.FromFn.{map-range_with_len_more}
use Rattle.bit_lists.proofs.lemmas.BitsLemmas.{length-bits_of}
use Rattle.bit_lists.proofs.lemmas.CountLemmas.{ones_before_none, ones_before_past, few_ones, ones_before-at_most_all}
use Rattle.bit_lists.specs.Bits.{bits_of}
use Rattle.bit_lists.specs.Count.{ones_before}
use Rattle.bitm_tables.specs.Entry.{lower_entry}
use Rattle.bitm_tables.specs.Tables.{upper_of, lower_of}
use Rattle.bitm_tables.proofs.lemmas.TableMakingLemmas.{part_counted, part_begun, all_parts, all_entries_made, parts_of_words, entries_of_words}
use Rattle.bitm_tables.proofs.tables.make.Goals as goal

pub loop-part-init : goal.loop-part-init
loop-part-init c =
    let none : min (div_ceil (length c.args.words.now) 32) 0 ≡ 0 = omega arith in
    record {
      upper = c.in_ok-l1ranks.ensures.items;
      lower = c.in_ok-l2ranks.ensures.items ∙ ap (λ n. map (lower_entry (bits_of c.args.words.now)) (range_with_len 0 n)) (sym none);
      ones = sym (ones_before_none (bits_of c.args.words.now));
    }

pub push_entries-requires-clause-begun : goal.push_entries-requires-clause-begun
push_entries-requires-clause-begun c = part_counted (length c.args.words.now) c.loop-part.part (omega arith)

pub push_entries-requires-clause-so_far : goal.push_entries-requires-clause-so_far
push_entries-requires-clause-so_far c =
    let begun = part_counted (length c.args.words.now) c.loop-part.part (omega arith) in
    let all : min (div_ceil (length c.args.words.now) 32) (c.loop-part.part * 2 ^ 21) ≡ c.loop-part.part * 2 ^ 21 =
    omega (arith, part_begun (length c.args.words.now) c.loop-part.part begun) in
    c.loop-part.invariant.lower ∙ ap (λ n. map (lower_entry (bits_of c.args.words.now)) (range_with_len 0 n)) all

pub overflow_add-ones : goal.overflow_add-ones
overflow_add-ones c =
    let most = ones_before-at_most_all (bits_of c.args.words.now) ((c.loop-part.part + 1) * 2 ^ 32) in
    omega (arith, c.loop-part.invariant.ones, c.in_ok-ones.ensures.ones, most, few_ones c.args.words.now, c.requires)

pub loop-part-preserved : goal.loop-part-preserved
loop-part-preserved c =
    let b = bits_of c.args.words.now in
    record {
      upper =
          c.in_ok-push.ensures.items
          ∙ ap₂ (λ xs x. xs ++ x ∷ []) c.loop-part.invariant.upper c.loop-part.invariant.ones
          ∙ sym (map-range_with_len_more (λ k. ones_before b (k * 2 ^ 32)) 0 c.loop-part.part c.loop-part.part (omega arith));
      lower = c.in_ok-ones.ensures.entries;
      ones = ap (λ n. n + c.in_ok-ones.field-0) c.loop-part.invariant.ones ∙ c.in_ok-ones.ensures.ones;
    }

pub returns-clause-tables : goal.returns-clause-tables
unfolding upper_of lower_of
returns-clause-tables c =
    let b = bits_of c.args.words.now in
    let n = length c.args.words.now in
    let parts : c.loop-part.part ≡ div_ceil (length b) (2 ^ 32) =
    omega (arith, c.div_ceil-parts.ensures, parts_of_words n, ap (λ k. div_ceil k (2 ^ 32)) (length-bits_of c.args.words.now)) in
    let ended : c.loop-part.part ≡ div_ceil n (2 ^ 26) = omega (arith, c.div_ceil-parts.ensures) in
    let entries : min (div_ceil n 32) (c.loop-part.part * 2 ^ 21) ≡ div_ceil (length b) 2048 =
    omega (arith, all_entries_made n c.loop-part.part ended, entries_of_words n, ap (λ k. div_ceil k 2048) (length-bits_of c.args.words.now)) in
    record {
      upper_is =
          c.into_boxed_slice.ensures.items
          ∙ c.loop-part.invariant.upper
          ∙ ap (λ k. map (λ j. ones_before b (j * 2 ^ 32)) (range_with_len 0 k)) parts;
      lower_is =
          c.into_boxed_slice-2.ensures.items ∙ c.loop-part.invariant.lower ∙ ap (λ k. map (lower_entry b) (range_with_len 0 k)) entries;
    }

pub returns-clause-ones : goal.returns-clause-ones
returns-clause-ones c =
    let b = bits_of c.args.words.now in
    let past = all_parts (length c.args.words.now) c.loop-part.part (omega (arith, c.div_ceil-parts.ensures)) in
    c.loop-part.invariant.ones ∙ ones_before_past b (c.loop-part.part * 2 ^ 32) (omega (arith, past, length-bits_of c.args.words.now))
