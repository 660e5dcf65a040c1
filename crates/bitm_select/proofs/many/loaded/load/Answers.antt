-- The record is chosen by the fields of the entry; what is left of the rank counts from there.
use Rattle.std.proofs.Common.{◌≡◌, ℕ, ◌+◌, ◌-◌, ◌*◌, ◌%◌, ◌^◌, ◌<◌, ◌≤◌, length, ap, refl, sym, subst, arith}
use Rattle.bit_lists.specs.Count.{as_bit, ones_before}
use Rattle.bitm_tables.specs.Entry.{before_in_part}
use Rattle.bitm_select.specs.Search.{IsWord, sought_in}
use Rattle.bitm_tables.specs.Tables.{HasTables, Lists}
use Rattle.bitm_select.specs.Claims.{claimed_entry, claimed_part, claimed_to}
use Rattle.bitm_tables.proofs.lemmas.LengthLemmas.{few_entries}
use Rattle.bitm_select.proofs.lemmas.ManyLemmas.{near_loads}
use Rattle.bitm_select.proofs.lemmas.SoughtLemmas.{low_is, record_fields_rise}
use Rattle.bitm_select.proofs.lemmas.ClaimedLemmas.{few_in_records}
use Rattle.bitm_select.proofs.many.loaded.load.Goals as goal
use Rattle.bitm_select.proofs.many.loaded.load.Goals.{then-first-words_len, else-first-words_len}

pub overflow_mul-first : goal.overflow_mul-first
overflow_mul-first g c = record { fits = omega (arith, c.requires.entry, few_entries _ c.requires.sized) }

pub overflow_add-first : goal.overflow_add-first
overflow_add-first g c =
    record { fits = omega (arith, c.requires.entry, few_entries _ c.requires.sized, c.record_of-position.ensures.inside) }

pub returns-clause-in_record : goal.returns-clause-in_record
returns-clause-in_record g c rank search_is =
    let lists = g.T.TableSource.lists c.args.source.now in
    let m = sought_in g.row.BIT lists.words in
    let r = c.record_of-position.ensures in
    let first = c.args.entry * 32 + c.record_of-position.result.0 * 8 in
    let word : first < length lists.words → IsWord (sought_in g.row.BIT lists.words) first c.if-first-words_len.word =
    elim c.if-first-words_len.branch [
      | then-first-words_len w ↦ λ _.
          subst (λ (v : ℕ). IsWord m first v) (sym w.word-is)
          (subst (λ (l : Lists). IsWord (sought_in g.row.BIT l.words) first w.sought_word-word.result) c.sought_entry-packed.ensures.same
          w.sought_word-word.ensures.word)
      | else-first-words_len w ↦ λ h.
          absurd
          (omega (
            arith,
            h,
            w.if-first-words_len.false,
            c.words_len.ensures,
            ap (λ (l : Lists). length l.words) c.sought_entry-packed.ensures.same,
          ))
    ] in
    let packed = c.sought_entry-packed.result in
    let at = c.args.entry in
    let position = c.record_of-position.result.0 in
    let before = c.record_of-position.result.1 in
    let count = c.ones_to_entry.result in
    let in_entry = (c.args.rest + (2 ^ 64 - count)) % 2 ^ 64 in
    let left = (in_entry + (2 ^ 64 - before)) % 2 ^ 64 in
    let loaded : (t : HasTables lists) → (left ≡ c.args.rest - count - before)
    × ((rank ≡ ones_before m (64 * first) + (c.args.rest - count - before))
    × (first + 8 < length lists.words → rank < ones_before m (64 * (first + 8)))) =
    λ t.
    let is = c.sought_entry-packed.ensures.entry t in
    let near = search_is.near t in
    let most : before_in_part m at ≤ c.args.rest = rw near.position near.at_most in
    let same : in_entry ≡ c.args.rest - count =
    omega (arith, most, low_is m packed at is, c.ones_to_entry.ensures, c.ranges.rest.fits) in
    let one = record_fields_rise m packed at 1 is (omega arith) in
    let two = record_fields_rise m packed at 2 is (omega arith) in
    let at_most : before ≤ c.args.rest - count = omega (arith, r.at_most one two, same) in (
      omega (arith, same, at_most, c.ranges.rest.fits),
      near_loads g.row.BIT lists rank c.args.rest at packed count position before t near is c.ones_to_entry.ensures r.inside r.before at_most
          (λ h. omega (arith, r.next one two h, same)),
    ) in
    let p = search_is.in_part in
    let to_is : claimed_to (claimed_entry (as_bit g.row.BIT) lists at) position ≡ count + before =
    subst (λ (e : ℕ). claimed_to e position ≡ count + before) c.sought_entry-packed.ensures.claimed
    (omega (arith, c.ones_to_entry.ensures, r.before)) in
    let rest_claimed : (claimed_part (as_bit g.row.BIT) lists p.part + claimed_to (claimed_entry (as_bit g.row.BIT) lists at) position + left) % 2 ^ 64 ≡ rank % 2 ^ 64 =
    omega (
      arith,
      to_is,
      p.rest,
      p.fits,
      c.ones_to_entry.ensures,
      r.before,
      few_in_records packed position c.sought_entry-packed.type_inv,
    ) in
    record {
      fits = omega (arith, c.requires.entry, few_entries lists c.requires.sized, r.inside);
      word_is = word;
      claimed =
          record {
            part = p.part;
            entry = at;
            k = position;
            there = p.there;
            inside = c.requires.entry;
            from = p.from;
            to = omega (arith, p.to);
            few = r.inside;
            first = refl {A = ℕ};
            total = rest_claimed;
          };
      total = λ t. omega (arith, (loaded t).1.0, (loaded t).0);
      next = λ t. (loaded t).1.1;
    }
