-- The table has what each byte needs, and what a byte needs says whether it keeps what is left of the lead.
use Rattle.std.proofs.Common.{rules, ◌≡◌, ◌+◌, ◌*◌, ◌/◌, ◌%◌, ◌^◌, ◌<◌, ◌≤◌, ℕ, count_ones, map, get_or, ap, subst, arith, zero-add}
use Rattle.std.specs.Int.Count.{ones, ones_in}
use Rattle.std.specs.List.{range_with_len}
use Rattle.std.proofs.lemmas.List.FromFn.{get_or-map-range_with_len}
use Rattle.tree_block.specs.Check.{KeepsLead}
use Rattle.tree_block.proofs.LeadLemmas.{above_keeps, keeps_above, keeps_fewer, kept_from_needed, lead_is_left, needed, needed_from_kept, ones_above}
use Rattle.tree_block.proofs.checking.keeps_lead_by_bytes.Goals as goal

abbrev needed_by_byte : ℕ → ℕ
needed_by_byte b = needed b 8

in_table : (b : ℕ) → b < 256 → get_or (map needed_by_byte (range_with_len 0 256)) b 0 ≡ needed b 8
in_table b inside = get_or-map-range_with_len needed_by_byte 0 256 b b 0 inside (zero-add b)

pub returns-then-byte-left : goal.returns-then-byte-left
unfolding ones ones_in
returns-then-byte-left c =
    let v = c.args.word in
    let k = 8 * c.loop-k.k in
    let byte = v / 2 ^ k % 256 in
    let less : c.loop-k.left < needed byte 8 = subst (λ (m : ℕ). c.loop-k.left < m) (in_table byte (omega arith)) c.if-byte-left.true in (
      search rules,
      λ keeps.
          let own = above_keeps v k 8 c.args.lead c.loop-k.left c.loop-k.invariant.same (keeps_fewer v (k + 8) 64 c.args.lead (omega (arith, c.loop-k-test.true)) keeps) in
          absurd (omega (arith, less, needed_from_kept byte 8 c.loop-k.left own)),
    )

-- where the test of the table was passed, the byte keeps what is left
kept_of : (byte left : ℕ) → byte < 256 → get_or (map needed_by_byte (range_with_len 0 256)) byte 0 ≤ left → KeepsLead byte 8 left
kept_of byte left inside within = kept_from_needed byte 8 left (omega (arith, within, in_table byte inside))

pub overflow_sub-left : goal.overflow_sub-left
unfolding ones ones_in
overflow_sub-left c =
    let byte = c.args.word / 2 ^ (8 * c.loop-k.k) % 256 in
    let whole : byte % 256 ≡ byte = omega arith in
    omega (arith, lead_is_left byte 8 c.loop-k.left (kept_of byte c.loop-k.left (omega arith) c.if-byte-left.false), ap count_ones whole)

pub loop-k-preserved : goal.loop-k-preserved
unfolding ones ones_in
loop-k-preserved c =
    let v = c.args.word in
    let k = 8 * c.loop-k.k in
    let byte = v / 2 ^ k % 256 in
    let next : k + 8 ≡ 8 * (c.loop-k.k + 1) = omega arith in
    let own = kept_of byte c.loop-k.left (omega arith) c.if-byte-left.false in
    let whole : byte % 256 ≡ byte = omega arith in
    record {
      kept = subst (λ m. KeepsLead v m c.args.lead) next (keeps_above v k 8 c.args.lead c.loop-k.left c.loop-k.invariant.same c.loop-k.invariant.kept own);
      same = omega (arith, c.loop-k.invariant.same, ap (λ m. count_ones (v % 2 ^ m)) next, ones_above v k 8, lead_is_left byte 8 c.loop-k.left own, ap count_ones whole);
    }
