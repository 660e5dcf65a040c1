-- One more string is written after those so far.
use Rattle.std.proofs.Common.{◌≡◌, ◌+◌, ◌-◌, ℕ, set, slice_index, sym, ap, subst, arith}
use Rattle.hash_block.specs.Bytes.{bytes_from, StandsAt}
use Rattle.hash_block.specs.Given.{len_of, string_begin}
use Rattle.hash_block.proofs.ArrangeLemmas.{all_arranged, arranged_more, next_fits, none_arranged, Arranging}
use Rattle.hash_block.proofs.strings.arranging.arrange.Goals as goal

pub loop-v-init : goal.loop-v-init
loop-v-init c = none_arranged c.args.bytes.now c.args.ends.now c.args.starts.now c.args.to.now c.requires.clear

pub write_bytes-requires-clause-room : goal.write_bytes-requires-clause-room
write_bytes-requires-clause-room c =
    let v = c.loop-v.v in
    let i = slice_index c.loop-v.starts v - 1 in
    let is : slice_index c.args.starts.now v ≡ i + 1 = omega (arith, c.loop-v.invariant.rest v (omega arith), c.if-next-eq0.false) in
    let fits = next_fits c.args.bytes.now c.args.ends.now c.args.starts.now c.args.to.now c.loop-v.starts c.loop-v.to c.loop-v.at v c.loop-v.invariant i is
    c.loop-v-test.true c.requires.total in
    omega (arith, fits, c.begin_at-begin.ensures, c.requires.room, c.loop-v.invariant.len)

pub overflow_add-at : goal.overflow_add-at
overflow_add-at c =
    let v = c.loop-v.v in
    let i = slice_index c.loop-v.starts v - 1 in
    let is : slice_index c.args.starts.now v ≡ i + 1 = omega (arith, c.loop-v.invariant.rest v (omega arith), c.if-next-eq0.false) in
    let fits = next_fits c.args.bytes.now c.args.ends.now c.args.starts.now c.args.to.now c.loop-v.starts c.loop-v.to c.loop-v.at v c.loop-v.invariant i is
    c.loop-v-test.true c.requires.total in
    omega (arith, fits, c.begin_at-begin.ensures, c.requires.room, c.requires.short)

pub loop-v-preserved : goal.loop-v-preserved
loop-v-preserved c =
    let ends = c.args.ends.now in
    let v = c.loop-v.v in
    let i = slice_index c.loop-v.starts v - 1 in
    let is : slice_index c.args.starts.now v ≡ i + 1 = omega (arith, c.loop-v.invariant.rest v (omega arith), c.if-next-eq0.false) in
    let len : slice_index ends i - c.begin_at-begin.result ≡ len_of ends i = ap (λ (b : ℕ). slice_index ends i - b) c.begin_at-begin.ensures in
    let done = c.write_bytes.ensures in
    let written : StandsAt c.write_bytes.new.to c.loop-v.at (bytes_from c.args.bytes.now (string_begin ends i)) (len_of ends i) =
    subst (λ (n : ℕ). StandsAt c.write_bytes.new.to c.loop-v.at (bytes_from c.args.bytes.now (string_begin ends i)) n) len
    (subst (λ (b : ℕ). StandsAt c.write_bytes.new.to c.loop-v.at (bytes_from c.args.bytes.now b) (slice_index ends i - c.begin_at-begin.result))
    c.begin_at-begin.ensures done.written) in
    subst (λ (n : ℕ). Arranging c.args.bytes.now ends c.args.starts.now c.args.to.now (set c.loop-v.starts v c.loop-v.at) c.write_bytes.new.to (c.loop-v.at + n) (v + 1))
    (sym len)
    (arranged_more c.args.bytes.now ends c.args.starts.now c.args.to.now c.loop-v.starts c.loop-v.to c.loop-v.at v c.loop-v.invariant c.write_bytes.new.to i is
    (omega (arith, c.loop-v-test.true, c.requires.count)) written done.before
    (λ k past. done.after k (omega (arith, past, len))) done.len)

pub returns-clause-arranged : goal.returns-clause-arranged
returns-clause-arranged c = λ _.
    all_arranged c.args.bytes.now c.args.ends.now c.args.starts.now c.args.to.now c.loop-v.starts c.loop-v.to c.loop-v.at c.loop-v.v c.loop-v.invariant
    (omega (arith, c.loop-v-test.false, c.loop-v.auto.v-end)) c.requires.total c.requires.count
