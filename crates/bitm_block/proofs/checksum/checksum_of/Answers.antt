-- Four words are mixed in at each step; what is left over goes to the first chain.
use Rattle.std.proofs.Common.{◌≡◌, ◌+◌, ◌-◌, ◌*◌, ◌/◌, ◌<◌, ◌≤◌, drop, length, length-drop, arith}
use Rattle.std.proofs.lemmas.List.{take_all}
use Rattle.bitm_block.proofs.ChecksumLemmas.{chains_end, chains_more}
use Rattle.bitm_block.proofs.checksum.checksum_of.Goals as goal

pub loop-i-preserved : goal.loop-i-preserved
loop-i-preserved c =
    let l = c.loop-i in
    let at = 4 * l.i in
    let far : 4 * (l.i + 1) ≡ at + 4 = omega arith in
    let long : at + 4 ≤ length c.args.words.now = omega (arith, c.loop-i-test.true) in
    grind (
      arith,
      far,
      chains_more c.args.words.now at long l.a l.b l.c l.d,
      c.mix-a.ensures,
      c.mix-b.ensures,
      c.mix-c.ensures,
      c.mix-d.ensures,
      l.invariant,
    )

pub returns : goal.returns
returns c =
    let l = c.loop-i in
    let ws = c.args.words.now in
    let at = 4 * (length ws / 4) in
    let rest = drop at ws in
    let ended : 4 * l.i ≡ at = omega (arith, l.auto.i-end, c.loop-i-test.false) in
    let short : length rest < 4 = omega (arith, length-drop at ws) in
    let left = take_all (length ws - at) rest (omega (arith, length-drop at ws)) in
    grind (
      arith,
      ended,
      left,
      chains_end rest l.a l.b l.c l.d short,
      l.invariant,
      c.chain.ensures,
      c.mix.ensures,
      c.mix-2.ensures,
      c.mix-3.ensures,
    )
