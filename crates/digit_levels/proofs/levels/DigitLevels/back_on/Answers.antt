-- The digit's position of the level is where the number came from.
use Rattle.std.proofs.Common.{◌≡◌, ℕ, ◌+◌, ◌-◌, ◌/◌, ◌%◌, ◌^◌, length, ap, subst, sym, arith}
use Rattle.bit_lists.specs.Bits.{digit_count}
use Rattle.digits.specs.Digits.{digits_before, PicksDigit}
use Rattle.digits.specs.Reads.{DigitReadsAtMost}
use Rattle.digits.specs.Tables.{DigitLists, digits_in, HasDigitTables}
use Rattle.digits.specs.declared.source.counts.DigitReads.{DigitReads}
use Rattle.digits.proofs.lemmas.TableLemmas.{length-digits_in}
use Rattle.digit_levels.proofs.lemmas.SelectLemmas.{back-picked, back-rank}
use Rattle.digit_levels.proofs.levels.DigitLevels.back_on.Goals as goal

reads : (early mid late : DigitReads) (lists : DigitLists) (n : ℕ) → mid ≡ early → lists.len ≡ n
    → DigitReadsAtMost mid late 10 (digit_count (lists.len / 224 / 256) + 2) → DigitReadsAtMost early late 10 (digit_count (n / 224 / 256) + 2)
reads early mid late lists n same len r =
    subst (λ (e : DigitReads). DigitReadsAtMost e late 10 (digit_count (n / 224 / 256) + 2)) same
    (subst (λ (m : ℕ). DigitReadsAtMost mid late 10 (digit_count (m / 224 / 256) + 2)) len r)

pub returns-in-Found-clause-inside : goal.returns-in-Found-clause-inside
returns-in-Found-clause-inside c =
    omega (
      arith,
      c.in-Found.ensures.digit.0,
      length-digits_in c.open_level.new.probe.lists c.open_level.ensures.sizes,
      ap (λ (l : DigitLists). l.len) c.open_level.ensures.level,
    )

pub returns-in-Found-clause-answer : goal.returns-in-Found-clause-answer
returns-in-Found-clause-answer c = λ xs k levels picked.
    let m = c.args.self.now in
    let same = c.open_level.ensures.level in
    let right = subst HasDigitTables (sym same) (levels.levels c.args.depth c.requires).tables in
    let rank = back-rank xs m levels c.args.depth c.requires c.args.number k c.args.position c.digit_of-digit.result c.lesser_of.result picked
    c.digit_of-digit.ensures.digit c.lesser_of.ensures in
    let here = subst (λ (l : DigitLists). PicksDigit (digits_in l) c.digit_of-digit.result ((c.args.position + (2 ^ 64 - c.lesser_of.result)) % 2 ^ 64) c.in-Found.back) same
    (c.in-Found.ensures.answer right) in
    back-picked xs m levels c.args.depth c.requires c.args.number k c.args.position c.digit_of-digit.result c.lesser_of.result picked
    c.digit_of-digit.ensures.digit c.lesser_of.ensures c.in-Found.back ((c.args.position + (2 ^ 64 - c.lesser_of.result)) % 2 ^ 64)
    (omega (arith, rank.0, c.ranges.position.fits, c.lesser_of.type_inv)) here

pub returns-in-Absent-clause-answer : goal.returns-in-Absent-clause-answer
returns-in-Absent-clause-answer c = λ xs k levels picked.
    let m = c.args.self.now in
    let same = c.open_level.ensures.level in
    let right = subst HasDigitTables (sym same) (levels.levels c.args.depth c.requires).tables in
    let rank = back-rank xs m levels c.args.depth c.requires c.args.number k c.args.position c.digit_of-digit.result c.lesser_of.result picked
    c.digit_of-digit.ensures.digit c.lesser_of.ensures in
    omega (
      arith,
      c.in-Absent.ensures.answer right,
      ap (λ (l : DigitLists). digits_before c.digit_of-digit.result (digits_in l) (length (digits_in l))) same,
      rank.0,
      rank.1,
      c.ranges.position.fits,
      c.lesser_of.type_inv,
    )

pub returns-in-Wrong-clause-answer : goal.returns-in-Wrong-clause-answer
returns-in-Wrong-clause-answer c = λ xs k levels picked.
    c.in-Wrong.ensures.answer (subst HasDigitTables (sym c.open_level.ensures.level) (levels.levels c.args.depth c.requires).tables)

pub returns-in-Found-clause-reads : goal.returns-in-Found-clause-reads
returns-in-Found-clause-reads c =
    reads _ _ _ c.open_level.new.probe.lists c.args.self.now.len c.open_level.ensures.reads
    (ap (λ (l : DigitLists). l.len) c.open_level.ensures.level) c.in-Found.ensures.reads

pub returns-in-Absent-clause-reads : goal.returns-in-Absent-clause-reads
returns-in-Absent-clause-reads c =
    reads _ _ _ c.open_level.new.probe.lists c.args.self.now.len c.open_level.ensures.reads
    (ap (λ (l : DigitLists). l.len) c.open_level.ensures.level) c.in-Absent.ensures.reads

pub returns-in-Wrong-clause-reads : goal.returns-in-Wrong-clause-reads
returns-in-Wrong-clause-reads c =
    reads _ _ _ c.open_level.new.probe.lists c.args.self.now.len c.open_level.ensures.reads
    (ap (λ (l : DigitLists). l.len) c.open_level.ensures.level) c.in-Wrong.ensures.reads
