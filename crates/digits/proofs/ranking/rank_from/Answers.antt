-- The table and the line's count reach the line's middle, and the digits from there to the position are added or taken
-- off.
use Rattle.std.proofs.Common.{◌≡◌, ℕ, ◌+◌, ◌*◌, get_or, ap, ◌∙◌, arith}
use Rattle.digits.specs.Tables.{count_field}
use Rattle.digits.proofs.lemmas.TableLemmas.{middle_counted}
use Rattle.digits.proofs.ranking.rank_from.Goals as goal

pub returns : goal.returns
returns g c = λ tables number.
    let lists = g.S.DigitSource.lists c.args.source.now in
    let k = c.args.line in
    let d = c.args.digit in
    let first : 8 * k + 0 ≡ 8 * k = omega arith in
    let word = c.word.ensures ∙ ap (λ (i : ℕ). get_or lists.lines i 0) first in
    omega (
      arith,
      number,
      c.field_of-to_middle.ensures,
      ap (λ (w : ℕ). count_field w d) word,
      middle_counted lists c.requires.sizes tables k d c.requires.line c.requires.digit,
      c.from_middle.ensures,
    )
