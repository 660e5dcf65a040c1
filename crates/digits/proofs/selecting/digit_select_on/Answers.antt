-- The entry, the line and the position in it are those of the rank.
use Rattle.std.proofs.Common.{◌≡◌, ℕ, ◌+◌, ◌-◌, ◌*◌, ◌/◌, ◌%◌, ◌^◌, ◌<◌, ◌≤◌, get_or, length, min, sym, ap, ap₂, subst, ◌∙◌, arith}
use Rattle.digits.specs.Digits.{digits_of, digits_before, digit_in}
use Rattle.digits.specs.Search.{IsLastCount}
use Rattle.digits.specs.Tables.{DigitLists, HasDigitTables, digits_in}
use Rattle.digits.proofs.lemmas.DigitLemmas.{length-digits_of}
use Rattle.digits.proofs.lemmas.PickedLemmas.{below_next}
use Rattle.digits.proofs.lemmas.TableLemmas.{length-digits_in, item-digits_in, before-digits_in, between_few}
use Rattle.digits.proofs.selecting.digit_select_on.Goals as goal
use Rattle.digits.proofs.selecting.digit_select_on.Goals.{After-rank_from}

-- the lists stay as they are
kept : (g : _) (c : After-rank_from g) → g.S.DigitSource.lists c.last_line-line.new.source ≡ g.S.DigitSource.lists c.args.source.now
kept g c = c.last_line-line.ensures.same ∙ c.number-before.ensures.same ∙ c.last_entry-entry.ensures.same ∙ c.digit_count_on.ensures.same

opened : (g : _) (c : After-rank_from g) → g.S.DigitSource.lists c.open.new.self ≡ g.S.DigitSource.lists c.args.source.now
opened g c = c.open.ensures.same ∙ kept g c

-- fewer digits than all stand before the rank
some : (g : _) (c : After-rank_from g) → HasDigitTables (g.S.DigitSource.lists c.args.source.now)
    → c.args.rank
    < digits_before c.args.digit (digits_of (g.S.DigitSource.lists c.args.source.now).lines) (g.S.DigitSource.lists c.args.source.now).len
some g c t =
    let lists = g.S.DigitSource.lists c.args.source.now in
    let d = c.args.digit in
    let len = length-digits_in lists c.requires.sizes in
    omega (
      arith,
      c.if-digit_count_on-rank.false,
      c.digit_count_on.ensures.answer t,
      ap (digits_before d (digits_in lists)) len,
      before-digits_in lists d lists.len (omega arith),
    )

entry_of_rank : (g : _) (c : After-rank_from g) → HasDigitTables (g.S.DigitSource.lists c.args.source.now)
    → IsLastCount
    (λ e. digits_before c.args.digit (digits_of (g.S.DigitSource.lists c.args.source.now).lines) (224 * (256 * e)))
    0 ((g.S.DigitSource.lists c.args.source.now).len / 224 / 256 + 1) c.args.rank c.last_entry-entry.result
entry_of_rank g c t =
    let same = c.digit_count_on.ensures.same in
    subst (λ (l : DigitLists).
    IsLastCount (λ e. digits_before c.args.digit (digits_of l.lines) (224 * (256 * e))) 0 (l.len / 224 / 256 + 1) c.args.rank c.last_entry-entry.result)
    same (c.last_entry-entry.ensures.last (subst HasDigitTables (sym same) t))

number_of_rank : (g : _) (c : After-rank_from g)
    → c.number-before.result ≡ get_or (g.S.DigitSource.lists c.args.source.now).table (4 * c.last_entry-entry.result + c.args.digit) 0
number_of_rank g c =
    c.number-before.ensures.item
    ∙ ap (λ (l : DigitLists). get_or l.table (4 * c.last_entry-entry.result + c.args.digit) 0) (c.last_entry-entry.ensures.same ∙ c.digit_count_on.ensures.same)

line_of_rank : (g : _) (c : After-rank_from g) → HasDigitTables (g.S.DigitSource.lists c.args.source.now)
    → IsLastCount
    (λ k. digits_before c.args.digit (digits_of (g.S.DigitSource.lists c.args.source.now).lines) (224 * k))
    (256 * c.last_entry-entry.result)
    (min (256 * c.last_entry-entry.result + 256) ((g.S.DigitSource.lists c.args.source.now).len / 224 + 1)) c.args.rank c.last_line-line.result
line_of_rank g c t =
    let lists = g.S.DigitSource.lists c.args.source.now in
    let e = c.last_entry-entry.result in
    let same = c.number-before.ensures.same ∙ c.last_entry-entry.ensures.same ∙ c.digit_count_on.ensures.same in
    let entry = entry_of_rank g c t in
    let few : c.number-before.result ≤ c.args.rank =
    omega (arith, number_of_rank g c, t.entries e c.args.digit c.requires.digit (omega (arith, entry.inside, c.requires.sizes.table_len)), entry.at_most) in
    subst (λ (l : DigitLists).
    IsLastCount (λ k. digits_before c.args.digit (digits_of l.lines) (224 * k)) (256 * e) (min (256 * e + 256) (l.len / 224 + 1)) c.args.rank c.last_line-line.result)
    same (c.last_line-line.ensures.last (subst HasDigitTables (sym same) t) few)

-- the count before the line
begins : (g : _) (c : After-rank_from g) → HasDigitTables (g.S.DigitSource.lists c.args.source.now)
    → c.rank_from.result
    ≡ digits_before c.args.digit (digits_of (g.S.DigitSource.lists c.args.source.now).lines) (224 * c.last_line-line.result)
begins g c t =
    let lists = g.S.DigitSource.lists c.args.source.now in
    let k = c.last_line-line.result in
    let d = c.args.digit in
    let same = opened g c in
    let entry : c.last_entry-entry.result ≡ k / 256 = omega (arith, c.last_line-line.ensures.from, c.last_line-line.ensures.near) in
    let here : 224 * k + 0 ≡ 224 * k = omega arith in
    c.rank_from.ensures (subst HasDigitTables (sym same) t)
    (number_of_rank g c ∙ ap (λ (n : ℕ). get_or lists.table (4 * n + d) 0) entry
    ∙ sym (ap (λ (l : DigitLists). get_or l.table (4 * (k / 256) + d) 0) same))
    ∙ ap (λ (l : DigitLists). digits_before d (digits_of l.lines) (224 * k + 0)) same
    ∙ ap (digits_before d (digits_of lists.lines)) here

below : (g : _) (c : After-rank_from g) → HasDigitTables (g.S.DigitSource.lists c.args.source.now)
    → c.args.rank
    < digits_before c.args.digit (digits_of (g.S.DigitSource.lists c.args.source.now).lines) (224 * (c.last_line-line.result + 1))
below g c t =
    below_next (g.S.DigitSource.lists c.args.source.now) c.args.digit c.args.rank c.last_entry-entry.result c.last_line-line.result c.requires.sizes
    (some g c t) (entry_of_rank g c t) (line_of_rank g c t)

pub returns-in_default-clause-answer : goal.returns-in_default-clause-answer
returns-in_default-clause-answer g c = λ t.
    let a = (goal.at.returns-in_default-clause-answer g c).After-rank_from in
    let k = c.last_line-line.result in
    let d = c.args.digit in
    let none =
    subst (λ (l : DigitLists).
    digits_before d (digits_of l.lines) (224 * (k + 1)) ≤ digits_before d (digits_of l.lines) (224 * k) + (c.args.rank + (2 ^ 64 - c.rank_from.result)) % 2 ^ 64)
    (opened g a) c.in_default.ensures in
    omega (arith, none, below g a t, begins g a t, (line_of_rank g a t).at_most, c.ranges.rank.fits)

pub returns-then-found-digits_len-clause-digit : goal.returns-then-found-digits_len-clause-digit
returns-then-found-digits_len-clause-digit g c =
    let a = (goal.at.returns-then-found-digits_len-clause-digit g c).After-rank_from in
    let lists = g.S.DigitSource.lists c.args.source.now in
    let k = c.last_line-line.result in
    let p = c.in-Some.position in
    let in_line : p < 224 = c.in-Some.ensures.0 in
    let inside : 224 * k + p < lists.len =
    omega (arith, c.if-found-digits_len.true, c.digits_len.ensures, ap (λ (l : DigitLists). l.len) (opened g a)) in
    let line : (224 * k + p) / 224 ≡ k = omega (arith, in_line) in
    let rest : (224 * k + p) % 224 ≡ p = omega (arith, in_line) in (
      omega (arith, inside, length-digits_in lists c.requires.sizes),
      item-digits_in lists (224 * k + p) c.requires.sizes inside
          ∙ ap₂ (λ (i j : ℕ). digit_in lists.lines i j) line rest
          ∙ sym (ap (λ (l : DigitLists). digit_in l.lines k p) (opened g a))
          ∙ c.in-Some.ensures.1,
    )

pub returns-then-found-digits_len-clause-answer : goal.returns-then-found-digits_len-clause-answer
returns-then-found-digits_len-clause-answer g c = λ t.
    let a = (goal.at.returns-then-found-digits_len-clause-answer g c).After-rank_from in
    let lists = g.S.DigitSource.lists c.args.source.now in
    let k = c.last_line-line.result in
    let d = c.args.digit in
    let p = c.in-Some.position in
    let found = returns-then-found-digits_len-clause-digit g c in
    let count =
    subst (λ (l : DigitLists).
    digits_before d (digits_of l.lines) (224 * k + p) ≡ digits_before d (digits_of l.lines) (224 * k) + (c.args.rank + (2 ^ 64 - c.rank_from.result)) % 2 ^ 64)
    (opened g a) c.in-Some.ensures.2 in
    record {
      inside = found.0;
      digit = found.1;
      before = before-digits_in lists d (224 * k + p) (omega (arith, found.0, length-digits_in lists c.requires.sizes))
          ∙ omega (arith, count, begins g a t, (line_of_rank g a t).at_most, c.ranges.rank.fits);
    }

pub returns-else-found-digits_len-clause-answer : goal.returns-else-found-digits_len-clause-answer
returns-else-found-digits_len-clause-answer g c = λ t.
    let a = (goal.at.returns-else-found-digits_len-clause-answer g c).After-rank_from in
    let lists = g.S.DigitSource.lists c.args.source.now in
    let k = c.last_line-line.result in
    let d = c.args.digit in
    let p = c.in-Some.position in
    let xs = digits_of lists.lines in
    let count =
    subst (λ (l : DigitLists).
    digits_before d (digits_of l.lines) (224 * k + p) ≡ digits_before d (digits_of l.lines) (224 * k) + (c.args.rank + (2 ^ 64 - c.rank_from.result)) % 2 ^ 64)
    (opened g a) c.in-Some.ensures.2 in
    let past : lists.len ≤ 224 * k + p =
    omega (arith, c.if-found-digits_len.false, c.digits_len.ensures, ap (λ (l : DigitLists). l.len) (opened g a)) in
    let inside : 224 * k + p ≤ length xs =
    omega (arith, c.in-Some.ensures.0, (line_of_rank g a t).inside, length-digits_of lists.lines, c.requires.sizes.lines_len) in
    omega (
      arith,
      count,
      begins g a t,
      (line_of_rank g a t).at_most,
      c.ranges.rank.fits,
      some g a t,
      (between_few d xs lists.len (224 * k + p) past inside).0,
    )
