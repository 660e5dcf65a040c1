-- The selection finds the one of the first number, and the parts that are walked are those of the sequence.
use Rattle.std.proofs.Common.{◌≡◌, ℕ, ◌+◌, ◌≤◌, List, length, take, true, sym, ap, subst, ◌∙◌, arith}
use Rattle.bit_lists.specs.Count.{count_of, ones_before}
use Rattle.bitm_selection.specs.Hints.{hint_words, AreHints}
use Rattle.bitm_tables.specs.Tables.{HasTables, Lists, bits_in}
use Rattle.elias_fano.proofs.lemmas.UpperLemmas.{ones_are}
use Rattle.elias_fano.specs.Low.{Lows}
use Rattle.elias_fano.specs.Parts.{ArePartsOf}
use Rattle.elias_fano.specs.SequenceParts.{SequenceParts, Holds}
use Rattle.elias_fano_view.specs.Lists.{AreItemsFrom}
use Rattle.elias_fano_view.proofs.sequence.SequenceView.items_from.Goals as goal
use Rattle.elias_fano_view.proofs.sequence.SequenceView.items_from.Goals.{After-hinted_select_on, After-write_items_on}

-- the source has the words of the high bits, with their tables and hints
same-upper : (c : After-hinted_select_on) → c.probe.result.lists ≡ c.args.self.now.upper
same-upper c = c.probe.ensures.lists ∙ ap (λ (s : SequenceParts). s.upper) c.self.view_is

led : (c : After-hinted_select_on) (xs : List ℕ) → Holds xs c.args.self.now
    → HasTables c.probe.result.lists × AreHints true c.probe.result.lists.words c.over.result.ones.now
led c xs h =
    let ones : c.over.result.ones.now ≡ take (hint_words c.args.self.now.len) c.args.self.now.hints =
    c.over.ensures.ones ∙ ap (λ (s : SequenceParts). take (hint_words s.len) s.hints) c.self.view_is in
    let L : Lists → Type 0 = λ l. HasTables l × AreHints true l.words (take (hint_words c.args.self.now.len) c.args.self.now.hints) in
    let A : List ℕ → Type 0 = λ hints. AreHints true c.probe.result.lists.words hints in
    let both = subst L (sym (same-upper c)) (h.tables, h.lead.of_ones) in
    (both.0, subst A (sym ones) both.1)

-- the parts are those of xs, whose ones have tables
whole : (c : After-write_items_on) (xs : List ℕ) → Holds xs c.args.self.now
    → HasTables c.probe.result.lists × AreHints true c.probe.result.lists.words c.over.result.ones.now
    → (c.write_items_on.result ≡ c.min-most.result) × AreItemsFrom xs c.args.from c.write_items_on.result c.write_items_on.new.out
whole c xs h here =
    let P : Lows → Type 0 = λ low. ArePartsOf xs c.args.self.now.len low.width low.words c.args.self.now.upper.words in
    let W : List ℕ → Type 0 = λ words. ArePartsOf xs c.args.self.now.len c.low_digits.result.width c.low_digits.result.words words in
    let upper : c.probe-2.result.lists ≡ c.args.self.now.upper = c.probe-2.ensures.lists ∙ ap (λ (s : SequenceParts). s.upper) c.self.view_is in
    let parts = subst W (sym (ap (λ (l : Lists). l.words) upper)) (subst P (sym c.low_digits.ensures) h.are) in
    let probed : c.probe-2.result.lists ≡ c.probe.result.lists = c.probe-2.ensures.lists ∙ sym c.probe.ensures.lists in
    let begin = ap (λ (l : Lists). ones_before (bits_in l) c.in-Found.first) probed ∙ (c.in-Found.ensures.answer here.0 here.1).before in
    let few : c.args.from + c.min-most.result ≤ c.args.self.now.len =
    omega (arith, c.min-most.ensures, c.saturating_sub.ensures, c.if-most-eq0.false, ap (λ (s : SequenceParts). s.len) c.self.view_is) in
    c.write_items_on.ensures.items xs c.args.self.now.len parts few begin

pub returns-in-Absent-clause-all : goal.returns-in-Absent-clause-all
returns-in-Absent-clause-all c = λ xs h.
    let d = (goal.at.returns-in-Absent-clause-all c).After-hinted_select_on in
    let count = ones_are xs c.args.self.now.width c.args.self.now.upper.words h.are.upper_is in
    let here = led d xs h in
    let few = c.in-Absent.ensures.answer here.0 here.1 in
    omega (
      arith,
      few,
      count,
      ap (λ (l : Lists). count_of (bits_in l) true) (same-upper d),
      c.if-most-eq0.false,
      c.min-most.ensures,
      c.saturating_sub.ensures,
      ap (λ (s : SequenceParts). s.len) c.self.view_is,
      h.are.count,
    )

pub returns-clause-all : goal.returns-clause-all
returns-clause-all c = λ xs h.
    let at = goal.at.returns-clause-all c in
    omega (
      arith,
      (whole at.After-write_items_on xs h (led at.After-hinted_select_on xs h)).0,
      c.min-most.ensures,
      c.saturating_sub.ensures,
      ap (λ (s : SequenceParts). s.len) c.self.view_is,
      h.are.count,
    )

pub returns-clause-items : goal.returns-clause-items
returns-clause-items c = λ xs h.
    let at = goal.at.returns-clause-items c in
    (whole at.After-write_items_on xs h (led at.After-hinted_select_on xs h)).1

pub write_items_on-requires-clause-first : goal.write_items_on-requires-clause-first
write_items_on-requires-clause-first c =
    omega (arith, c.in-Found.ensures.bit.0, ap (λ (l : Lists). length (bits_in l)) (c.probe-2.ensures.lists ∙ sym c.probe.ensures.lists))
