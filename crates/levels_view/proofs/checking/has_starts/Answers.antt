-- One prefix after another starts where the table says, or the first that does not ends the check.
use Rattle.std.proofs.Common.{◌≡◌, ℕ, ◌-◌, ◌*◌, ◌%◌, ◌^◌, get_or, refl, subst, ap, ◌∙◌, ⊎_elim, arith, rules}
use Rattle.std.proofs.lemmas.Bool.{cases_lt}
use Rattle.bitm_tables.specs.Tables.{bits_in}
use Rattle.matrix_levels.specs.Levels.{level_position}
use Rattle.matrix_levels.specs.Matrix.{level_items}
use Rattle.matrix_levels.proofs.lemmas.StartLemmas.{starts-from-begins}
use Rattle.levels_view.proofs.CheckLemmas.{start-found, start-is-found, starts-each}
use Rattle.levels_view.proofs.checking.has_starts.Goals as goal
use Rattle.levels_view.proofs.checking.has_starts.Goals.{In-Some}

pub unreachable-requires : goal.unreachable-requires
unreachable-requires g c =
    let T = g.T.TableSource in
    let l = c.args.levels.now in
    start-is-found l c.without_starts-plain.result (T.lists c.loop-begin.source) (T.lists c.args.source.now) c.without_starts-plain.ensures
    c.loop-begin.invariant.same c.width-width.ensures.levels c.requires.room c.requires.indexed c.requires.counts c.requires.quarters _ _ _ c.in-None.is
    c.total_position_on.ensures.position

-- where the prefix starts
position : (g : _) (c : In-Some g)
    → let l = c.args.levels.now in
    c.in-Some.position ≡ level_position (level_items (bits_in (g.T.TableSource.lists c.args.source.now)) l.width l.len) l.width (c.loop-begin.begin * 2 ^ (l.width - l.known)) l.known 0
position g c =
    let T = g.T.TableSource in
    let l = c.args.levels.now in
    start-found l c.without_starts-plain.result (T.lists c.loop-begin.source) (T.lists c.args.source.now) c.without_starts-plain.ensures
    c.loop-begin.invariant.same c.width-width.ensures.levels c.requires.room c.requires.indexed c.requires.counts c.requires.quarters c.loop-begin.begin _ _ _ _ _ c.known-known.ensures.known
    (omega (arith, c.loop-begin-test.true, c.starts-begin-end.ensures.len))
    (ap (λ k. (k - c.known-known.result) % 64) c.width-width.ensures.width ∙ ap (λ k. (l.width - k) % 64) c.known-known.ensures.known)
    refl c.in-Some.is c.total_position_on.ensures.position

pub returns-then-starts-begin : goal.returns-then-starts-begin
returns-then-starts-begin g c =
    let l = c.args.levels.now in (
      search rules,
      λ h. absurd (omega (
        arith,
        c.if-starts-begin.true,
        ap (λ s. get_or s c.loop-begin.begin 0) c.starts.ensures.starts,
        position g (goal.at.returns-then-starts-begin g c).In-Some,
        starts-each l (bits_in (g.T.TableSource.lists c.args.source.now)) c.width-width.ensures.levels.known_most h c.loop-begin.begin
            (omega (arith, c.loop-begin-test.true, c.starts-begin-end.ensures.len)),
      )),
    )

pub loop-begin-preserved : goal.loop-begin-preserved
loop-begin-preserved g c =
    let l = c.args.levels.now in
    let i = c.loop-begin.invariant in
    let here : get_or l.starts c.loop-begin.begin 0
    ≡ level_position (level_items (bits_in (g.T.TableSource.lists c.args.source.now)) l.width l.len) l.width (c.loop-begin.begin * 2 ^ (l.width - l.known)) l.known 0 =
    omega (
      arith,
      c.if-starts-begin.false,
      ap (λ s. get_or s c.loop-begin.begin 0) c.starts.ensures.starts,
      position g (goal.at.loop-begin-preserved g c).In-Some,
    ) in
    let P : ℕ → Type 0 = λ h.
    get_or l.starts h 0 ≡ level_position (level_items (bits_in (g.T.TableSource.lists c.args.source.now)) l.width l.len) l.width (h * 2 ^ (l.width - l.known)) l.known 0 in
    record {
      right = λ h less.
          ⊎_elim
          (λ before. i.right h before)
          (λ from. let e : c.loop-begin.begin ≡ h = omega (arith, less, from) in subst P e here)
          (cases_lt h c.loop-begin.begin);
      same = c.total_position_on.ensures.reads.same ∙ i.same;
    }

pub returns : goal.returns
returns g c =
    let l = c.args.levels.now in
    let xs = level_items (bits_in (g.T.TableSource.lists c.args.source.now)) l.width l.len in (
      λ _. starts-from-begins xs l.width l.known l.starts c.width-width.ensures.levels.known_most
          (λ h less. c.loop-begin.invariant.right h
          (omega (arith, less, c.loop-begin-test.false, c.loop-begin.auto.begin-end, c.starts-begin-end.ensures.len))),
      search rules,
    )
