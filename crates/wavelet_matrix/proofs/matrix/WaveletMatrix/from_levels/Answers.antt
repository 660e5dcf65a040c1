-- Any bits are the levels of the numbers that they hold.
use Rattle.std.proofs.Common.{◌≡◌, ◌*◌, ◌≤◌, true, false, List, ℕ, length, ap, ◌∙◌, arith, subst, sym}
use Rattle.std.specs.Box.{boxed_slice_items}
use Rattle.bit_lists.specs.Bits.{bits_of}
use Rattle.bitm_tables.specs.Quarters.{AreQuartersOf}
use Rattle.bit_lists.proofs.BitLaws.{bits_are_counted}
use Rattle.matrix_levels.specs.Matrix.{level_items, IsMatrixOf}
use Rattle.matrix_levels.proofs.lemmas.MakeLemmas.{words-enough}
use Rattle.matrix_levels.proofs.lemmas.MatrixLemmas.{is-matrix, made-of-bits, matrix-from, matrix-of-items, tight}
use Rattle.wavelet_matrix.proofs.matrix.WaveletMatrix.from_levels.Goals as goal
use Rattle.wavelet_matrix.proofs.matrix.WaveletMatrix.from_levels.Goals.{In-Ok, In_ok-levels, In_ok-keep_starts}

-- the words that the index keeps
words : (g : _) (c : In-Ok g) → List ℕ
words g c = boxed_slice_items c.in-Ok.index.content

room : (g : _) (c : In-Ok g) → c.args.width * c.args.len ≤ length (bits_of (boxed_slice_items c.in-Ok.index.content))
room g c =
    omega (
      arith,
      bits_are_counted (boxed_slice_items c.in-Ok.index.content),
      ap (λ (l : List ℕ). length l) (ap boxed_slice_items c.in-Ok.ensures.kept),
      words-enough _ _ c.requires.words,
    )

pub new-requires-clause-room : goal.new-requires-clause-room
new-requires-clause-room g c = room g (goal.at.new-requires-clause-room g c).In-Ok

-- the quarters of the words that the index keeps, unless the matrix is compact
quarters : (g : _) (c : In_ok-levels g) → c.in_ok-levels.levels.compact ≡ false
    → AreQuartersOf (bits_of (boxed_slice_items c.in-Ok.index.content)) c.in_ok-levels.levels.quarters
quarters g c with_them =
    let P : List ℕ → Type 0 = λ ws. AreQuartersOf (bits_of ws) (boxed_slice_items c.in_ok-quarters.quarters) in
    subst (λ (qs : List ℕ). AreQuartersOf (bits_of (boxed_slice_items c.in-Ok.index.content)) qs) (sym c.in_ok-levels.ensures.quarters)
    (subst P c.probe.ensures.words (c.in_ok-quarters.ensures.quarters (sym c.in_ok-levels.ensures.compact ∙ with_them)))

no_quarters : (g : _) (c : In_ok-levels g) → c.in_ok-levels.levels.compact ≡ true → length c.in_ok-levels.levels.quarters ≡ 0
no_quarters g c compact =
    ap (λ (qs : List ℕ). length qs) c.in_ok-levels.ensures.quarters ∙ c.in_ok-quarters.ensures.none (sym c.in_ok-levels.ensures.compact ∙ compact)

made : (g : _) (c : In_ok-levels g)
    → IsMatrixOf (level_items (bits_of (boxed_slice_items c.in-Ok.index.content)) c.args.width c.args.len) c.in_ok-levels.levels
    (bits_of (boxed_slice_items c.in-Ok.index.content))
made g c =
    let made = c.in_ok-levels.ensures in
    made-of-bits c.in_ok-levels.levels (bits_of (boxed_slice_items c.in-Ok.index.content)) c.args.width c.args.len made.len made.width
    c.requires.some c.requires.most c.requires.short (omega (
      arith,
      bits_are_counted (boxed_slice_items c.in-Ok.index.content),
      ap (λ (l : List ℕ). length l) (ap boxed_slice_items c.in-Ok.ensures.kept),
      words-enough _ _ c.requires.words,
    ))
    made.ones_len made.zeros_len made.known made.starts (quarters g c) (no_quarters g c) made.ones made.zeros

pub keep_starts-requires : goal.keep_starts-requires
keep_starts-requires g c =
    record {
      matrix = is-matrix _ c.in_ok-levels.levels c.probe-2.result.lists _ c.probe-2.ensures.indexed c.probe-2.ensures.words
          (made g (goal.at.keep_starts-requires g c).In_ok-levels);
      most = omega (arith, c.known_for-known.ensures.most, c.in_ok-levels.ensures.width);
      few = c.known_for-known.ensures.few;
    }

pub invariant_of-result : goal.invariant_of-result
invariant_of-result g c = (
  matrix-of-items _ c.keep_starts.new.self _
      (matrix-from _ c.in_ok-levels.levels c.keep_starts.new.self c.probe-2.result.lists _ c.probe-2.ensures.words
      (made g (goal.at.invariant_of-result g c).In_ok-levels) c.in_ok-keep_starts.ensures.matrix),
  tight c.args.len c.args.width c.keep_starts.new.self _
      (ap (λ (l : List ℕ). length l) (ap boxed_slice_items c.in-Ok.ensures.kept) ∙ c.requires.words)
      (c.in_ok-keep_starts.ensures.known ∙ c.known_for-known.ensures.known)
      (c.in_ok-keep_starts.ensures.len ∙ c.in_ok-levels.ensures.len) (c.in_ok-keep_starts.ensures.width ∙ c.in_ok-levels.ensures.width),
)

pub returns-clause-items : goal.returns-clause-items
returns-clause-items g c =
    let l = c.keep_starts.new.self in
    ap (λ (ws : List ℕ). level_items (bits_of ws) l.width l.len) (ap boxed_slice_items c.in-Ok.ensures.kept)
    ∙ ap (λ w. level_items (bits_of (boxed_slice_items c.args.content)) w l.len) (c.in_ok-keep_starts.ensures.width ∙ c.in_ok-levels.ensures.width)
    ∙ ap (λ n. level_items (bits_of (boxed_slice_items c.args.content)) c.args.width n) (c.in_ok-keep_starts.ensures.len ∙ c.in_ok-levels.ensures.len)
