use Rattle.std.proofs.Common.{◌≡◌, ◌<◌, ◌≤◌, ◌+◌, [], ◌∷◌, ◌++◌, arith, get_or, rules, subst, sym, take}
use Rattle.program_files.proofs.lemmas.NumberingLemmas.{Numbered, step-more, step-same}
use Rattle.program_files.specs.Lines.{line_among}
use Rattle.program_files.proofs.texts.numbering.lines_of.Goals.{then-position-len+then-last-line+in_ok-push, else-position-len, else-position-len-via-then-position-len+else-last-line, else-position-len-via-else-position-len}
use Rattle.program_files.proofs.texts.numbering.lines_of.Goals as goal

pub loop-position-preserved : goal.loop-position-preserved
loop-position-preserved c =
    let xs = c.args.all_positions.now in
    let ends = c.args.ends.now in
    let n = c.args.len in
    let i = c.loop-position.position-index in
    let so_far = c.loop-position.invariant in
    let line : c.line_of-line.result ≡ line_among ends (get_or xs i 0) = search rules in
    let same : (get_or xs i 0 < n → line_among ends (get_or xs i 0) ≤ c.loop-position.last)
    → Numbered (take (i + 1) xs) ends n c.loop-position.last c.loop-position.lines.items =
    λ h. step-same xs ends i n c.loop-position.last c.loop-position.lines.items c.requires.all_positions (omega arith) so_far h in
    elim c.if-position-len.branch [
      | then-position-len+then-last-line+in_ok-push w ↦
          let items : c.if-position-len.lines.items ≡ c.loop-position.lines.items ++ line_among ends (get_or xs i 0) ∷ [] = search rules in
          let last : c.if-position-len.last ≡ line_among ends (get_or xs i 0) = search rules in
          let more = step-more xs ends i n c.loop-position.last c.loop-position.lines.items (omega arith) so_far (omega (arith, w.if-position-len.true))
          (omega (arith, w.if-last-line.true, line)) in
          subst (λ l. Numbered (take (i + 1) xs) ends n l c.if-position-len.lines.items) (sym last)
          (subst (λ ls. Numbered (take (i + 1) xs) ends n (line_among ends (get_or xs i 0)) ls) (sym items) more)
      | else-position-len w ↦
          let items : c.if-position-len.lines.items ≡ c.loop-position.lines.items = search rules in
          let last : c.if-position-len.last ≡ c.loop-position.last = search rules in
          subst (λ l. Numbered (take (i + 1) xs) ends n l c.if-position-len.lines.items) (sym last)
          (subst (λ ls. Numbered (take (i + 1) xs) ends n c.loop-position.last ls) (sym items)
          (elim w.else-position-len.branch [
            | else-position-len-via-then-position-len+else-last-line u ↦ same (λ _. omega (arith, u.if-last-line.false, line))
            | else-position-len-via-else-position-len u ↦ same (λ h. absurd (omega (arith, h, u.if-position-len.false)))
          ]))
    ]
