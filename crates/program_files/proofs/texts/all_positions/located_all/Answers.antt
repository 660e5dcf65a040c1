use Rattle.std.proofs.Common.{◌≡◌, ◌+◌, ◌≤◌, ◌++◌, All, arith, subst, sym, take, rules}
use Rattle.std.proofs.lemmas.List.Elements.{All-append}
use Rattle.text_block.specs.Block.{bytes_of_parts}
use Rattle.program_files.proofs.lemmas.FileLemmas.{text-long}
use Rattle.program_files.proofs.lemmas.LineLemmas.{bytes-more, all_positions-of-more}
use Rattle.program_files.specs.Lines.{bytes_in, AreFoundOf}
use Rattle.program_files.proofs.texts.all_positions.located_all.Goals as goal

pub loop-pattern-preserved : goal.loop-pattern-preserved
loop-pattern-preserved c =
    let parts = c.args.text.now in
    let xs = c.args.patterns.now in
    let i = c.loop-pattern.pattern-index in
    let n = parts.tables.letters.len in
    let all = c.loop-pattern.all.items in
    let more = c.in_ok-found.found.items in
    let so_far = c.loop-pattern.invariant in
    let items : c.extend_from_slice.new.self.items ≡ all ++ more = search rules in (
      λ h. subst (λ v. AreFoundOf (bytes_in (take (i + 1) xs)) (bytes_of_parts parts) v) (sym items)
          (subst (λ ps. AreFoundOf ps (bytes_of_parts parts) (all ++ more)) (sym (bytes-more xs i _ (omega arith)))
          (all_positions-of-more (bytes_in (take i xs)) (bytes_of_parts parts) all _ more n (text-long parts h) (so_far.0 h) (c.in_ok-found.ensures.answer h)
          c.in_ok-found.ensures.within)),
      subst (All (λ position. position ≤ n)) (sym items) (All-append (λ position. position ≤ n) all more so_far.1 c.in_ok-found.ensures.within),
    )
