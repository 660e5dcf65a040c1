use Rattle.std.proofs.Common.{◌≡◌, [], ◌∷◌, ◌++◌, ◌∙◌, length, map, rules}
use Rattle.std.proofs.lemmas.List.{map-append}
use Rattle.program_files.proofs.lemmas.StringsLineLemmas.{gathered-more}
use Rattle.program_files.proofs.strings.gathering.gathered.Goals as goal

pub loop-line-preserved : goal.loop-line-preserved
loop-line-preserved c =
    let bytes : c.extend_from_slice.new.self.items ≡ c.loop-line.bytes.items ++ c.in-Some.line.now = search rules in
    let ends : c.push.new.self.items ≡ c.loop-line.ends.items ++ length c.extend_from_slice.new.self.items ∷ [] = search rules in
    let more = gathered-more (map (λ x. x.now) c.loop-line.yielded) c.in-Some.line.now c.loop-line.bytes.items c.loop-line.ends.items
    c.extend_from_slice.new.self.items c.loop-line.invariant.0 c.loop-line.invariant.1 bytes in
    rw (map-append) (more.0, ends ∙ more.1)
