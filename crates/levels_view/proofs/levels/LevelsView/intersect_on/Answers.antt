-- At the first level nothing is found, and each number begins with no digits.
use Rattle.std.proofs.Common.{◌-◌, ◌*◌, slice_range, arith}
use Rattle.matrix_levels.specs.Levels.{level}
use Rattle.matrix_levels.specs.Matrix.{numbers_in}
use Rattle.matrix_levels.specs.Shared.{shared_prefixes}
use Rattle.matrix_levels.proofs.lemmas.ReadsLemmas.{ranks-fewer}
use Rattle.matrix_levels.proofs.lemmas.SharedLemmas.{begin-first, shared-first, prefixes-first}
use Rattle.levels_view.proofs.levels.LevelsView.intersect_on.Goals as goal

pub add_shared_on-requires-clause-first : goal.add_shared_on-requires-clause-first
add_shared_on-requires-clause-first g c =
    let h = c.requires.matrix.numbers in
    begin-first (numbers_in c.args.self.now (g.T.TableSource.lists c.args.source.now)) c.args.self.now.width c.args.first.start c.args.first.end h.fit
    c.requires.first_order (omega (arith, c.requires.first_inside, h.count))

pub add_shared_on-requires-clause-second : goal.add_shared_on-requires-clause-second
add_shared_on-requires-clause-second g c =
    let h = c.requires.matrix.numbers in
    begin-first (numbers_in c.args.self.now (g.T.TableSource.lists c.args.source.now)) c.args.self.now.width c.args.second.start c.args.second.end h.fit
    c.requires.second_order (omega (arith, c.requires.second_inside, h.count))

pub returns-in_err-add_shared_on-clause-reads : goal.returns-in_err-add_shared_on-clause-reads
returns-in_err-add_shared_on-clause-reads g c =
    let w = c.args.self.now.width in
    let xs = numbers_in c.args.self.now (g.T.TableSource.lists c.args.source.now) in
    ranks-fewer c.args.self.now g.T.TableSource.lists g.T.TableSource.reads c.args.source.now c.add_shared_on.new.source
    (4 * shared_prefixes (slice_range (level xs w 0) c.args.first.start c.args.first.end) (slice_range (level xs w 0) c.args.second.start c.args.second.end) (w - 0))
    (4 * shared_prefixes (slice_range xs c.args.first.start c.args.first.end) (slice_range xs c.args.second.start c.args.second.end) w)
    c.add_shared_on.ensures.reads (omega (arith, prefixes-first xs w c.args.first.start c.args.first.end c.args.second.start c.args.second.end))

pub returns-clause-shared : goal.returns-clause-shared
returns-clause-shared g c =
    shared-first (numbers_in c.args.self.now (g.T.TableSource.lists c.args.source.now)) c.args.self.now.width c.args.first.start c.args.first.end
    c.args.second.start c.args.second.end c.new-found.result.items c.add_shared_on.new.found.items c.new-found.ensures.items c.in_ok-add_shared_on.ensures.found

pub returns-clause-reads : goal.returns-clause-reads
returns-clause-reads g c =
    let w = c.args.self.now.width in
    let xs = numbers_in c.args.self.now (g.T.TableSource.lists c.args.source.now) in
    ranks-fewer c.args.self.now g.T.TableSource.lists g.T.TableSource.reads c.args.source.now c.add_shared_on.new.source
    (4 * shared_prefixes (slice_range (level xs w 0) c.args.first.start c.args.first.end) (slice_range (level xs w 0) c.args.second.start c.args.second.end) (w - 0))
    (4 * shared_prefixes (slice_range xs c.args.first.start c.args.first.end) (slice_range xs c.args.second.start c.args.second.end) w)
    c.add_shared_on.ensures.reads (omega (arith, prefixes-first xs w c.args.first.start c.args.first.end c.args.second.start c.args.second.end))
