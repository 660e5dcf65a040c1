-- The number is that of the hash, and is kept where the string stands there.
use Rattle.std.proofs.Common.{◌-◌}
use Rattle.hash_block.specs.Bytes.{bytes_from}
use Rattle.hash_block.proofs.ViewLemmas.{found_of}
use Rattle.hash_block.proofs.strings.view.StringsView.find_between.Goals as goal

pub returns-clause-found : goal.returns-clause-found
returns-clause-found c = λ are.
    found_of c.args.self.now (bytes_from c.args.bytes.now c.args.begin) (c.args.end - c.args.begin) c.number_of-number.result.0 c.kept_if.result are
    (c.number_of-number.ensures.number are.hash) c.kept_if.ensures
