-- What is answered over the numbers and indexes is reported of the shards.
use Rattle.std.proofs.Common.{ℕ, List, All, map, refl, sym, subst}
use Rattle.bitm_tables.specs.declared.answer.Answer.{Answer}
use Rattle.bitm_select.specs.Answers.{IsSelected}
use Rattle.sharded_index.specs.Prefixes.{Prefixes as Counts, claimed_in_all, ArePrefixes}
use Rattle.sharded_index.specs.Shards.{IfFoundHasBit, IsOfRank}
use Rattle.sharded_index.specs.Joined.{joined, kind_of}
use Rattle.bitm_c.specs.Shards.{SelectsJoined}
use Rattle.bitm_abi.proofs.ClaimedLemmas.{claimed}
use Rattle.bitm_abi.specs.Shards.{bits_in_index, counts_in, shard_bits, HasShards, IsRightIndex}
use Rattle.bitm_abi.specs.declared.index.Index.{Index}
use Rattle.bitm_abi.specs.declared.shards.Shards.{Shards}
use Rattle.bitm_c.proofs.shards.bitm_shards_select.Goals as goal

pub returns-in-Some : goal.returns-in-Some
returns-in-Some c =
    let shards = c.args.shards.now in
    let over = c.in-Some.ensures in
    let one = c.args.one in
    let rank = c.args.rank in
    let answer = c.select.result in
    let index = c.in-Some.index in
    claimed (λ (it : Shards) (r : Answer ℕ). SelectsJoined one it rank r) shards shards refl (HasShards shards) over.has c.report.result
    c.args.out.now c.report.new.out answer c.report.ensures (record {
      bit =
          subst (λ (n : Counts). IfFoundHasBit one (shard_bits shards) n answer) over.counts_are
          (subst (λ (it : List Index). IfFoundHasBit one (map bits_in_index it) index.counts answer) over.shards_are c.select.ensures.bit);
      absent = subst (λ (n : Counts). IsOfRank (claimed_in_all (kind_of one) n) rank answer) over.counts_are c.select.ensures.absent;
      counts = λ right.
          subst (λ (it : List Index). IsSelected (joined (map bits_in_index it)) one rank answer) over.shards_are
          (c.select.ensures.counts (record {
            prefixes =
                subst (λ (n : Counts). ArePrefixes (map bits_in_index index.shards.now) n) (sym over.counts_are)
                (subst (λ (it : List Index). ArePrefixes (map bits_in_index it) (counts_in shards.counts)) (sym over.shards_are) right.prefixes);
            tables = subst (λ (it : List Index). All IsRightIndex it) (sym over.shards_are) right.indexes;
          }));
    })
