-- A digit of the word and the digit below it, that of the word before at digit 0.
use Rattle.std.proofs.Common.{◌-◌}
use Rattle.elias_fano_view.proofs.FollowLemmas.{before-first, before-later, follower-digit, IsBefore}
use Rattle.elias_fano_view.proofs.rising.followers.Goals as goal
use Rattle.elias_fano_view.proofs.rising.followers.Goals.{then-k-eq0, else-k-eq0}

pub returns : goal.returns
returns c = λ j low.
    let words = c.args.words.now in
    let k = c.args.k in
    let before : IsBefore words k c.if-k-eq0.before =
    elim c.if-k-eq0.branch [
      | then-k-eq0 w ↦ before-first words k c.if-k-eq0.before w.if-k-eq0.true w.before-is
      | else-k-eq0 w ↦ before-later words k c.if-k-eq0.before w.if-k-eq0.false (c.type_inv.words (k - 1)).fits w.before-is
    ] in
    follower-digit words k c.requires c.if-k-eq0.before before j low
