-- At first all numbers of the range are coming.
use Rattle.std.proofs.Common.{◌-◌, ◌^◌, ◌<◌, slice_range}
use Rattle.std.proofs.lemmas.List.Elements.{All-take, All-drop}
use Rattle.matrix_levels.proofs.DistinctLemmas.{coming-all}
use Rattle.wavelet_matrix.proofs.matrix.WaveletMatrix.distinct.Goals as goal

pub returns : goal.returns
returns g c =
    let m = c.args.self.now in
    let r = c.args.range in
    coming-all (slice_range m.items r.start r.end) (2 ^ m.width)
    (All-take (λ x. x < 2 ^ m.width) (r.end - r.start) _ (All-drop (λ x. x < 2 ^ m.width) r.start m.items c.width-width.ensures.fit))
