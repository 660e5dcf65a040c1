-- The value keeps the samples of the words that it supports.
use Rattle.std.proofs.Common.{refl, length, ap, arith}
use Rattle.bit_lists.specs.Bits.{bits_of}
use Rattle.bitm_strategies.specs.Samples.{Sampled}
use Rattle.bitm_strategies.proofs.lemmas.WalkLemmas.{count_is_total}
use Rattle.bitm_strategies.proofs.combined.CombinedSampling.sample_count.Goals as goal

pub returns-clause-len : goal.returns-clause-len
returns-clause-len g c =
    omega (arith, c.len.ensures, ap length (ap (λ (s : Sampled _). s.samples) c.self.view_is), c.self.inside.samples.items.ok.0)

pub returns-clause-count : goal.returns-clause-count
returns-clause-count g c v words s =
    count_is_total (bits_of words) v _ _ c.len.result _ s.samples_are refl (returns-clause-len g c)
