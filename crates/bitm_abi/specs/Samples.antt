-- Samples as C passes them.
use Rattle.std.specs.Prelude.{◌≡◌, Bool, length, min, if◌then◌else◌}
use Rattle.tables_view.specs.declared.samples.SamplesView.{SamplesView}
use Rattle.bitm_abi.specs.declared.samples.Samples.{Samples}
use Rattle.bitm_abi.specs.declared.index.Index.{Index}

-- the samples as the library takes them
abbrev pub borrowed_samples : Samples → SamplesView
borrowed_samples s = record { samples = s.samples; starts = s.starts; log2 = min s.log2 31 }

-- there are none
pub record HasNoSamples (s : Samples) : Type 0 where
  pub samples : length s.samples.now ≡ 0
  pub starts : length s.starts.now ≡ 0

-- an index's samples of one kind of bit
abbrev pub index_samples : Bool → Index → Samples
index_samples one index = if one then index.ones else index.zeros
