pub mod DensityLemmas
pub mod MadeLemmas
pub mod PartLemmas
pub mod SampleLemmas
pub mod SampledPartLemmas
pub mod WalkLemmas
