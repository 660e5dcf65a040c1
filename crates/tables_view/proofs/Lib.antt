pub mod BoundsLemmas
pub mod ClearingLemmas
pub mod FilledLemmas
pub mod NearestLemmas
pub mod SampleCheckLemmas
pub mod SamplingLemmas
