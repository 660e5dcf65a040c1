pub mod SlotLemmas
pub mod ApartLemmas
pub mod PlacedLemmas
pub mod LevelsLemmas
pub mod FreeLemmas
pub mod OnceLemmas
pub mod BijectionLemmas
pub mod BuiltLemmas
