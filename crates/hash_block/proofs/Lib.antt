pub mod KeyLemmas
pub mod BlockLemmas
mod NumberedLemmas
pub mod SeedLemmas
pub mod MovedLemmas
pub mod SeededBlockLemmas
pub mod ArrangeLemmas
pub mod StringsBlockLemmas
pub mod ByteLemmas
pub mod GivenLemmas
pub mod HashLemmas
pub mod NumberLemmas
pub mod PlaceLemmas
pub mod ViewLemmas
