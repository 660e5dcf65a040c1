pub mod BlockLemmas
pub mod FrequentLemmas
pub mod LevelLemmas
pub mod PlainLemmas
pub mod SharedLemmas
pub mod TallyLemmas
