pub mod HashLemmas
pub mod ListedLemmas
pub mod StoredLemmas
pub mod ClaimedLemmas
