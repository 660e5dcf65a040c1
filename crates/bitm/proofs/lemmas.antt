pub mod NearLemmas
pub mod SimpleLemmas
