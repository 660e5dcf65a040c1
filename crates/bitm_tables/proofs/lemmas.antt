pub mod EntryLemmas
pub mod HalvesLemmas
pub mod LengthLemmas
pub mod QuarterLemmas
pub mod RankLemmas
pub mod StretchLemmas
pub mod TableLemmas
pub mod TableMakingLemmas
