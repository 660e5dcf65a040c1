pub mod JoinedLaws
pub mod JoinedLemmas
pub mod LocationLemmas
pub mod RightCountLemmas
pub mod ShardedLemmas
