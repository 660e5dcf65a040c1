pub mod CheckLemmas
pub mod FollowLemmas
pub mod RestLemmas
pub mod RiseLemmas
pub mod RoomLemmas
