pub mod Next
pub mod Merged
pub mod Shared
pub mod Spot
pub mod Moves
pub mod Held
pub mod Joined
pub mod Pair
