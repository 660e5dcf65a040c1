pub mod Counting
pub mod Nearest
pub mod Ranks
pub mod Samples
pub mod Sizes
