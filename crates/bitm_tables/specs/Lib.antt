pub mod Answers
pub mod Entry
pub mod Quarters
pub mod Reads
pub mod Tables
pub use Rattle.bit_lists.specs.Bits
pub use Rattle.bit_lists.specs.Count
