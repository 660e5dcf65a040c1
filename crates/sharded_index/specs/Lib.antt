pub mod Joined
pub mod Laws
pub mod Prefixes
pub mod Sharded
pub mod Shards
pub use Rattle.bit_lists.specs.Bits
pub use Rattle.bit_lists.specs.Count
