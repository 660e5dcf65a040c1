pub use Rattle.bit_lists.specs.Bits
pub use Rattle.bit_lists.specs.Count
