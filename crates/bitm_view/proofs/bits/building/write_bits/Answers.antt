-- There is room for the bits and their tables, and what is written are these.
use Rattle.std.proofs.Common.{length, ap, ◌∙◌, arith, rules}
use Rattle.bit_lists.specs.Bits.{bits_of}
use Rattle.tables_view.specs.Sizes.{lists_of}
use Rattle.bitm_view.specs.BitsBlock.{AreBits}
use Rattle.bitm_view.proofs.bits.building.write_bits.Goals as goal

pub returns : goal.returns
returns c =
    let upper = c.build_block.auto.upper ∙ ap length c.as_entries_mut.ensures.1 in
    let to = c.build_block.auto.to in
    let are : AreBits (bits_of c.args.words.now) c.args.len (lists_of c.build_block.new.to c.build_block.new.upper c.build_block.new.lower) = record {
      words_len = to ∙ c.requires.to;
      sized = record {
        short = omega (arith, to, c.requires.to, c.requires.short);
        upper_len = omega (arith, upper, to, c.requires.upper);
        lower_len = omega (arith, c.build_block.auto.lower, to, c.requires.lower);
      };
      bits = c.build_block.ensures.bits;
      tables = c.build_block.ensures.tables;
    } in
    search rules
