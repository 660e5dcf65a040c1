-- An index as C passes it.
use Rattle.bitm_view.specs.Cut.{Cut, cut_at}
use Rattle.tables_view.specs.Samples.{sampled}
use Rattle.tables_view.specs.Sizes.{lists_of}
use Rattle.bitm_abi.specs.Samples.{borrowed_samples}
use Rattle.bitm_abi.specs.declared.index.Index.{Index}

-- the words and tables of an index, and the length of the bit vector
abbrev pub cut_of : Index → Cut
cut_of index = cut_at (lists_of index.words.now index.upper.now index.lower.now) index.bits_len

-- and its samples of either kind
abbrev pub sampled_cut_of : Index → Cut
sampled_cut_of index =
    record (cut_of index) { ones = sampled (borrowed_samples index.ones); zeros = sampled (borrowed_samples index.zeros) }
