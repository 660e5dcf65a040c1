-- The header of a stored index or sequence, and where each of its parts is.
use Rattle.std.specs.Prelude.{◌≡◌, ◌≢◌, ℕ, ◌+◌, ◌-◌, ◌*◌, ◌/◌, ◌%◌, ◌^◌, ◌<◌, ◌≤◌, ◌⊎◌, List, length, slice_index}
use Rattle.std.specs.Int.{div_ceil}
use Rattle.bitm_view.specs.Block.{sample_room, starts_of}
use Rattle.bitm_abi.specs.declared.layout.Span.{Span}
use Rattle.bitm_abi.specs.declared.layout.Stored.{Stored}
use Rattle.bitm_abi.specs.declared.sequence.SequenceLens.{SequenceLens}

-- the first multiple of 64 from n on
abbrev pub aligned_bytes : ℕ → ℕ
aligned_bytes n = (n + 63) / 64 * 64

-- a part of the given number of items from there on
abbrev pub span_from : ℕ → ℕ → Span
span_from n len = record { at = aligned_bytes n; len = len }

-- the first byte after the items of a part, of the given size each
abbrev pub end_of_span : Span → ℕ → ℕ
end_of_span span bytes = span.at + span.len * bytes

-- a checksum with one more number mixed in
unfoldable pub mixed : ℕ → ℕ → ℕ
mixed sum n = (sum * 0x9e37_79b9_7f4a_7c15 % 2 ^ 64 + n) % 2 ^ 64

-- a checksum with the two numbers of a part mixed in
abbrev pub span_mixed : ℕ → Span → ℕ
span_mixed sum span = mixed (mixed sum span.at) span.len

-- all numbers of a header but the checksum itself
abbrev pub header_checksum : Stored → ℕ
header_checksum h =
    let numbers = mixed (mixed (mixed (mixed (mixed (mixed (mixed 0 h.mark) h.kind) h.len) h.width) h.size) h.ones_log2) h.zeros_log2 in
    let vectors = span_mixed (span_mixed (span_mixed (span_mixed numbers h.words) h.upper) h.lower) h.low in
    span_mixed (span_mixed (span_mixed (span_mixed vectors h.starts) h.starts0) h.samples) h.samples0

-- each part starts at the first multiple of 64 bytes after the part before it, the words after the 192 bytes of the
-- header, and has the length that the words, the low bits and the samples give it
pub record IsLaidOut (h : Stored) : Type 0 where
  pub mark : h.mark ≡ 0x0262_6174_6d74_6962
  pub words : h.words.at ≡ 192
  pub upper : h.upper ≡ span_from (end_of_span h.words 8) (div_ceil h.words.len (2 ^ 26))
  pub lower : h.lower ≡ span_from (end_of_span h.upper 8) (div_ceil h.words.len 32)
  pub low : h.low.at ≡ aligned_bytes (end_of_span h.lower 8)
  pub starts : h.starts ≡ span_from (end_of_span h.low 8) (starts_of h.ones_log2 h.upper.len)
  pub starts0 : h.starts0 ≡ span_from (end_of_span h.starts 8) (starts_of h.zeros_log2 h.upper.len)
  pub samples : h.samples.at ≡ aligned_bytes (end_of_span h.starts0 8)
  pub samples0 : h.samples0.at ≡ aligned_bytes (end_of_span h.samples 4)
  pub size : h.size ≡ aligned_bytes (end_of_span h.samples0 4)
  pub checksum : h.checksum ≡ header_checksum h

-- a logarithm and samples of one kind that the given number of words can have, or neither
pub record HasSampleLens (words log n : ℕ) : Type 0 where
  pub low : log ≢ 0 → 7 ≤ log
  pub high : log ≤ 31
  pub room : n ≤ sample_room words log

-- a header with the lengths of an index
pub record IsIndexHeader (h : Stored) : Type 0 where
  pub kind : h.kind ≡ 1
  pub short : h.len ≤ 2 ^ 64 - 64
  pub width : h.width ≡ 0
  pub words : h.words.len ≡ div_ceil h.len 64
  pub low : h.low.len ≡ 0
  pub ones : HasSampleLens h.words.len h.ones_log2 h.samples.len
  pub zeros : HasSampleLens h.words.len h.zeros_log2 h.samples0.len

-- a header with the lengths of a sequence, which has no samples
pub record IsSequenceHeader (h : Stored) : Type 0 where
  pub kind : h.kind ≡ 2
  pub short : h.len < 2 ^ 56
  pub width : h.width ≤ 63
  pub words : h.words.len < 2 ^ 58
  pub low : h.low.len ≡ div_ceil (h.len * h.width) 64
  pub ones_log2 : h.ones_log2 ≡ 0
  pub ones : h.samples.len ≡ 0
  pub zeros_log2 : h.zeros_log2 ≡ 0
  pub zeros : h.samples0.len ≡ 0

-- the header of an index or a sequence
pub record IsStored (h : Stored) : Type 0 where
  pub laid_out : IsLaidOut h
  pub shape : IsIndexHeader h ⊎ IsSequenceHeader h

-- the parts are so short that each offset fits 64 bits
pub record IsBoundedHeader (h : Stored) : Type 0 where
  pub words : h.words.len < 2 ^ 58
  pub low : h.low.len ≤ 2 ^ 58
  pub samples : h.samples.len ≤ 2 ^ 58
  pub samples0 : h.samples0.len ≤ 2 ^ 58

-- the numbers from which all others follow are those of k
pub record IsAlike (h k : Stored) : Type 0 where
  pub kind : h.kind ≡ k.kind
  pub len : h.len ≡ k.len
  pub width : h.width ≡ k.width
  pub ones_log2 : h.ones_log2 ≡ k.ones_log2
  pub zeros_log2 : h.zeros_log2 ≡ k.zeros_log2
  pub words : h.words.len ≡ k.words.len
  pub low : h.low.len ≡ k.low.len
  pub samples : h.samples.len ≡ k.samples.len
  pub samples0 : h.samples0.len ≡ k.samples0.len

-- the parts follow one another after the header, and the last ends within the given number of bytes
pub record LiesWithin (h : Stored) (bytes : ℕ) : Type 0 where
  pub words : 192 ≤ h.words.at
  pub upper : end_of_span h.words 8 ≤ h.upper.at
  pub lower : end_of_span h.upper 8 ≤ h.lower.at
  pub low : end_of_span h.lower 8 ≤ h.low.at
  pub starts : end_of_span h.low 8 ≤ h.starts.at
  pub starts0 : end_of_span h.starts 8 ≤ h.starts0.at
  pub samples : end_of_span h.starts0 8 ≤ h.samples.at
  pub samples0 : end_of_span h.samples 4 ≤ h.samples0.at
  pub end : end_of_span h.samples0 4 ≤ bytes

-- the part that two numbers of a list describe
abbrev pub span_in : List ℕ → ℕ → Span
span_in xs i = record { at = slice_index xs i; len = slice_index xs (i + 1) }

-- the header that the first words of a list hold
abbrev pub header_in : List ℕ → Stored
header_in xs = record {
  mark = slice_index xs 0;
  kind = slice_index xs 1;
  len = slice_index xs 2;
  width = slice_index xs 3;
  size = slice_index xs 4;
  ones_log2 = slice_index xs 5;
  zeros_log2 = slice_index xs 6;
  words = span_in xs 7;
  upper = span_in xs 9;
  lower = span_in xs 11;
  low = span_in xs 13;
  starts = span_in xs 15;
  starts0 = span_in xs 17;
  samples = span_in xs 19;
  samples0 = span_in xs 21;
  checksum = slice_index xs 23;
}

-- a file of 64-bit words starts with a header, and is as long as that claims
pub record IsHeaded (file : List ℕ) : Type 0 where
  pub long : 24 ≤ length file
  pub stored : IsStored (header_in file)
  pub whole : (header_in file).size ≤ 8 * length file

-- an index of the given number of bits, with the given numbers of samples of 1 bits and of 0 bits and their logarithms
pub record IsIndexHeaderOf (bits log n log0 n0 : ℕ) (h : Stored) : Type 0 where
  pub kind : h.kind ≡ 1
  pub len : h.len ≡ bits
  pub width : h.width ≡ 0
  pub words : h.words.len ≡ div_ceil bits 64
  pub low : h.low.len ≡ 0
  pub ones_log2 : h.ones_log2 ≡ log
  pub samples : h.samples.len ≡ n
  pub zeros_log2 : h.zeros_log2 ≡ log0
  pub samples0 : h.samples0.len ≡ n0

-- a sequence of the given number of numbers, with vectors of the given lengths
pub record IsSequenceOf (n : ℕ) (lens : SequenceLens) (h : Stored) : Type 0 where
  pub kind : h.kind ≡ 2
  pub len : h.len ≡ n
  pub width : h.width ≡ lens.width
  pub words : h.words.len ≡ lens.words_len
  pub low : h.low.len ≡ lens.low_len
  pub ones_log2 : h.ones_log2 ≡ 0
  pub samples : h.samples.len ≡ 0
  pub zeros_log2 : h.zeros_log2 ≡ 0
  pub samples0 : h.samples0.len ≡ 0

-- a logarithm of samples, or 0 for no samples
pub record IsLog (log : ℕ) : Type 0 where
  pub low : log ≢ 0 → 7 ≤ log
  pub high : log ≤ 31

-- an index can have the given number of bits, with the given numbers of samples
pub record HasIndexLens (bits log n log0 n0 : ℕ) : Type 0 where
  pub short : bits ≤ 2 ^ 64 - 64
  pub ones : HasSampleLens (div_ceil bits 64) log n
  pub zeros : HasSampleLens (div_ceil bits 64) log0 n0

-- the vectors of a sequence of the given number of numbers can have the given lengths, and the tables have the lengths
-- of theirs
pub record HasSequenceLens (n : ℕ) (lens : SequenceLens) : Type 0 where
  pub short : n < 2 ^ 56
  pub width : lens.width ≤ 63
  pub words : lens.words_len < 2 ^ 58
  pub low : lens.low_len ≡ div_ceil (n * lens.width) 64
  pub upper : lens.upper_len ≡ div_ceil lens.words_len (2 ^ 26)
  pub lower : lens.lower_len ≡ div_ceil lens.words_len 32
