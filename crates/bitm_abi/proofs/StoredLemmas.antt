-- What the numbers of a header say of its parts.
use Rattle.std.proofs.Common.{◌≡◌, ℕ, zero, suc, ◌+◌, ◌-◌, ◌*◌, ◌/◌, ◌^◌, ◌<◌, ◌≤◌, ◌⊎◌, sym, subst, ap, ◌∙◌, ◌↔◌, inl, inr, arith}
use Rattle.std.proofs.Math.Nat.{div-le_self, mul-le-mul_left}
use Rattle.bitm_strategies.specs.Density.{clamped_log}
use Rattle.bitm_view.specs.Block.{sample_room}
use Rattle.bitm_abi.specs.Stored.{IsAlike, IsBoundedHeader, IsIndexHeader, IsLaidOut, IsSequenceHeader, LiesWithin}
use Rattle.bitm_abi.specs.declared.layout.Span.{Span}
use Rattle.bitm_abi.specs.declared.layout.Stored.{Stored}

-- a span of these numbers
abbrev span : ℕ → ℕ → Span
span at len = record { at = at; len = len }

-- no more samples than words, and one
room_few : (words log : ℕ) → sample_room words log ≤ words + 1
room_few words zero = omega arith
room_few words (suc log) = omega (arith, div-le_self words (2 ^ (clamped_log (suc log) - 6)))

-- neither an index nor a sequence has a part that is too long
pub bounded : (h : Stored) → IsIndexHeader h ⊎ IsSequenceHeader h → IsBoundedHeader h
bounded h (inl i) =
    let short : h.words.len < 2 ^ 58 = omega (arith, i.short, i.words) in
    record {
      words = short;
      low = omega (arith, i.low);
      samples = omega (arith, short, i.ones.room, room_few h.words.len h.ones_log2);
      samples0 = omega (arith, short, i.zeros.room, room_few h.words.len h.zeros_log2);
    }
bounded h (inr s) =
    let few : h.len * h.width ≤ h.len * 63 = mul-le-mul_left h.len s.width in
    record {
      words = s.words;
      low = omega (arith, s.low, s.short, few);
      samples = omega (arith, s.ones);
      samples0 = omega (arith, s.zeros);
    }

-- spans with the same numbers are one
pub same_span : (s t : Span) → s.at ≡ t.at → s.len ≡ t.len → s ≡ t
same_span s t at len = ap (λ (n : ℕ). span n s.len) at ∙ ap (λ (n : ℕ). span t.at n) len

-- a header of the same numbers
abbrev anew : Stored → Stored
anew h = record {
  mark = h.mark;
  kind = h.kind;
  len = h.len;
  width = h.width;
  size = h.size;
  ones_log2 = h.ones_log2;
  zeros_log2 = h.zeros_log2;
  words = h.words;
  upper = h.upper;
  lower = h.lower;
  low = h.low;
  starts = h.starts;
  starts0 = h.starts0;
  samples = h.samples;
  samples0 = h.samples0;
  checksum = h.checksum;
}

-- headers with the same numbers are one
pub same_stored : (h k : Stored) → h.mark ≡ k.mark → h.kind ≡ k.kind → h.len ≡ k.len → h.width ≡ k.width
    → h.size ≡ k.size → h.ones_log2 ≡ k.ones_log2 → h.zeros_log2 ≡ k.zeros_log2 → h.words ≡ k.words
    → h.upper ≡ k.upper → h.lower ≡ k.lower → h.low ≡ k.low → h.starts ≡ k.starts
    → h.starts0 ≡ k.starts0 → h.samples ≡ k.samples → h.samples0 ≡ k.samples0 → h.checksum ≡ k.checksum → h ≡ k
same_stored h k mark kind len width size ones_log2 zeros_log2 words upper lower low starts starts0 samples samples0 checksum =
    let all : anew h ≡ anew k = cc in
    all

-- two headers with the same lengths, both with each part at its position, are one
pub same_layout : (h k : Stored) → IsLaidOut h → IsLaidOut k → IsAlike k h → h ≡ k
same_layout h k a b same =
    let words : h.words ≡ k.words = same_span h.words k.words (cc (a.words, b.words)) (sym same.words) in
    let upper : h.upper ≡ k.upper = cc (a.upper, b.upper, words) in
    let lower : h.lower ≡ k.lower = cc (a.lower, b.lower, words, upper) in
    let low : h.low ≡ k.low = same_span h.low k.low (cc (a.low, b.low, lower)) (sym same.low) in
    let starts : h.starts ≡ k.starts = cc (a.starts, b.starts, same.ones_log2, upper, low) in
    let starts0 : h.starts0 ≡ k.starts0 = cc (a.starts0, b.starts0, same.zeros_log2, upper, starts) in
    let samples : h.samples ≡ k.samples = same_span h.samples k.samples (cc (a.samples, b.samples, starts0)) (sym same.samples) in
    let samples0 : h.samples0 ≡ k.samples0 = same_span h.samples0 k.samples0 (cc (a.samples0, b.samples0, samples)) (sym same.samples0) in
    let size : h.size ≡ k.size = cc (a.size, b.size, samples0) in
    let mark : h.mark ≡ k.mark = cc (a.mark, b.mark) in
    let same_kind = sym same.kind in
    let same_len = sym same.len in
    let same_width = sym same.width in
    let same_ones = sym same.ones_log2 in
    let same_zeros = sym same.zeros_log2 in
    let checksum : h.checksum ≡ k.checksum = cc in
    same_stored h k mark same_kind same_len same_width size same_ones same_zeros words upper lower low
    starts starts0 samples samples0 checksum

-- what is equal to a header with each part at its position is one
pub moved : (h k : Stored) → h ≡ k → IsLaidOut k → IsLaidOut h
moved h k same l = subst (λ (x : Stored). IsLaidOut x) (sym same) l

-- the parts follow one another
pub lies_within : (h : Stored) (n : ℕ) → IsLaidOut h → h.size / 8 ≤ n → LiesWithin h (8 * n)
lies_within h n l fits = record {
  words = omega (arith, l.words);
  upper = omega (arith, ap (λ (s : Span). s.at) l.upper);
  lower = omega (arith, ap (λ (s : Span). s.at) l.lower);
  low = omega (arith, l.low);
  starts = omega (arith, ap (λ (s : Span). s.at) l.starts);
  starts0 = omega (arith, ap (λ (s : Span). s.at) l.starts0);
  samples = omega (arith, l.samples);
  samples0 = omega (arith, l.samples0);
  end = omega (arith, l.size, fits);
}

-- a size is a multiple of 64, so a file is as long as it exactly where it is as long in words
pub whole : (h : Stored) (n : ℕ) → IsLaidOut h → (h.size / 8 ≤ n) ↔ (h.size ≤ 8 * n)
whole h n l = (λ fits. omega (arith, l.size, fits), λ fits. omega (arith, l.size, fits))
