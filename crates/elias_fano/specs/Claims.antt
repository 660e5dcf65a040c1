-- What parts claim of how many numbers are less than a value, whatever they hold.
use Rattle.std.specs.Prelude.{◌≡◌, ⊤, ℕ, ◌+◌, ◌-◌, ◌/◌, ◌%◌, ◌^◌, ◌<◌, ◌≤◌, ◌⊎◌, false, List, length}
use Rattle.bit_lists.specs.Bits.{item}
use Rattle.bitm_tables.specs.Tables.{Lists, bits_in}
use Rattle.bitm_tables.specs.Entry.{less}
use Rattle.bitm_select.specs.Claims.{ClaimsNone}
use Rattle.elias_fano.specs.SequenceParts.{SequenceParts}
use Rattle.elias_fano.specs.Low.{fragment, unread}
use Rattle.bitm_tables.specs.declared.answer.Answer.{Answer}
use Rattle.bitm_tables.specs.declared.answer.Answer.TheVariants.{Found, Absent, Wrong}

-- a 0 bit of the words is c positions after z, as numbers of 64 bits
pub record HasZeroAfter (lists : Lists) (z c : ℕ) : Type 0 where
  pub position : ℕ
  pub inside : position < length (bits_in lists)
  pub zero : item (bits_in lists) position ≡ false
  pub count : c ≡ less position z

-- the words claim that c of n numbers have high bits of at most z: by the 0 bit of z, or all, where words and tables
-- claim at most z 0 bits
abbrev pub ClaimsTo : Lists → ℕ → ℕ → ℕ → Type 0
ClaimsTo lists n z c = HasZeroAfter lists z c ⊎ ((c ≡ n) × ClaimsNone false lists z)

-- the words claim that c of n numbers have high bits less than h; none where h is 0
pub record ClaimsBelow (lists : Lists) (n h c : ℕ) : Type 0 where
  pub none : h ≡ 0 → c ≡ 0
  pub some : 0 < h → ClaimsTo lists n (h - 1) c

-- index p parts the low bits from first on and before end: those right before it are below rest, and its own are not;
-- it is first where there are no low bits
pub record PartsAt (lows : ℕ → ℕ) (width first end rest p : ℕ) : Type 0 where
  pub from : first ≤ p
  pub to : p ≤ end
  pub whole : width ≡ 0 → p ≡ first
  pub less : first < p → lows (p - 1) < rest
  pub at_least : p < end → rest ≤ lows p

-- four parts claim that p of their numbers are less than v: the words, where the numbers with the high bits of v start
-- and end, and the low bits, where these part
pub record ClaimLess (len width : ℕ) (low : List ℕ) (upper : Lists) (v p : ℕ) : Type 0 where
  pub first : ℕ
  pub end : ℕ
  pub begins : ClaimsBelow upper len (v / 2 ^ width) first
  pub ends : 0 < width → ClaimsTo upper len (v / 2 ^ width) end
  pub within : end ≤ len
  pub parting : PartsAt (fragment (unread low width)) width first end (v % 2 ^ width) p

-- the parts claim it, whatever hints they have
abbrev pub ClaimsLess : SequenceParts → ℕ → ℕ → Type 0
ClaimsLess parts = ClaimLess parts.len parts.width parts.low parts.upper

-- four parts claim that p of their numbers are at most v: all, where v is the greatest number of 64 bits
pub record ClaimAtMost (len width : ℕ) (low : List ℕ) (upper : Lists) (v p : ℕ) : Type 0 where
  pub next : v + 1 < 2 ^ 64 → ClaimLess len width low upper (v + 1) p
  pub greatest : 2 ^ 64 ≤ v + 1 → p ≡ len

-- the parts claim it, whatever hints they have
abbrev pub ClaimsAtMost : SequenceParts → ℕ → ℕ → Type 0
ClaimsAtMost parts = ClaimAtMost parts.len parts.width parts.low parts.upper

-- P of the index that is found, and of n where the answer is Absent
abbrev pub IfIndex : ℕ → Answer ℕ → (ℕ → Type 0) → Type 0
IfIndex n (Found p) P = P p
IfIndex n Absent P = P n
IfIndex n Wrong P = ⊤

-- P of the number of items up to the index that is found, and of 0 where the answer is Absent
abbrev pub IfLast : Answer ℕ → (ℕ → Type 0) → Type 0
IfLast (Found p) P = P (p + 1)
IfLast Absent P = P 0
IfLast Wrong P = ⊤
