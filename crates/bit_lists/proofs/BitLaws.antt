-- Each law by its own name, for attributes and answers of callers:
-- `#[tactic(auto, using(bitm::proofs::BitLaws::counts_grow))]`.
use Rattle.std.proofs.Common.{arith}
use Rattle.bit_lists.specs.Count.{count_before}
use Rattle.bit_lists.specs.Laws.{ReadAfterWrite, NegatedTwice, SwappedTwice, SwappedWithItself, DigitsBoundPowers, OnesAndZeros, OnesAndZerosOfContent, CountsGrow, CountAfterItem, NoneBeforeTheFirst, AtMostOnePicked, OnePickedForEachRank, NonePickedFromTheCountOn, RankOfPicked, PickedByRank, NextOneIsSelected, PositionsRise, PositionsArePicked, PositionsAreCounted, AllBitsCome, NoBitsCome, BitsComeFromTheFront, BitsComeFromTheBack, EachBitOnce}
use Rattle.bit_lists.specs.StretchLaws.{ItemOfStretch, CountInStretch, PickedInStretch, PickedBetween, CountIsOfSame, EqualItemsCount, EqualItemsCountForOne, CountsAgree, BitsAreJoined, BitIsDigit, ItemAfterWrite}
use Rattle.bit_lists.specs.WriteLaws.{BitsAreCounted, PositionIsInside, WordIsItsBits, ZerosHaveNoOnes, ZerosAreCounted, ZerosAreZero, NoItemsAreZero, LengthIsKept, OneBitIsSet, ItemIsWritten, ItemBesideIsKept, NumberBesideIsKept, CountBeforeIsKept, OneMoreIsSet, OneMoreIsCleared, LastOneIsSet}
use Rattle.bit_lists.proofs.lemmas.BesideLemmas.{count_before-with_number, counts-cleared, counts-set, item-with_number_beside, item-zeros, number_at-none, number_at-with_number_beside, number_at-word, number_at-zeros, positions-set, zeros-counted}
use Rattle.bit_lists.proofs.lemmas.BitsLemmas.{item-bits_of, length-bits_of}
use Rattle.bit_lists.proofs.lemmas.ComingLemmas.{bits_coming_all, bits_coming_first, bits_coming_last, bits_coming_none, bits_coming_parts}
use Rattle.bit_lists.proofs.lemmas.CountLemmas.{count_before-le, count_before-none, count_before_more, ones_before-add-zeros_before, ones_of-add-zeros_of}
use Rattle.bit_lists.proofs.lemmas.CutLemmas.{item-stretch, cut_count, cut_pick, rank_between, same_items, run_count, run_count_other, same_count, bits_of-append, written_alone}
use Rattle.bit_lists.proofs.lemmas.DigitLemmas.{digit_count-power}
use Rattle.bit_lists.proofs.lemmas.FlipLemmas.{with_flips-with_flips}
use Rattle.bit_lists.proofs.lemmas.NumberLemmas.{item-with_number_inside, length-with_number, number_at-with_number, with_number-one}
use Rattle.bit_lists.proofs.lemmas.PickLemmas.{MatchesFirstOne-selected, Picks-positions, Picks-rank, length-positions, none_picked, positions-rise, same_from_Picks, some_picked}
use Rattle.bit_lists.proofs.lemmas.SwapLemmas.{with_swapped-itself, with_swapped-with_swapped}

-- a number that was written, and fits its width, is the number that is read there
pub read_after_write : ReadAfterWrite
read_after_write = number_at-with_number

-- to negate bits twice by one number leaves all bits as they were
pub negated_twice : NegatedTwice
negated_twice = with_flips-with_flips

-- to swap two fragments twice leaves all bits as they were
pub swapped_twice : SwappedTwice
swapped_twice = with_swapped-with_swapped

-- to swap a fragment with itself leaves all bits as they were
pub swapped_with_itself : SwappedWithItself
swapped_with_itself = with_swapped-itself

-- a number has at most k binary digits exactly where it is below two to the power of k
pub digits_bound_powers : DigitsBoundPowers
digits_bound_powers = digit_count-power

-- the ones and the zeros before a position are together as many as the positions before it
pub ones_and_zeros : OnesAndZeros
ones_and_zeros = ones_before-add-zeros_before

-- the ones and the zeros of words are together as many as their bits
pub ones_and_zeros_of_content : OnesAndZerosOfContent
ones_and_zeros_of_content = ones_of-add-zeros_of

-- no fewer items of a kind stand before a later position
pub counts_grow : CountsGrow
counts_grow = count_before-le

-- after an item there is one more of its kind, and no more of the other
pub count_after_item : CountAfterItem
count_after_item = λ b v i l. count_before_more v b i l

-- no items stand before the first position
pub none_before_the_first : NoneBeforeTheFirst
none_before_the_first = count_before-none

-- at most one position has a given bit and a given rank
pub at_most_one_picked : AtMostOnePicked
at_most_one_picked = same_from_Picks

-- for each rank below the count of a bit, some position has that bit and that rank
pub one_picked_for_each_rank : OnePickedForEachRank
one_picked_for_each_rank = some_picked

-- a rank is at least the count of a bit exactly where no position has that bit and that rank
pub none_picked_from_the_count_on : NonePickedFromTheCountOn
none_picked_from_the_count_on = none_picked

-- the rank of the position that was selected by a rank is that rank
pub rank_of_picked : RankOfPicked
rank_of_picked = λ b v r p picked. picked.before

-- the position selected by the rank of a position, for its own bit, is that position
pub picked_by_rank : PickedByRank
picked_by_rank = λ b v p within is.
    let here = Picks-rank b v p within is in
    (here, λ q there. same_from_Picks b v (count_before b v p) q p there here)

-- the rank of a position selects the first one from that position on
pub next_one_is_selected : NextOneIsSelected
next_one_is_selected = MatchesFirstOne-selected

-- the positions of a bit rise strictly
pub positions_rise : PositionsRise
positions_rise = positions-rise

-- item k of the positions of a bit is the position that is selected by rank k
pub positions_are_picked : PositionsArePicked
positions_are_picked = λ b v k l. Picks-positions b v k 0 l

-- there are as many positions of a bit as the count of that bit
pub positions_are_counted : PositionsAreCounted
positions_are_counted = λ b v. length-positions v 0 b

-- the bits of the range of all positions are all bits
pub all_bits_come : AllBitsCome
all_bits_come = bits_coming_all

-- a range that ends where it starts, or before, has no bits
pub no_bits_come : NoBitsCome
no_bits_come = bits_coming_none

-- the bits of a range are the bit at its start and then those of the range after it
pub bits_come_from_the_front : BitsComeFromTheFront
bits_come_from_the_front = bits_coming_first

-- the bits of a range are those of the range before its last position and then the bit there
pub bits_come_from_the_back : BitsComeFromTheBack
bits_come_from_the_back = bits_coming_last

-- what came from the front, what is left, and what came from the back are the bits of the range, each once
pub each_bit_once : EachBitOnce
each_bit_once = bits_coming_parts

-- words have 64 bits each
pub bits_are_counted : BitsAreCounted
bits_are_counted = length-bits_of

-- a position is inside exactly where its word is
pub position_is_inside : PositionIsInside
position_is_inside = λ words i. (λ inside. omega (arith, inside, length-bits_of words), λ within. omega (arith, within, length-bits_of words))

-- a word is the number of its 64 bits
pub word_is_its_bits : WordIsItsBits
word_is_its_bits = number_at-word

-- words that are 0 have no ones
pub zeros_have_no_ones : ZerosHaveNoOnes
zeros_have_no_ones = item-zeros

-- in words that are 0 no ones are counted, and as many zeros before a position as there are positions
pub zeros_are_counted : ZerosAreCounted
zeros_are_counted = zeros-counted

-- items that are zeros are the number 0
pub zeros_are_zero : ZerosAreZero
zeros_are_zero = number_at-zeros

-- no items are the number 0
pub no_items_are_zero : NoItemsAreZero
no_items_are_zero = number_at-none

-- a write leaves as many items as there were
pub length_is_kept : LengthIsKept
length_is_kept = length-with_number

-- one bit that is written is that item set, and nothing else
pub one_bit_is_set : OneBitIsSet
one_bit_is_set = with_number-one

-- an item that was written is the digit of the number at its position there
pub item_is_written : ItemIsWritten
item_is_written = item-with_number_inside

-- an item beside what was written is as it was
pub item_beside_is_kept : ItemBesideIsKept
item_beside_is_kept = item-with_number_beside

-- a number beside what was written is as it was
pub number_beside_is_kept : NumberBesideIsKept
number_beside_is_kept = number_at-with_number_beside

-- a count up to the position where a write begins is as it was
pub count_before_is_kept : CountBeforeIsKept
count_before_is_kept = count_before-with_number

-- after a zero that was made a one there is one one more, and one zero less
pub one_more_is_set : OneMoreIsSet
one_more_is_set = counts-set

-- after a one that was made a zero there is one one less, and one zero more
pub one_more_is_cleared : OneMoreIsCleared
one_more_is_cleared = counts-cleared

-- a one that was written after all ones is the last of their positions
pub last_one_is_set : LastOneIsSet
last_one_is_set = positions-set

-- item i of the items from item k on is item k + i of all
pub item_of_stretch : ItemOfStretch
item_of_stretch = item-stretch

-- the count before a position of a stretch, and the count before the stretch, are together that before the position
pub count_in_stretch : CountInStretch
count_in_stretch = cut_count

-- a position is picked in a stretch exactly where it is picked in all, by its rank and those before the stretch
pub picked_in_stretch : PickedInStretch
picked_in_stretch = cut_pick

-- ones and zeros are counted alike: the items that are the same as v
pub count_is_of_same : CountIsOfSame
count_is_of_same = same_items

-- a rank between those of two positions picks a position between them
pub picked_between : PickedBetween
picked_between = rank_between

-- among equal items each counts for its kind
pub equal_items_count : EqualItemsCount
equal_items_count = run_count

-- among equal items none counts for the other kind
pub equal_items_count_for_one : EqualItemsCountForOne
equal_items_count_for_one = run_count_other

-- where the items of two lists agree up to a position, so do the counts before it
pub counts_agree : CountsAgree
counts_agree = same_count

-- the bits of two contents, one behind the other, are the bits of the joined content
pub bits_are_joined : BitsAreJoined
bits_are_joined = bits_of-append

-- bit i of words is digit i mod 64 of word i / 64
pub bit_is_digit : BitIsDigit
bit_is_digit = item-bits_of

-- a bit that was written is the number's lowest digit, and each other item is as it was
pub item_after_write : ItemAfterWrite
item_after_write = written_alone

-- all of them
pub ruleset laws =
    (read_after_write, negated_twice, swapped_twice, swapped_with_itself, digits_bound_powers, ones_and_zeros, ones_and_zeros_of_content, counts_grow, count_after_item, none_before_the_first, at_most_one_picked, one_picked_for_each_rank, none_picked_from_the_count_on, rank_of_picked, picked_by_rank, next_one_is_selected, positions_rise, positions_are_picked, positions_are_counted, all_bits_come, no_bits_come, bits_come_from_the_front, bits_come_from_the_back, each_bit_once, bits_are_counted, position_is_inside, word_is_its_bits, zeros_have_no_ones, zeros_are_counted, zeros_are_zero, no_items_are_zero, length_is_kept, one_bit_is_set, item_is_written, item_beside_is_kept, number_beside_is_kept, count_before_is_kept, one_more_is_set, one_more_is_cleared, last_one_is_set, item_of_stretch, count_in_stretch, picked_in_stretch, count_is_of_same, picked_between, equal_items_count, equal_items_count_for_one, counts_agree, bits_are_joined, bit_is_digit, item_after_write)
