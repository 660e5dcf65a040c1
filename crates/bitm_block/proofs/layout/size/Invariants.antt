use Rattle.std.proofs.Common.{◌≡◌, ◌+◌, ◌*◌, ◌^◌, ◌<◌, ◌≤◌, All, length, sum_by, take}
use Rattle.bitm_block.specs.Layout.{head_of, room_of}
use Rattle.bitm_block.proofs.layout.size.Given as goal

-- the sections so far are short, and the next one begins after them
abbrev pub invariant-loop-section : goal.invariant-loop-section
invariant-loop-section l = record {
  counts : All (λ s. s.count < 2 ^ 58) (take l.section-index l.sections);
  at : l.at ≡ head_of (length l.sections) + sum_by room_of (take l.section-index l.sections);
  most : l.at ≤ 80 + l.section-index * 2 ^ 58;
}
