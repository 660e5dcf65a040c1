-- The question of a line.
use Rattle.std.specs.Prelude.{ℕ, List, [], ◌∷◌, codes, Option, None, Some, option_map, option_and_then, if◌then◌else◌}
use Rattle.std.specs.Str.{bytes_eq}
use Rattle.program_base.specs.Text.{decimal_of, only_part, parts_between_spaces}
use Rattle.program_files.specs.declared.blocks.question.Question.{Question}
use Rattle.program_files.specs.declared.blocks.question.Question.TheVariants.{One, Two}
use Rattle.program_files.specs.declared.blocks.question.Word.{Word}
use Rattle.program_files.specs.declared.blocks.question.Word.TheVariants.{Get, Rank, Rank0, Select, Select0, Next, Next0, Previous, Previous0}
use Rattle.program_files.specs.declared.blocks.question.Word.TheVariants.{Parent, Child, ChildRank, Degree, NextSibling, PreviousSibling}

-- the word of this name for a node of a tree or the number of its children
unfoldable pub tree_word : List ℕ → Option Word
tree_word name =
    if bytes_eq name (codes "parent") then Some Parent
    else if bytes_eq name (codes "child") then Some Child
    else if bytes_eq name (codes "child_rank") then Some ChildRank
    else if bytes_eq name (codes "degree") then Some Degree
    else if bytes_eq name (codes "next_sibling") then Some NextSibling
    else if bytes_eq name (codes "previous_sibling") then Some PreviousSibling
    else None

-- the word of this name for what is beside a position or a value, or else what tree_word says
unfoldable pub near_word : List ℕ → Option Word
near_word name =
    if bytes_eq name (codes "next") then Some Next
    else if bytes_eq name (codes "next0") then Some Next0
    else if bytes_eq name (codes "previous") then Some Previous
    else if bytes_eq name (codes "previous0") then Some Previous0
    else tree_word name

-- the word of this name for a bit or a number, or a count, or else what near_word says
unfoldable pub list_word : List ℕ → Option Word
list_word name =
    if bytes_eq name (codes "get") then Some Get
    else if bytes_eq name (codes "rank") then Some Rank
    else if bytes_eq name (codes "rank0") then Some Rank0
    else if bytes_eq name (codes "select") then Some Select
    else if bytes_eq name (codes "select0") then Some Select0
    else near_word name

-- both numbers, if there are both
abbrev pub both : Option ℕ → Option ℕ → Option (ℕ × ℕ)
both None second = None
both (Some first) None = None
both (Some first) (Some second) = Some (first, second)

-- the two numbers that just two parts write
abbrev pub pair_of : List (List ℕ) → Option (ℕ × ℕ)
pair_of [] = None
pair_of (first ∷ rest) = both (decimal_of first) (option_and_then decimal_of (only_part rest))

-- the question of a word, with the number of the one part after it, or else with two numbers
abbrev pub question_with : Word → Option (List ℕ) → Option (ℕ × ℕ) → Option Question
question_with word (Some part) pair = option_map (λ number. One word number) (decimal_of part)
question_with word None pair = option_map (λ numbers. Two word numbers.0 numbers.1) pair

abbrev pub question_of_parts : List (List ℕ) → Option Question
question_of_parts [] = None
question_of_parts (name ∷ rest) = option_and_then (λ word. question_with word (only_part rest) (pair_of rest)) (list_word name)

-- the question of a line, and None where it is none
abbrev pub question_of : List ℕ → Option Question
question_of line = question_of_parts (parts_between_spaces line)
