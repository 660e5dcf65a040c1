-- What an error about labels says of itself.
use Rattle.std.specs.Prelude.{ℕ, List, codes}
use Rattle.louds.specs.declared.error.LabelsError.{LabelsError}
use Rattle.louds.specs.declared.error.LabelsError.TheVariants.{TooLong, NotATree, NotLabels, OutOfMemory}

-- the characters of its text
abbrev pub labels_error_text : LabelsError → List ℕ
labels_error_text TooLong = codes "there are 2^60 degrees or more"
labels_error_text NotATree = codes "the degrees are those of no tree"
labels_error_text NotLabels = codes "the labels are none for this tree"
labels_error_text OutOfMemory = codes "no memory"
