-- What an error says of itself.
use Rattle.std.specs.Prelude.{ℕ, List, codes}
use Rattle.tree_block.specs.declared.words.error.WordsError.{WordsError}
use Rattle.tree_block.specs.declared.words.error.WordsError.TheVariants.{NotWords, WrongLength, NotSorted}

-- the characters of its text
abbrev pub words_error_text : WordsError → List ℕ
words_error_text NotWords = codes "not the starts of words in these bytes"
words_error_text WrongLength = codes "not as long as the trie takes"
words_error_text NotSorted = codes "the words do not rise"
