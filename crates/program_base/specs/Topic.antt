-- The topic that the arguments name.
use Rattle.std.specs.Prelude.{ℕ, List, [], ◌∷◌, codes, Bool, ◌||◌, Option, None, Some, if◌then◌else◌}
use Rattle.std.specs.Str.{bytes_eq}
use Rattle.program_base.specs.declared.help.topic.Topic.{Topic}
use Rattle.program_base.specs.declared.help.topic.Topic.TheVariants.{All, Build, Query, Check, Info, Text, Strings, Version}

-- the topic of a command's first word
unfoldable pub topic_named : List ℕ → Option Topic
topic_named word =
    if bytes_eq word (codes "build") then Some Build
    else if bytes_eq word (codes "query") then Some Query
    else if bytes_eq word (codes "check") then Some Check
    else if bytes_eq word (codes "info") then Some Info
    else if bytes_eq word (codes "text") then Some Text
    else if bytes_eq word (codes "strings") then Some Strings
    else None

-- whether a word stands for help
abbrev pub is_help : List ℕ → Bool
is_help word = bytes_eq word (codes "--help") || bytes_eq word (codes "-h")

-- the topic that one argument names
unfoldable pub topic_of : List ℕ → Option Topic
topic_of word =
    if is_help word || bytes_eq word (codes "help") then Some All
    else if bytes_eq word (codes "--version") then Some Version
    else None

-- the topic that two arguments name
unfoldable pub topic_of_two : List ℕ → List ℕ → Option Topic
topic_of_two word last =
    if bytes_eq word (codes "help") then topic_named last
    else if is_help last then topic_named word
    else None

-- the topic that a command of two words and help after it name
unfoldable pub topic_of_three : List ℕ → List ℕ → Option Topic
topic_of_three word last = if bytes_eq word (codes "text") || bytes_eq word (codes "strings") then topic_of_two word last else None

-- the topic that the arguments name
abbrev pub topic_in : List (List ℕ) → Option Topic
topic_in [] = None
topic_in (word ∷ []) = topic_of word
topic_in (word ∷ last ∷ []) = topic_of_two word last
topic_in (word ∷ between ∷ last ∷ []) = topic_of_three word last
topic_in (word ∷ between ∷ last ∷ other ∷ more) = None
