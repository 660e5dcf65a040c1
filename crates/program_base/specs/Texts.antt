-- What is said of each topic.
use Rattle.std.specs.Prelude.{ℕ, List}
use Rattle.program_base.specs.declared.help.texts.TheConstants.{ALL, BUILD, QUERY, CHECK, INFO, TEXT, STRINGS, VERSION}
use Rattle.program_base.specs.declared.help.topic.Topic.{Topic}
use Rattle.program_base.specs.declared.help.topic.Topic.TheVariants as topic

-- the characters of its text, without a last line feed
abbrev pub help_text : Topic → List ℕ
help_text topic.All = ALL.now
help_text topic.Build = BUILD.now
help_text topic.Query = QUERY.now
help_text topic.Check = CHECK.now
help_text topic.Info = INFO.now
help_text topic.Text = TEXT.now
help_text topic.Strings = STRINGS.now
help_text topic.Version = VERSION.now
