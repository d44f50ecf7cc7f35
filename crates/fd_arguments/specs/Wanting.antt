-- Promised. That memory was wanted for the words of a command line.
use Rattle.clap.specs.Words.{Text}
use Rattle.std.specs.Prelude.{List}
use Rattle.fd_arguments.specs.Refusing.{WordsWanted}

-- clap wanted memory to read these words, or the text that explains their fault wanted it. Only such a refusal gives it.
abbrev pub IsWantedFor : List Text → Type 0
IsWantedFor words = WordsWanted words
