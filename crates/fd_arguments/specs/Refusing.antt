-- Working. What only want of memory for the words of a command line gives. It is shut, and this file is closed to other crates, so that nobody there can make
-- one.
use Rattle.clap.specs.Words.{Text}
use Rattle.std.specs.Prelude.{List}

pub WordsWanted : List Text → Type 0
WordsWanted words = Unit {0}

pub words_wanted : (words : List Text) → WordsWanted words
unfolding WordsWanted
words_wanted words = tt
