-- Working. What clap knows of a command and of an argument once they are made.
use Rattle.std.specs.Prelude.{◌≡◌, false}
use Rattle.clap.specs.Words.{Rule, Shape, rule_of, shape_of}
use Rattle.clap.specs.declared.builder.arg.Arg.{Arg}
use Rattle.clap.specs.declared.builder.command.Command.{Command}
use Rattle.clap.specs.declared.builder.command.Command.TheViews.{out-Command}

-- an argument with this rule, of its command alone
abbrev pub HasRule : Arg → Rule → Type 0
HasRule argument rule = (rule_of argument ≡ rule) × (argument.global ≡ false)

-- a command with this shape, which hands no argument down
abbrev pub HasShape : Command → Shape → Type 0
HasShape command shape = (shape_of command ≡ shape) × ((out-Command command).has_globals ≡ false)
