-- Working. What a terminal's device stands over.
use Rattle.fd_screen.specs.declared.prompt.Prompt.{Prompt}
use Rattle.fd_screen.specs.declared.screen.Screen.{Screen}

-- the sink of the replies
abbrev pub replies_of : {S E : Type 0} → Screen S E → S
replies_of screen = screen.replies

-- the source of the commands
abbrev pub commands_of : {R E : Type 0} → Prompt R E → R
commands_of prompt = prompt.commands
