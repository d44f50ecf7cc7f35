use Rattle.std.proofs.Common.{arith}
use Rattle.fd_capture.specs.Fault.{Gives}
use Rattle.fd_capture.specs.Head.{table_of_text}
use Rattle.fd_capture.proofs.Whole.{capture-of_text, capture-of_no_text}
use Rattle.fd_capture.proofs.capture.read.Goals as goal

pub returns-in_default-clause-exact : goal.returns-in_default-clause-exact
returns-in_default-clause-exact c = grind (arith, capture-of_no_text)

pub returns-clause-exact : goal.returns-clause-exact
returns-clause-exact c = grind (arith, Gives, table_of_text, capture-of_text)
