use Rattle.std.proofs.Common.{rules, codes}
use Rattle.clap.specs.Words.{found_of}
use Rattle.fd_arguments.proofs.Numbers.{has_number}
use Rattle.fd_arguments.proofs.arguments.workers.Goals as goal

pub returns-clause-value : goal.returns-clause-value
returns-clause-value c = (
  c.get_one.result,
  has_number (found_of c.args.matches.now) (codes "workers") c.get_one.result c.get_one.ensures.none c.get_one.ensures.value,
  search rules,
)
