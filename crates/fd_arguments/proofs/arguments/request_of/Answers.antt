use Rattle.std.proofs.Common.{rules, codes}
use Rattle.clap.specs.Words.{found_of}
use Rattle.fd_arguments.proofs.Numbers.{has_number}
use Rattle.fd_arguments.proofs.arguments.request_of.Goals as goal

pub returns-in-image-clause-value : goal.returns-in-image-clause-value
returns-in-image-clause-value c = (
  search rules,
  c.workers.ensures.value,
  has_number (found_of c.args.matches.now) (codes "at") c.get_one.result c.get_one.ensures.none c.get_one.ensures.value,
)
