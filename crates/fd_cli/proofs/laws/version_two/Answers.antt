use Rattle.fd_cli.proofs.VersionTwos.{version_two_stays}
use Rattle.fd_cli.proofs.laws.version_two.Goals as goal

pub returns : goal.returns
returns c = version_two_stays
