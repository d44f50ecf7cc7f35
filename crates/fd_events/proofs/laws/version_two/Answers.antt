use Rattle.fd_events.proofs.VersionTwos.{images_same}
use Rattle.fd_events.proofs.laws.version_two.Goals as goal

pub returns : goal.returns
returns c = λ t k none. images_same t k none
