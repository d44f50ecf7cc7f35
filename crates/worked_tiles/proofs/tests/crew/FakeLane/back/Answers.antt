use Rattle.fd_crew.proofs.Faking.{fake_back}
use Rattle.worked_tiles.proofs.tests.crew.FakeLane.back.Goals as goal

pub returns-clause-moved : goal.returns-clause-moved
returns-clause-moved c = fake_back c.args.self.now.position c.args.self.now.refusals c.args.self.now.refused_at
