use Rattle.fd_crew.proofs.Faking.{fake_forward}
use Rattle.worked_tiles.proofs.tests.crew.FakeLane.forward.Goals as goal

pub returns-clause-moved : goal.returns-clause-moved
returns-clause-moved c = fake_forward c.args.table.now c.args.self.now.position c.args.self.now.refusals c.args.self.now.refused_at
