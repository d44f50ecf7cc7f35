use Rattle.fd_cli.proofs.Outputs.{serve_writes_output}
use Rattle.fd_cli.proofs.laws.serve_writes_output.Goals as goal

pub returns : goal.returns
returns c = serve_writes_output
