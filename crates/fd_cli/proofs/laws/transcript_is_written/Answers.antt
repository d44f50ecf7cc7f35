use Rattle.fd_cli.proofs.Transcripts.{writes_transcript, transcript_runs, writes_all, runs_forget}
use Rattle.fd_cli.proofs.laws.transcript_is_written.Goals as goal

pub returns : goal.returns
returns c = record { writes = writes_transcript; runs = transcript_runs; whole = writes_all; forgets = runs_forget }
