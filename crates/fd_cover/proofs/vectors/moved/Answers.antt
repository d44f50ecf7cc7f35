use Rattle.std.proofs.Common.{◌∙◌, arith, w64}
use mir.Syntax.{wrap_add}
use borrow.Rule.Simd.Lanes.{act2}
use borrow.Table.Row.{s_int}
use Rattle.std.proofs.lemmas.Simd.{length-zip2}
use Rattle.fd_cover.proofs.vectors.moved.Goals as goal

pub returns-clause-len : goal.returns-clause-len
returns-clause-len c = length-zip2 (act2 wrap_add (s_int w64) (s_int w64) (s_int w64)) c.args.accumulators c.args.steps (omega arith) ∙ c.requires.accumulators
