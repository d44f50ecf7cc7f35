use Rattle.fd_blend.proofs.VectorLemmas.{length-chosen, get_or-lesser}
use Rattle.fd_blend.proofs.vectors.least.Goals as goal

pub returns-clause-len : goal.returns-clause-len
returns-clause-len c = length-chosen c.args.a c.args.b c.args.a c.args.b 8 c.requires.a c.requires.b c.requires.a c.requires.b

pub returns-clause-elements : goal.returns-clause-elements
returns-clause-elements c = λ k lt. get_or-lesser c.args.a c.args.b 8 k c.requires.a c.requires.b lt
