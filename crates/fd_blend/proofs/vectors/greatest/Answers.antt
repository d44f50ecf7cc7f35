use Rattle.fd_blend.proofs.VectorLemmas.{length-chosen, get_or-greater}
use Rattle.fd_blend.proofs.vectors.greatest.Goals as goal

pub returns-clause-len : goal.returns-clause-len
returns-clause-len c = length-chosen c.args.a c.args.b c.args.b c.args.a 8 c.requires.a c.requires.b c.requires.b c.requires.a

pub returns-clause-elements : goal.returns-clause-elements
returns-clause-elements c = λ k lt. get_or-greater c.args.a c.args.b 8 k c.requires.a c.requires.b lt
