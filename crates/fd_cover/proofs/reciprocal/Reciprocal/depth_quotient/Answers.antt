use Rattle.std.proofs.Common.{arith}
use Rattle.fd_cover.proofs.ReciprocalLemmas.{product_fits, of_depth}
use Rattle.fd_cover.proofs.reciprocal.Reciprocal.depth_quotient.Goals as goal

pub overflow_mul-total : goal.overflow_mul-total
overflow_mul-total c = record { fits = omega (arith, (of_depth c.args.self c.args.total c.requires.divisor c.requires.small).0) }

pub overflow_mul-product : goal.overflow_mul-product
overflow_mul-product c = grind (arith, of_depth, product_fits)

pub overflow_cast-result : goal.overflow_cast-result
overflow_cast-result c = grind (arith, of_depth)

pub returns-clause-near : goal.returns-clause-near
returns-clause-near c = rw (c.from.ensures, c.from-2.ensures) (of_depth c.args.self c.args.total c.requires.divisor c.requires.small).1.0

pub returns-clause-bound : goal.returns-clause-bound
returns-clause-bound c = rw (c.from.ensures, c.from-2.ensures) (omega (arith, (of_depth c.args.self c.args.total c.requires.divisor c.requires.small).1.1))
