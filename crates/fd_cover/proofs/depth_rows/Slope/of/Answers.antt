use Rattle.std.proofs.Common.{rules, arith}
use Rattle.std.proofs.lemmas.Int.{ints}
use Rattle.fd_cover.proofs.depth_rows.Slope.of.Goals as goal

pub returns-in-Some : goal.returns-in-Some
returns-in-Some c = record {
  divisor = search rules;
  small = grind (arith, ints);
  step = record {
    rise = c.in-Some.gradient.rise;
    fall = c.in-Some.gradient.fall;
    gradient = c.in-Some.ensures;
    moves = search rules;
  };
}
