use Rattle.std.proofs.Common.{◌∙◌, Ok, ap, arith}
use Rattle.fd_owner.proofs.next.Next.draw.Goals as goal

-- a clear of a tile that is alike
pub returns-then-branch : goal.returns-then-branch
returns-then-branch c =
    let is = c.in_ok-clear_alike.was ∙ ap Ok c.if-branch.true in
    let painted = c.clear_alike.ensures.drawn is c.args.self.now.state.now in
    let deep = c.clear_alike.ensures.deep is in
    let depths = c.clear_alike.ensures.depths is in
    let alike = c.clear_alike.ensures.alike is in
    record { drawn = grind arith; same = tt; free = λ _ _ _. grind arith; wanted = tt }
