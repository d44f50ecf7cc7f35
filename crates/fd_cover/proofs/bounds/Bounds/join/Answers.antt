use Rattle.std.proofs.Common.{sym, ◌∙◌, rules}
use Rattle.fd_cover.proofs.BoundsLemmas.{hull-smallest}
use Rattle.fd_cover.proofs.bounds.Bounds.join.Goals as goal

pub returns-else-is_empty-2-clause-smallest : goal.returns-else-is_empty-2-clause-smallest
returns-else-is_empty-2-clause-smallest c =
    hull-smallest c.args.self c.args.other (record {
      left = c.min.result;
      top = c.min-else-is_empty-2.result;
      right = c.max.result;
      bottom =
          c.max-else-is_empty-2.result;
    })
    (sym c.is_empty.ensures ∙ c.if-is_empty.false) (sym c.is_empty-else-is_empty.ensures ∙ c.if-is_empty-2.false)
    (search rules) (search rules) (search rules) (search rules)
