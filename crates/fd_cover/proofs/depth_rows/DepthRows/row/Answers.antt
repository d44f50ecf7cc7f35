use Rattle.std.proofs.Common.{rules, ◌∙◌, ℕ, List, subst, length}
use Rattle.fd_cover.specs.declared.triangle.Tri.{Tri}
use Rattle.fd_cover.specs.declared.depth_rows.Slope.{Slope}
use Rattle.fd_cover.specs.declared.depth_rows.Slope.TheVariants.{Level}
use Rattle.fd_cover.specs.Slope.{IsSlope}
use Rattle.fd_cover.proofs.WalkLemmas.{level_columns}
use Rattle.fd_cover.proofs.depth_rows.DepthRows.row.Goals as goal

pub returns-in-Level : goal.returns-in-Level
returns-in-Level c =
    let inside = subst (λ (s : Slope). IsSlope c.self.inside.triangle c.self.inside.depths s) c.in-Level.is c.self.invariant in
    let level = subst (λ (v : Tri × List ℕ). IsSlope v.0 v.1 (Level c.in-Level.depth)) c.self.view_is inside in
    c.fill.ensures.after (λ y clone. search rules)
    ∙ level_columns c.args.self.now.0 c.args.self.now.1 c.in-Level.depth c.args.x c.args.y (length c.args.out.now) level c.requires.covered
