use Rattle.std.proofs.Common.{◌≡◌, ℕ, ◌∙◌, List, [], ◌∷◌, length, take, drop, ap, arith}
use Rattle.std.proofs.lemmas.List.{length-take}
use Rattle.fd_cover.specs.declared.triangle.Tri.{Tri}
use Rattle.fd_cover.specs.Depth.{depth_at}
use Rattle.fd_draw.proofs.PixelTests.{depths_at}
use Rattle.fd_draw.proofs.tested.depths_on.Goals as goal

-- the depths before any is known
abbrev zeros : List ℕ
zeros = 0 ∷ 0 ∷ 0 ∷ 0 ∷ 0 ∷ 0 ∷ 0 ∷ 0 ∷ 0 ∷ 0 ∷ 0 ∷ 0 ∷ 0 ∷ 0 ∷ 0 ∷ 0 ∷ 0 ∷ 0 ∷ 0 ∷ 0 ∷ 0 ∷ 0 ∷ 0 ∷ 0 ∷ 0 ∷ 0 ∷ 0 ∷ 0 ∷ 0 ∷ 0 ∷ 0 ∷ 0 ∷ []

pub returns-in-Some : goal.returns-in-Some
returns-in-Some c on column low high =
    let run = c.args.run in
    let count = c.count.result in
    let rows = c.in-Some.depth_rows in
    let size : length (take count zeros) ≡ count = length-take count zeros ∙ omega (arith, c.count.ensures, c.requires.few) in
    let found = rw c.in-Some.is at c.requires.ready.deep in
    depths_at rows.0 rows.1 run.left run.y (length (take count zeros)) c.row.new.out (drop count zeros) c.row.ensures column 0 low
    (omega (arith, size, c.count.ensures, high))
    ∙ ap (λ (d : Tri × List ℕ). depth_at d.0 d.1 column run.y) found.1
