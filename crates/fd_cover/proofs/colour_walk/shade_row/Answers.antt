use Rattle.std.proofs.Common.{rules, ◌≡◌, ℕ, zero, suc, ◌+◌, ◌∷◌, ◌∙◌, refl, sym, ap, length, map, replicate}
use Rattle.std.specs.List.{range_with_len}
use Rattle.fd_blend.specs.declared.channel.Colour.{Colour}
use Rattle.fd_cover.specs.declared.shading.Interp.TheVariants.{Flat}
use Rattle.fd_cover.specs.declared.triangle.Tri.{Tri}
use Rattle.fd_cover.specs.Shade.{colour_of, shaded}
use Rattle.fd_cover.proofs.colour_walk.shade_row.Goals as goal

-- a flat triangle has its first vertex's colour in every column
flat_columns : (t : Tri) (a b c : Colour) (y x n : ℕ) → replicate n a ≡ map (λ column. shaded t Flat a b c column y) (range_with_len x n)
unfolding shaded
flat_columns t a b c y x zero = refl
flat_columns t a b c y x (suc n) = ap (λ cs. a ∷ cs) (flat_columns t a b c y (x + 1) n)

pub returns-in-Flat : goal.returns-in-Flat
returns-in-Flat c =
    let ka = colour_of c.args.colours.now 0 in
    let kb = colour_of c.args.colours.now 1 in
    let kc = colour_of c.args.colours.now 2 in
    c.fill.ensures.after (λ y clone. search rules)
    ∙ flat_columns c.args.triangle.now ka kb kc c.args.y c.args.x (length c.args.out.now)
    ∙ ap (λ interp. map (λ column. shaded c.args.triangle.now interp ka kb kc column c.args.y) (range_with_len c.args.x (length c.args.out.now)))
    (sym c.in-Flat.is)
