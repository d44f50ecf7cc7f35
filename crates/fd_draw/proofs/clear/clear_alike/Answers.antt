use Rattle.std.proofs.Common.{◌≡◌, ◌∙◌, ℕ, Bool, true, false, Option, List, [], ◌∷◌, ◌++◌, refl, ap, sym, arith}
use Rattle.std.specs.Prelude.{unwrap_or}
use Rattle.fd_tile.specs.Tile.{Pixel, TileImage, IsTileImage}
use Rattle.fd_undo.specs.Frame.{KeptPixel, alike}
use Rattle.fd_undo.specs.Undo.{without_room}
use Rattle.fd_undo.proofs.FrameLemmas.{top-push}
use Rattle.fd_undo.proofs.Pixelwise.{fit-alike}
use Rattle.fd_events.specs.declared.event.Event.{Event}
use Rattle.fd_events.specs.Effect.{event_of_clear}
use Rattle.fd_events.specs.declared.effect.Clear.{Clear}
use Rattle.fd_events.specs.declared.effect.Clear.TheVariants.{Colours, Depths}
use Rattle.fd_draw.specs.Demand.{event_pixels}
use Rattle.fd_draw.specs.Written.{with_cleared}
use Rattle.fd_draw.proofs.Alike.{Paints-alike}
use Rattle.fd_draw.proofs.Nothing.{clear_writes}
use Rattle.fd_draw.proofs.clear.clear_alike.Goals as goal
use Rattle.fd_draw.proofs.clear.clear_alike.Goals.{After-fill}

shallow : (old new : Bool) → (old ≡ true → new ≡ true) → new ≡ false → old ≡ false
shallow true new up not = sym (up refl) ∙ not
shallow false new up not = refl

cleared_deep : (clear : Clear) (t : TileImage) → (with_cleared clear t).deep ≡ t.deep
cleared_deep (Colours colour) t = refl
cleared_deep (Depths depth) t = refl

-- the stack after it
stack : (c : After-fill) → c.push_alike.new.self
    ≡ without_room c.args.undo.now.opens_fresh
    (c.args.undo.now.frames ++ alike c.args.tile.now.place (c.in-Some-Some.colour, c.in-Some-Some.depth) ∷ [])
stack c =
    c.in_ok-push_alike.ensures.ok
    ∙ ap (λ p. without_room c.args.undo.now.opens_fresh (c.args.undo.now.frames ++ alike p (c.in-Some-Some.colour, c.in-Some-Some.depth) ∷ []))
    c.place.ensures.value

pub returns-clause-drawn : goal.returns-clause-drawn
returns-clause-drawn c = λ _ state.
    let t : TileImage = record c.args.tile.now { deep = c.make_place.new.tile.deep } in
    let frames : List (List KeptPixel) = c.args.undo.now.frames in
    let is = stack (goal.at-returns-clause-drawn c).After-fill in
    let filled : IsTileImage t = record { colours = c.place.ensures.filled.colours; depths = c.place.ensures.filled.depths } in
    let painted = Paints-alike c.args.undo.now.opens_fresh t c.in-Some-Some.colour c.in-Some-Some.depth frames filled c.in-Some-Some.ensures
    c.in-Some-Some.ensures'.flat in
    let same = c.make_place.ensures.same in
    grind arith

pub returns-clause-depths : goal.returns-clause-depths
returns-clause-depths c = λ _.
    let q : Pixel = (c.in-Some-Some.colour, c.in-Some-Some.depth) in
    let deep = ap (λ (t : TileImage). t.deep) c.fill.ensures ∙ cleared_deep c.in-Clear.clear c.make_place.new.tile in
    let frame = top-push c.args.undo.now.frames (alike c.args.tile.now.place q) in
    let fit = fit-alike c.args.tile.now.place q c.make_place.new.tile.deep
    (λ not. ap (λ (o : Option ℕ). unwrap_or o 0) (c.in-Some-Some.ensures'.greatest (shallow c.args.tile.now.deep _ c.make_place.ensures.deep not))) in
    rw (stack (goal.at-returns-clause-depths c).After-fill, frame, deep) fit

-- a clear writes some
pub returns-in_err-push_alike-clause-free : goal.returns-in_err-push_alike-clause-free
returns-in_err-push_alike-clause-free c = λ state none.
    let place = c.args.tile.now.place in
    let is : c.args.event.now ≡ event_of_clear c.in-Clear.clear = rw c.in-Clear.is at c.effect.ensures in
    absurd (clear_writes c.in-Clear.clear state place c.place.ensures.filled.colours.placed (ap (λ (e : Event). event_pixels e state place) (sym is) ∙ none))
