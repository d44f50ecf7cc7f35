use Rattle.std.proofs.Common.{◌≡◌, ◌∙◌, ◌++◌, [], ◌∷◌, Bool, inl, sym, ap, subst, arith}
use Rattle.std.proofs.lemmas.Bool.{false≢true}
use Rattle.fd_tile.specs.Tile.{TileImage, IsTileImage}
use Rattle.fd_undo.specs.Frame.{top}
use Rattle.fd_undo.specs.Undo.{Undo, without_room}
use Rattle.fd_undo.proofs.FrameLemmas.{top-push}
use Rattle.fd_undo.proofs.Restored.{fit-nothing}
use Rattle.fd_events.specs.Image.{pixel_after, kept_by}
use Rattle.fd_draw.specs.Demand.{event_pixels}
use Rattle.fd_draw.specs.Paints.{Paints}
use Rattle.fd_owner.proofs.Depths.{fit_drawn}
use Rattle.fd_owner.proofs.Undemanded.{Paints-undemanded, Paints-over}
use Rattle.fd_owner.proofs.next.Next.draw_planned.Goals as goal
use Rattle.fd_owner.proofs.next.Next.draw_planned.Goals.{After-begin}

-- the tile that may have been made, and the stack with an empty frame more
filled : (c : After-begin) → IsTileImage c.make_room.new.tile
filled c = rw c.in_ok-make_room.ensures.same.tile (record { colours = c.place.ensures.filled.colours; depths = c.place.ensures.filled.depths })

frames : (c : After-begin) → c.begin.new.self.frames ≡ c.args.undo.now.frames ++ [] ∷ []
frames c = ap (λ (u : Undo). u.frames) c.begin.ensures ∙ ap (λ fs. fs ++ [] ∷ []) c.in_ok-make_room.ensures.same.frames

opening : (c : After-begin) → c.begin.new.self.opens_fresh ≡ c.args.undo.now.opens_fresh
opening c = ap (λ (u : Undo). u.opens_fresh) c.begin.ensures ∙ c.in_ok-make_room.ensures.same.opening

empty : (c : After-begin) → top c.begin.new.self.frames ≡ []
empty c = ap top (frames c) ∙ top-push c.args.undo.now.frames []

-- nothing is written
pub returns-else-plan-gt0 : goal.returns-else-plan-gt0
returns-else-plan-gt0 c =
    let d = (goal.at-returns-else-plan-gt0 c).After-begin in
    let event = c.args.self.now.event.now in
    let state = c.args.self.now.state.now in
    let same = c.in_ok-make_room.ensures.same in
    let at : c.place.result ≡ c.make_room.new.tile.place = c.place.ensures.value ∙ sym (ap (λ (t : TileImage). t.place) same.tile) in
    let none : event_pixels event state c.place.result ≡ 0 = omega (arith, c.if-plan-gt0.false, c.fill.ensures.pixels) in
    let painted = Paints-undemanded event state c.make_room.new.tile c.begin.new.self (filled d) (ap (λ (u : Undo). u.frame_left) c.begin.ensures)
    (ap (event_pixels event state) (sym at) ∙ none) in
    record {
      drawn = record {
        made = same.made;
        deep = same.deep;
        painted = subst (λ (t : TileImage). Paints (pixel_after event state) (kept_by event state) t
            (without_room c.args.undo.now.opens_fresh (c.args.undo.now.frames ++ [] ∷ [])) c.make_room.new.tile c.begin.new.self)
            same.tile (Paints-over (sym (frames d)) (sym (opening d)) painted);
        depths = rw (empty d) (fit-nothing c.make_room.new.tile.deep);
        alike = λ _. inl (empty d);
      };
      same = tt;
      free = λ _ _ _. grind arith;
      wanted = tt;
    }

-- it is drawn
pub returns-then-plan-gt0 : goal.returns-then-plan-gt0
returns-then-plan-gt0 c =
    let d = (goal.at-returns-then-plan-gt0 c).After-begin in
    let event = c.args.self.now.event.now in
    let state = c.args.self.now.state.now in
    let t : TileImage = c.args.tile.now in
    let m : TileImage = c.make_room.new.tile in
    let t' : TileImage = c.draw.new.tile in
    let same = c.in_ok-make_room.ensures.same in
    let drawn = c.draw.ensures in
    let is : m ≡ record t { made = t'.made; deep = t'.deep } =
    same.tile ∙ ap (λ (b : Bool). let s : TileImage = record t { made = b; deep = m.deep } in s) (sym drawn.made)
    ∙ ap (λ (b : Bool). let s : TileImage = record t { made = t'.made; deep = b } in s) (sym drawn.deep) in
    record {
      drawn = record {
        made = λ was. drawn.made ∙ same.made was;
        deep = λ was. drawn.deep ∙ same.deep was;
        painted = subst (λ (s : TileImage). Paints (pixel_after event state) (kept_by event state) s
            (without_room c.args.undo.now.opens_fresh (c.args.undo.now.frames ++ [] ∷ [])) t' c.draw.new.undo)
            is (Paints-over (sym (frames d)) (sym (opening d)) drawn);
        depths = fit_drawn event state m t' c.begin.new.self c.draw.new.undo (filled d) (empty d)
            (λ yes. c.in_ok-make_room.ensures.deep c.if-plan-gt0.true (c.writes_deep-deep.ensures ∙ yes))
            (λ not. c.is_deep-deep.ensures.greatest (c.is_deep-deep.ensures.value ∙ not)) drawn;
        alike = λ not. absurd (false≢true (sym not ∙ drawn.made ∙ c.in_ok-make_room.ensures.made c.if-plan-gt0.true));
      };
      same = tt;
      free = λ _ _ _. grind arith;
      wanted = tt;
    }
