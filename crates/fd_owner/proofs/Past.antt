-- What an owner stands for past its next event, and after a refusal.
use Rattle.std.proofs.Common.{◌≡◌, ℕ, ◌+◌, ◌^◌, ◌<◌, Bool, true, false, [], ◌∷◌, ◌++◌, length, refl, ap, ◌∙◌}
use Rattle.fd_tile.specs.Tile.{TileImage, IsTileImage}
use Rattle.fd_undo.specs.Undo.{Undo, without_room}
use Rattle.fd_events.specs.declared.event.Event.{Event}
use Rattle.fd_events.specs.declared.pipeline.Pipeline.{Pipeline}
use Rattle.fd_events.specs.Table.{Table, state_at}
use Rattle.fd_draw.specs.Paints.{Paints}
use Rattle.fd_owner.specs.History.{History, pixel_past, kept_past, extend}
use Rattle.fd_owner.specs.Owner.{history_of, IsOwner, OpensFresh}
use Rattle.fd_owner.specs.Step.{ClearsPast, IsNext, IsPast, IsSame}
use Rattle.fd_owner.proofs.Forward.{Paints-past, history_of-step, IsOwner-step}
use Rattle.fd_owner.proofs.Pictures.{history_of-made, IsOwner-made, OpensFresh-kept}

-- from tile t and stack u to tile t' and stack u'
module _ (t t' : TileImage) (u u' : Undo) where
  -- past the event after position k, which was drawn
  module _ (table : Table) (k : ℕ) (event : Event) (state : Pipeline) (next : IsNext event state table k) (filled : IsTileImage t) (owner : IsOwner t u)
      (at : k ≡ length u.frames) (past : IsPast event state t u t' u') where
    abbrev made : TileImage
    made = record t { made = t'.made; deep = t'.deep }

    abbrev begun : Undo
    begun = without_room u.opens_fresh (u.frames ++ [] ∷ [])

    filled_made : IsTileImage made
    filled_made = record { colours = filled.colours; depths = filled.depths }

    owner_made : IsOwner made u
    owner_made = IsOwner-made t made u u refl past.made past.deep refl owner

    painted : Paints (pixel_past table k) (kept_past table k) made begun t' u'
    painted = Paints-past table k event state made t' begun u' next.there next.on next.before past.painted

    pub history_past : history_of t' u' ≡ extend table t.place (history_of t u)
    history_past =
        history_of-step table k made t' u begun u' filled_made owner_made at refl painted
        ∙ ap (extend table t.place) (history_of-made t made u u refl refl)

    pub owner_past : k + 1 < 2 ^ 32 → IsOwner t' u'
    owner_past fits = IsOwner-step table k made t' u begun u' filled_made owner_made at refl painted fits past.depths past.alike

    pub opens_past : OpensFresh t u → OpensFresh t' u'
    unfolding extend
    opens_past fresh = OpensFresh-kept t t' u u' (ap (λ (h : History). h.opening) history_past) painted.placed painted.opening fresh

  -- where it was refused
  module _ (same : IsSame t u t' u') where
    pub history_same : history_of t' u' ≡ history_of t u
    history_same = history_of-made t t' u u' same.tile same.frames

    pub owner_same : IsOwner t u → IsOwner t' u'
    owner_same owner = IsOwner-made t t' u u' same.tile same.made same.deep same.frames owner

    pub opens_same : OpensFresh t u → OpensFresh t' u'
    opens_same fresh =
        OpensFresh-kept t t' u u' (ap (λ (h : History). h.opening) history_same) (ap (λ (s : TileImage). s.place) same.tile) same.opening fresh

  -- where the event after position k may have been drawn as a clear
  module _ (table : Table) (k : ℕ) (filled : IsTileImage t) (owner : IsOwner t u) (at : k ≡ length u.frames) where
    pub owner_cleared : (drawn : Bool) → (drawn ≡ true → ClearsPast table k t u t' u') → (drawn ≡ false → IsSame t u t' u') → k + 1 < 2 ^ 32 → IsOwner t' u'
    owner_cleared true past same fits =
        let clears = past refl in
        owner_past table k clears.event (state_at table k) clears.next filled owner at clears.past fits
    owner_cleared false past same fits = owner_same (same refl) owner

    pub opens_cleared : (drawn : Bool) → (drawn ≡ true → ClearsPast table k t u t' u') → (drawn ≡ false → IsSame t u t' u') → OpensFresh t u
        → OpensFresh t' u'
    opens_cleared true past same fresh =
        let clears = past refl in
        opens_past table k clears.event (state_at table k) clears.next filled owner at clears.past fresh
    opens_cleared false past same fresh = opens_same (same refl) fresh
