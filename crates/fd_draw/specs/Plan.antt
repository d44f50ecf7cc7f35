-- Working. What is known of an event's triangles on a place before it is drawn there.
use Rattle.std.specs.Prelude.{◌≡◌, ℕ, ◌+◌, ◌<◌, ◌≤◌, false, List, [], ◌∷◌, Some, length, slice_get}
use Rattle.fd_cover.specs.Covers.{covers}
use Rattle.fd_events.specs.Bounds.{CoverNone}
use Rattle.fd_events.specs.declared.event.Event.{Event}
use Rattle.fd_events.specs.declared.event.Event.TheVariants.{Draw}
use Rattle.fd_events.specs.declared.pipeline.Pipeline.{Pipeline}
use Rattle.fd_events.specs.Draw.{DrawList, Triangle, triangles_of}
use Rattle.fd_events.specs.Image.{Pixel, pixel_after, kept_by}
use Rattle.fd_tile.specs.declared.place.Place.{Place}
use Rattle.fd_tile.specs.Place.{Holds}
use Rattle.fd_draw.specs.declared.found.Found.{Found}
use Rattle.fd_draw.specs.declared.plan.Planned.{Planned}
use Rattle.fd_draw.specs.declared.plan.Plan.{Plan}
use Rattle.fd_draw.specs.Area.{LiesIn, IsWrittenIn, box_of_place}
use Rattle.fd_draw.specs.Demand.{is_reached}
use Rattle.fd_draw.specs.Found.{IsFound}
use Rattle.fd_draw.specs.Triangles.{triangle_at}

-- an event leaves each pixel of the place as it is, and keeps nothing of it
abbrev pub WritesNothing : Event → Pipeline → Place → Type 0
WritesNothing event s p = (x y : ℕ) (before : Pixel) → Holds p x y → (pixel_after event s x y before ≡ before) × (kept_by event s x y before ≡ [])

-- a triangle is reached at no pixel of the place
abbrev pub IsUnreached : Triangle → Pipeline → Place → Type 0
IsUnreached t s p = (x y : ℕ) → Holds p x y → is_reached t s x y ≡ false

-- so are the triangles from number first up to number last
abbrev pub AreUnreached : List Triangle → Pipeline → Place → ℕ → ℕ → Type 0
AreUnreached ts s p first last = (i : ℕ) (t : Triangle) → first ≤ i → i < last → slice_get ts i ≡ Some t → IsUnreached t s p

-- of the place's pixels, the triangle is reached where it covers one of the box in which it was found
pub record IsFoundOn (t : Triangle) (s : Pipeline) (p : Place) (f : Found) : Type 0 where
  pub found : IsFound t.corners f
  pub inside : LiesIn f.area p
  pub reached : IsWrittenIn (is_reached t s) (covers t.corners) p f.area

-- of the triangles from number first on, this one is reached on a place as it was found, and none before it
pub record IsNextFound (d : DrawList) (s : Pipeline) (p : Place) (first : ℕ) (next : Planned) : Type 0 where
  pub from : first ≤ next.triangle
  pub below : next.triangle < length (triangles_of d)
  pub passed : AreUnreached (triangles_of d) s p first next.triangle
  pub found : IsFoundOn (triangle_at d next.triangle) s p next.found

-- the planned triangles are in the order of their numbers, and of those from number first up to number rest no other is reached
abbrev pub ArePlanned : DrawList → Pipeline → Place → ℕ → List Planned → ℕ → Type 0
ArePlanned d s p first [] rest = (first ≤ rest) × (rest ≤ length (triangles_of d)) × AreUnreached (triangles_of d) s p first rest
ArePlanned d s p first (next ∷ more) rest = IsNextFound d s p first next × ArePlanned d s p (next.triangle + 1) more rest

-- an event's plan has its first triangles
abbrev pub IsPlan : Plan → Event → Pipeline → Place → Type 0
IsPlan plan (Draw draw) s p = ArePlanned draw s p 0 plan.planned.items plan.rest
IsPlan plan other s p = Unit {0}

-- no triangle of an event before this one covers a pixel of the place
abbrev pub MayBeginAt : Event → Place → ℕ → Type 0
MayBeginAt (Draw draw) p first =
    (first ≤ length (triangles_of draw)) × CoverNone (box_of_place p) (triangles_of draw) 0 first
MayBeginAt other p first = Unit {0}
