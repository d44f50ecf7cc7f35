-- The triangles of a draw, one by one.
use Rattle.std.proofs.Common.{◌≡◌, ℕ, zero, suc, ◌+◌, ◌*◌, ◌/◌, ◌<◌, ◌≤◌, true, false, List, [], ◌∷◌, length, Option, Some, Ok, refl, ap}
use Rattle.std.proofs.Common.{slice_get, nat_lt, arith}
use Rattle.std.specs.List.{list_all}
use Rattle.std.proofs.lemmas.Bool.{and_parts}
use Rattle.std.proofs.lemmas.Option.{slice_get_within}
use Rattle.std.proofs.lemmas.Bool.Decides.{nat_tests}
use Rattle.fd_cover.specs.declared.shading.Interp.{Interp}
use Rattle.fd_events.specs.declared.draw.Vertex.{Vertex}
use Rattle.fd_events.specs.Limits.{most_vertices}
use Rattle.fd_events.specs.Indices.{has_too_many, are_in_range}
use Rattle.fd_events.specs.Picture.{Painting}
use Rattle.fd_events.specs.Draw.{DrawList, made, listed_by, triangle_of_vertices, triangles_of_list}

pub length-triangles_of_list : (picture : Option Painting) (vs : List Vertex) → length (triangles_of_list picture vs) ≡ length vs / 3
unfolding triangles_of_list
length-triangles_of_list picture (a ∷ b ∷ c ∷ vs) = omega (arith, length-triangles_of_list picture vs)
length-triangles_of_list picture vs = refl

-- the triangle of a number has the three corners from three times the number on
pub slice_get-triangles_of_list : (picture : Option Painting) (vs : List Vertex) (i : ℕ) (a b c : Vertex) → slice_get vs (3 * i) ≡ Some a
    → slice_get vs (3 * i + 1) ≡ Some b
    → slice_get vs (3 * i + 2) ≡ Some c
    → slice_get (triangles_of_list picture vs) i ≡ Some (triangle_of_vertices picture a b c)
unfolding triangles_of_list
slice_get-triangles_of_list picture (p ∷ []) i a b c first second third = let lt = slice_get_within (p ∷ []) (3 * i + 2) c third in absurd (omega arith)
slice_get-triangles_of_list picture (p ∷ q ∷ []) i a b c first second third = let lt = slice_get_within (p ∷ q ∷ []) (3 * i + 2) c third in absurd (omega arith)
slice_get-triangles_of_list picture (p ∷ q ∷ r ∷ vs) (suc i) a b c first second third =
    let at_first : 3 * suc i ≡ suc (suc (suc (3 * i))) = omega arith in
    let at_second : 3 * suc i + 1 ≡ suc (suc (suc (3 * i + 1))) = omega arith in
    let at_third : 3 * suc i + 2 ≡ suc (suc (suc (3 * i + 2))) = omega arith in
    slice_get-triangles_of_list picture vs i a b c (rw at_first at first) (rw at_second at second) (rw at_third at third)
slice_get-triangles_of_list picture vs i a b c first second third = cc

-- what the constructor tests
pub record IsMade (vertices : List Vertex) (indices : Option (List ℕ)) : Type 0 where
  pub few_vertices : length vertices ≤ most_vertices
  pub few_indices : has_too_many indices ≡ false
  pub in_range : are_in_range (length vertices) indices ≡ true

pub IsMade-from_made : (vertices : List Vertex) (indices : Option (List ℕ)) (interp : Interp) (d : DrawList) → made vertices indices interp ≡ Ok d
    → IsMade vertices indices
IsMade-from_made vertices indices interp d is = grind arith

found : (vertices : List Vertex) (index : ℕ) → index < length vertices → (v : Vertex) × (slice_get vertices index ≡ Some v)
found [] index h = absurd (omega arith)
found (v ∷ vs) zero h = (v, refl)
found (v ∷ vs) (suc index) h = found vs index (omega arith)

-- the vertex that the first of these indices names
first_of_all : (vertices : List Vertex) (index : ℕ) (indices : List ℕ) → list_all (λ index. nat_lt index (length vertices)) (index ∷ indices) ≡ true
    → (v : Vertex) × (slice_get vertices index ≡ Some v)
first_of_all vertices index indices all = found vertices index (grind (arith, nat_tests))

-- a vertex for each index in range
pub length-listed_by : (vertices : List Vertex) (indices : List ℕ) → list_all (λ index. nat_lt index (length vertices)) indices ≡ true
    → length (listed_by vertices (Some indices)) ≡ length indices
length-listed_by vertices [] all = refl
length-listed_by vertices (index ∷ indices) all =
    let named = first_of_all vertices index indices all in
    rw named.1 (ap suc (length-listed_by vertices indices (and_parts _ _ all).1))

pub slice_get-listed_by : (vertices : List Vertex) (indices : List ℕ) (k index : ℕ) → list_all (λ index. nat_lt index (length vertices)) indices ≡ true
    → slice_get indices k ≡ Some index
    → slice_get (listed_by vertices (Some indices)) k ≡ slice_get vertices index
slice_get-listed_by vertices [] k index all at = cc
slice_get-listed_by vertices (first ∷ indices) zero index all at = grind (arith, first_of_all)
slice_get-listed_by vertices (first ∷ indices) (suc k) index all at =
    let named = first_of_all vertices first indices all in
    rw named.1 (slice_get-listed_by vertices indices k index (and_parts _ _ all).1 at)

-- an index in range names a vertex
pub index_below : (count : ℕ) (indices : List ℕ) (k index : ℕ) → list_all (λ index. nat_lt index count) indices ≡ true → slice_get indices k ≡ Some index
    → index < count
index_below count [] k index all at = cc
index_below count (first ∷ indices) zero index all at = let same : first ≡ index = cc in rw (← same) (grind (arith, nat_tests))
index_below count (first ∷ indices) (suc k) index all at = index_below count indices k index (and_parts _ _ all).1 at

-- ---- a draw with indices

pub corner_below : (vs : List Vertex) (is : List ℕ) (interp : Interp) (d : DrawList) (corner : ℕ) → made vs (Some is) interp ≡ Ok d
    → corner < length (listed_by vs (Some is)) → corner < length is
corner_below vs is interp d corner ok lt = grind (arith, IsMade-from_made, length-listed_by)

pub index_in_range : (vs : List Vertex) (is : List ℕ) (interp : Interp) (d : DrawList) (corner index : ℕ) → made vs (Some is) interp ≡ Ok d
    → slice_get is corner ≡ Some index → index < length vs
index_in_range vs is interp d corner index ok at = grind (arith, IsMade-from_made, index_below)

pub slice_get-listed : (vs : List Vertex) (is : List ℕ) (interp : Interp) (d : DrawList) (corner index : ℕ) → made vs (Some is) interp ≡ Ok d
    → slice_get is corner ≡ Some index
    → slice_get (listed_by vs (Some is)) corner ≡ slice_get vs index
slice_get-listed vs is interp d corner index ok at = grind (arith, IsMade-from_made, slice_get-listed_by)

pub length-listed : (vs : List Vertex) (is : List ℕ) (interp : Interp) (d : DrawList) → made vs (Some is) interp ≡ Ok d → length (listed_by vs (Some is))
    ≡ length is
length-listed vs is interp d ok = let tests = IsMade-from_made vs (Some is) interp d ok in length-listed_by vs is tests.in_range
