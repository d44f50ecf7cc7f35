-- Vertices that are read before it is known whether they need a colour.
use Rattle.std.proofs.Common.{◌≡◌, ℕ, List, [], ◌∷◌, ◌++◌, map, Bool, true, false, ◌&&◌, cond, Option, Some, None, option_map, option_and_then}
use Rattle.std.proofs.Common.{refl, sym, ap, ◌∙◌, arith}
use Rattle.std.specs.List.{list_all}
use Rattle.std.proofs.lemmas.List.{map-append}
use Rattle.std.proofs.lemmas.List.Folds.{list_all-append}
use Rattle.serde_json.specs.Data.{Data}
use Rattle.fd_events.specs.declared.draw.Vertex.{Vertex}
use Rattle.fd_capture.specs.Field.{all_of, array_of, vertex_of, painted_vertex_of}
use Rattle.fd_capture.specs.Streamed.{vertex_read, vertices_read, together, coloured, well_formed}

-- ---- one more

and_true : (b : Bool) → (b && true) ≡ b
and_true true = refl
and_true false = refl

pub together-push : (read : List (Vertex × Bool)) (v : Vertex) (has : Bool)
    → together (read ++ (v, has) ∷ []) ≡ ((together read).0 ++ v ∷ [], (together read).1 && has)
together-push read v has =
    let list = map-append (λ (w : Vertex × Bool). w.0) read ((v, has) ∷ []) in
    let flag : list_all (λ (w : Vertex × Bool). w.1) (read ++ (v, has) ∷ []) ≡ (list_all (λ (w : Vertex × Bool). w.1) read && has) =
    list_all-append (λ (w : Vertex × Bool). w.1) read ((v, has) ∷ [])
    ∙ ap (λ b. list_all (λ (w : Vertex × Bool). w.1) read && b) (and_true has) in
    cc

-- ---- those that have a colour each, and those that need none

abbrev one_coloured : Vertex × Bool → Option Vertex
one_coloured v = cond v.1 (Some v.0) None

vertex-coloured : (version : ℕ) (d : Data) → vertex_of version d ≡ option_and_then one_coloured (vertex_read version d)
vertex-coloured version d = grind arith

vertex-painted : (version : ℕ) (d : Data) → painted_vertex_of version d ≡ option_map (λ (v : Vertex × Bool). v.0) (vertex_read version d)
vertex-painted version d = grind arith

abbrev and_others : Option (Vertex × Bool) → Option (List (Vertex × Bool)) → Option (List (Vertex × Bool))
and_others first others = option_and_then (λ (v : Vertex × Bool). option_and_then (λ (vs : List (Vertex × Bool)). Some (v ∷ vs)) others) first

first_coloured : (first : Option (Vertex × Bool)) (others : Option (List (Vertex × Bool)))
    → option_and_then (λ (v : Vertex). option_and_then (λ (vs : List Vertex). Some (v ∷ vs)) (option_and_then coloured (option_map together others)))
    (option_and_then one_coloured first)
    ≡ option_and_then coloured (option_map together (and_others first others))
first_coloured None others = refl
first_coloured (Some (v, false)) None = refl
first_coloured (Some (v, true)) None = refl
first_coloured (Some (v, false)) (Some vs) = refl
first_coloured (Some (v, true)) (Some vs) = by_flag (list_all (λ (w : Vertex × Bool). w.1) vs)
  where
    by_flag : (b : Bool) → option_and_then (λ (ws : List Vertex). Some (v ∷ ws)) (cond b (Some (map (λ (w : Vertex × Bool). w.0) vs)) None)
        ≡ cond b (Some (v ∷ map (λ (w : Vertex × Bool). w.0) vs)) None
    by_flag true = refl
    by_flag false = refl

first_painted : (first : Option (Vertex × Bool)) (others : Option (List (Vertex × Bool)))
    → option_and_then (λ (v : Vertex). option_and_then (λ (vs : List Vertex). Some (v ∷ vs))
    (option_map (λ (r : List Vertex × Bool). r.0) (option_map together others)))
    (option_map (λ (v : Vertex × Bool). v.0) first)
    ≡ option_map (λ (r : List Vertex × Bool). r.0) (option_map together (and_others first others))
first_painted None others = refl
first_painted (Some v) None = refl
first_painted (Some v) (Some vs) = refl

all-coloured : (version : ℕ) (ds : List Data) → all_of (vertex_of version) ds ≡ option_and_then coloured (option_map together (all_of (vertex_read version) ds))
all-coloured version [] = refl
all-coloured version (d ∷ ds) =
    rw (vertex-coloured version d, all-coloured version ds) (first_coloured (vertex_read version d) (all_of (vertex_read version) ds))

all-painted : (version : ℕ) (ds : List Data) → all_of (painted_vertex_of version) ds
    ≡ option_map (λ (r : List Vertex × Bool). r.0) (option_map together (all_of (vertex_read version) ds))
all-painted version [] = refl
all-painted version (d ∷ ds) =
    rw (vertex-painted version d, all-painted version ds) (first_painted (vertex_read version d) (all_of (vertex_read version) ds))

-- ---- a member

coloured_in : (version : ℕ) (o : Option (List Data)) → option_and_then coloured (option_map together (option_and_then (all_of (vertex_read version)) o))
    ≡ option_and_then (all_of (vertex_of version)) o
coloured_in version None = refl
coloured_in version (Some ds) = sym (all-coloured version ds)

painted_in : (version : ℕ) (o : Option (List Data))
    → option_map (λ (r : List Vertex × Bool). r.0) (option_map together (option_and_then (all_of (vertex_read version)) o))
    ≡ option_and_then (all_of (painted_vertex_of version)) o
painted_in version None = refl
painted_in version (Some ds) = sym (all-painted version ds)

pub coloured-found : (version : ℕ) (member : Option Data) → option_and_then coloured (well_formed (option_map (vertices_read version) member))
    ≡ option_and_then (all_of (vertex_of version)) (option_and_then array_of member)
coloured-found version None = refl
coloured-found version (Some d) = coloured_in version (array_of d)

pub painted-found : (version : ℕ) (member : Option Data)
    → option_map (λ (r : List Vertex × Bool). r.0) (well_formed (option_map (vertices_read version) member))
    ≡ option_and_then (all_of (painted_vertex_of version)) (option_and_then array_of member)
painted-found version None = refl
painted-found version (Some d) = painted_in version (array_of d)
