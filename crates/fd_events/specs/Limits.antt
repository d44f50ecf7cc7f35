-- Promised. How much a frame has at most.
use Rattle.std.specs.Prelude.{ℕ}

abbrev pub most_events : ℕ
most_events = 1000000

-- of one draw
abbrev pub most_vertices : ℕ
most_vertices = 196608

abbrev pub most_indices : ℕ
most_indices = 196608

abbrev pub most_triangles : ℕ
most_triangles = 65536

-- of one name
abbrev pub most_label_bytes : ℕ
most_label_bytes = 64

-- how many triangles of a draw that follow one another make a group
abbrev pub group_size : ℕ
group_size = 32

-- of one picture
abbrev pub most_side : ℕ
most_side = 16384
