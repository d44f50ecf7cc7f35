-- Promised. What is asked of the program.
use Rattle.std.specs.Prelude.{◌≤◌}
use Rattle.fd_words.specs.declared.request.Request.{Request}
use Rattle.fd_words.specs.declared.request.Request.TheVariants.{Run, Image, Events}

-- the number of workers is from 1 to 64
abbrev pub AsksWorkers : Request → Type 0
AsksWorkers (Run workers) = (1 ≤ workers) × (workers ≤ 64)
AsksWorkers (Image workers at) = (1 ≤ workers) × (workers ≤ 64)
AsksWorkers Events = Unit {0}
