-- Working. What a lane shows whose place has no pixel: each of its images is empty.
use Rattle.std.specs.Prelude.{ℕ, [], replicate, Option}
use Rattle.fd_owner.specs.History.{Frame}
use Rattle.fd_owner.specs.Shown.{Shown}

abbrev pub empty_frame : Frame
empty_frame = record { image = []; kept = [] }

abbrev pub shown_fake : ℕ → ℕ → Option ℕ → Shown
shown_fake at count refused_at =
    record {
      place = record { left = 0; top = 0; width = 0; height = 0 };
      history = record { opening = []; frames = replicate at empty_frame };
      refusals = count;
      refused_at = refused_at;
    }
