-- Working. Spans with their values, as they are handed on.
use Rattle.std.specs.Prelude.{◌≡◌, ◌≤◌, List, length, take}
use Rattle.fd_undo.specs.declared.block.Mark.{Mark}
use Rattle.fd_undo.specs.declared.span_slices.Cut.{Cut}
use Rattle.fd_undo.specs.declared.span_slices.SpanSlices.{SpanSlices}
use Rattle.fd_undo.specs.Frame.{KeptPixel}
use Rattle.fd_undo.specs.Span.{Span}
use Rattle.fd_undo.specs.Rows.{colour_count, depth_count, rows_in, joined, IsHeld}

-- the lists have the values of the spans, and no more
abbrev pub AreSpanSlices : SpanSlices → Type 0
AreSpanSlices p = IsHeld p.spans.now p.colours.now p.depths.now

-- what each of the spans keeps, and what all of them keep
abbrev pub rows_in_slices : SpanSlices → List (List KeptPixel)
rows_in_slices p = rows_in p.spans.now p.colours.now p.depths.now

abbrev pub kept_in_slices : SpanSlices → List KeptPixel
kept_in_slices p = joined (rows_in_slices p)

-- a place between two spans, with the places of the lists at which the values of the second begin
pub record IsCut (c : Cut) (spans : List Span) : Type 0 where
  pub within : c.span ≤ length spans
  pub colour : c.colour ≡ colour_count (take c.span spans)
  pub depth : c.depth ≡ depth_count (take c.span spans)

-- where the frame of a mark begins
abbrev pub cut_of : Mark → Cut
cut_of m = record { span = m.span; colour = m.colour; depth = m.depth }
