-- Promised. The lines of which replies are made. Those of version 2 and later show depths too.
use Rattle.std.specs.Prelude.{ℕ, ◌+◌, ℤ, List, [], ◌∷◌, ◌++◌, Bool, Option, Some, None, is_some, codes, decimal, length, ◌==◌, if◌then◌else◌}
use Rattle.std.specs.Fmt.{signed_decimal}
use Rattle.std.specs.List.{flat_map}
use Rattle.fd_blend.specs.declared.channel.Colour.{Colour}
use Rattle.fd_blend.specs.declared.equation.Part.{Part}
use Rattle.fd_blend.specs.Blending.{Blending}
use Rattle.fd_blend.specs.Mask.{bits_of}
use Rattle.fd_cover.specs.declared.depth.Depth.{Depth}
use Rattle.fd_cover.specs.declared.verdict.Rect.{Rect}
use Rattle.fd_cover.specs.declared.verdict.Verdict.{Verdict}
use Rattle.fd_cover.specs.declared.verdict.Verdict.TheVariants.{Missed, Culled, Scissored, Discarded, DepthFailed, Drawn}
use Rattle.fd_events.specs.declared.event.Event.{Event}
use Rattle.fd_events.specs.declared.event.Event.TheVariants.{Clear, SetRaster, SetScissor, SetBlend, SetFactor, SetDepth, DepthClear, Draw, Marker}
use Rattle.fd_events.specs.declared.pipeline.Pipeline.{Pipeline}
use Rattle.fd_events.specs.Draw.{DrawList, triangles_of}
use Rattle.fd_events.specs.Table.{Table}
use Rattle.fd_capture.specs.Spelling.{factor_text, op_text, cull_text, func_text, interp_text}
use Rattle.fd_history.specs.declared.entry.Entry.{Entry}
use Rattle.fd_words.specs.declared.command.CommandFault.{CommandFault}
use Rattle.fd_words.specs.declared.command.CommandFault.TheVariants.{Unknown, Arguments, TooLong}

-- a word and a number, on a line
abbrev pub number_line : List ℕ → ℕ → List ℕ
number_line word number = word ++ codes " " ++ decimal number ++ codes "\n"

abbrev pub fault_line : CommandFault → List ℕ
fault_line Unknown = codes "bad 1 unknown command\n"
fault_line Arguments = codes "bad 2 arguments\n"
fault_line TooLong = codes "bad 3 line too long\n"

-- ---- words, each with the space before it; names are spelled as captures spell them

abbrev pub word : List ℕ → List ℕ
word text = codes " " ++ text

abbrev pub number_word : ℕ → List ℕ
number_word n = codes " " ++ decimal n

abbrev pub signed_word : ℤ → List ℕ
signed_word z = codes " " ++ signed_decimal z

abbrev pub truth_word : Bool → List ℕ
truth_word b = if b then codes " 1" else codes " 0"

-- ---- several words

abbrev pub colour_words : Colour → List ℕ
colour_words c = number_word c.r ++ number_word c.g ++ number_word c.b ++ number_word c.a

abbrev pub rect_words : Rect → List ℕ
rect_words r = signed_word r.left ++ signed_word r.top ++ signed_word r.right ++ signed_word r.bottom

abbrev pub part_words : Part → List ℕ
part_words p = word (factor_text p.src) ++ word (factor_text p.dst) ++ word (op_text p.op)

abbrev pub equation_words : Blending → List ℕ
equation_words b = truth_word b.enable ++ part_words b.rgb ++ part_words b.alpha

abbrev pub depth_words : Depth → List ℕ
depth_words d = truth_word d.enable ++ truth_word d.write ++ word (func_text d.func)

-- the end of a line: but in the replies on a capture of version 1 these words stand before the line feed
abbrev pub line_end : ℕ → List ℕ → List ℕ
line_end version words = if version == 1 then codes "\n" else words ++ codes "\n"

-- ---- lines, in the replies on a capture of a version

abbrev pub pixel_line : ℕ → Colour → ℕ → List ℕ
pixel_line version colour depth = codes "pixel" ++ colour_words colour ++ line_end version (number_word depth)

unfoldable pub state_line : ℕ → Pipeline → List ℕ
state_line version s =
    codes "state cull" ++ word (cull_text s.raster.cull) ++ codes " ccw" ++ truth_word s.raster.front_ccw ++ codes " scissor" ++ truth_word s.raster.scissor
    ++ codes " rect" ++ rect_words s.scissor ++ codes " blend" ++ equation_words s.blend ++ codes " mask" ++ number_word (bits_of s.blend.mask)
    ++ codes " factor" ++ colour_words s.factor ++ line_end version (codes " depth" ++ depth_words s.depth)

-- what the colours of a draw come from
abbrev pub source_text : DrawList → List ℕ
source_text d = if is_some d.picture then codes "picture" else interp_text d.interp

-- what stands behind an event's number and flag
abbrev pub event_words : Event → List ℕ
event_words (Clear colour) = codes " clear" ++ colour_words colour
event_words (SetRaster r) = codes " raster" ++ word (cull_text r.cull) ++ truth_word r.front_ccw ++ truth_word r.scissor
event_words (SetScissor rect) = codes " scissor" ++ rect_words rect
event_words (SetBlend b) = codes " blend" ++ equation_words b ++ number_word (bits_of b.mask)
event_words (SetFactor colour) = codes " factor" ++ colour_words colour
event_words (SetDepth d) = codes " depth" ++ depth_words d
event_words (DepthClear depth) = codes " depth_clear" ++ number_word depth
event_words (Draw d) = codes " draw" ++ number_word (length (triangles_of d)) ++ word (source_text d)
event_words (Marker name) = codes " marker " ++ name

abbrev pub flag_word : Bool → List ℕ
flag_word on = if on then codes " on" else codes " off"

unfoldable pub event_line : ℕ → Event → Bool → List ℕ
event_line number event on = decimal number ++ flag_word on ++ event_words event ++ codes "\n"

abbrev pub events_head : ℕ → ℕ → List ℕ
events_head count position = codes "events" ++ number_word count ++ codes " at" ++ number_word position ++ codes "\n"

-- the lines of events with their flags, numbered on from here
abbrev pub event_lines : ℕ → List Event → List Bool → List ℕ
event_lines number [] flags = []
event_lines number (event ∷ events) [] = []
event_lines number (event ∷ events) (on ∷ flags) = event_line number event on ++ event_lines (number + 1) events flags

-- the list of a table's events at a position
abbrev pub event_list : Table → ℕ → List ℕ
event_list table position = events_head (length table.events) position ++ event_lines 1 table.events table.flags

-- ---- a pixel's history

-- a clear of either kind has no triangle
abbrev pub triangle_word : Option ℕ → List ℕ
triangle_word None = codes " -"
triangle_word (Some number) = number_word number

abbrev pub verdict_text : Verdict → List ℕ
verdict_text Missed = codes "missed"
verdict_text Culled = codes "culled"
verdict_text Scissored = codes "scissored"
verdict_text Discarded = codes "discarded"
verdict_text DepthFailed = codes "depthfailed"
verdict_text Drawn = codes "drawn"

unfoldable pub entry_line : ℕ → Entry → List ℕ
entry_line version entry =
    decimal entry.event ++ triangle_word entry.triangle ++ word (verdict_text entry.verdict)
    ++ colour_words entry.source ++ colour_words entry.before ++ colour_words entry.after
    ++ line_end version (number_word entry.source_depth ++ number_word entry.depth_before ++ number_word entry.depth_after)

-- how many entries there are, and a line for each
abbrev pub entry_list : ℕ → List Entry → List ℕ
entry_list version entries = number_line (codes "history") (length entries) ++ flat_map (entry_line version) entries
