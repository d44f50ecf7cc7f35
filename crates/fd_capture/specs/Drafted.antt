-- Working. What the members of an event stand for, and the event that they make.
use Rattle.std.specs.Prelude.{◌≡◌, ◌==◌, ◌&&◌, ℕ, List, Bool, true, false, codes, cond, Option, Some, None, Result, Err, ok_or, not, if◌then◌else◌}
use Rattle.std.specs.Prelude.{option_map}
use Rattle.std.specs.Result.{result_ok}
use Rattle.std.specs.Str.{bytes_eq}
use Prim.Native.String.{String}
use Rattle.serde_json.specs.Data.{Data, Members}
use Rattle.serde_json.specs.Find.{get_member, as_bool, as_str}
use Rattle.fd_blend.specs.Equation.{has_colour_factor}
use Rattle.fd_blend.specs.declared.mask.Mask.{Mask}
use Rattle.fd_blend.specs.Mask.{mask_of}
use Rattle.fd_cover.specs.declared.depth.Func.{Func}
use Rattle.fd_cover.specs.declared.verdict.Cull.{Cull}
use Rattle.fd_cover.specs.declared.shading.Interp.{Interp}
use Rattle.fd_cover.specs.declared.shading.Interp.TheVariants.{Flat}
use Rattle.fd_events.specs.declared.event.Event.{Event}
use Rattle.fd_events.specs.declared.event.Event.TheVariants as event
use Rattle.fd_events.specs.Draw.{made, made_with}
use Rattle.fd_events.specs.Label.{labelled}
use Rattle.fd_capture.specs.declared.fault.EventFault.{EventFault}
use Rattle.fd_capture.specs.declared.fault.EventFault.TheVariants.{UnknownEvent, BadField}
use Rattle.fd_capture.specs.declared.kind.Kind.{Kind}
use Rattle.fd_capture.specs.declared.kind.Kind.TheVariants as kind
use Rattle.fd_capture.specs.declared.members.Draft.{Draft}
use Rattle.fd_capture.specs.declared.spelling.Paint.{Paint}
use Rattle.fd_capture.specs.declared.spelling.Paint.TheVariants as paint
use Rattle.fd_capture.specs.Field.{◌>>=◌, number_between, colour_of_data, rect_of_data, part_of_data}
use Rattle.fd_capture.specs.Spelling.{spelled_cull, spelled_func}
use Rattle.fd_capture.specs.Streamed.{spelled_paint, if_any, well_formed, coloured, Large, large_of, vertices_read, indices_of_array, picture_read}

-- ---- what a value stands for

abbrev pub kind_of : List ℕ → Kind
kind_of text =
    if bytes_eq text (codes "clear") then kind.Clear
    else (if bytes_eq text (codes "raster") then kind.Raster
    else (if bytes_eq text (codes "scissor") then kind.Scissor
    else (if bytes_eq text (codes "blend") then kind.Blend
    else (if bytes_eq text (codes "factor") then kind.Factor
    else (if bytes_eq text (codes "draw") then kind.Draw
    else (if bytes_eq text (codes "marker") then kind.Marker
    else (if bytes_eq text (codes "depth") then kind.Depth
    else (if bytes_eq text (codes "depth_clear") then kind.DepthClear
    else kind.Other))))))))

abbrev pub kind_of_data : Data → Option Kind
kind_of_data d = as_str d >>= (λ text. Some (kind_of text))

abbrev pub cull_of_data : Data → Option Cull
cull_of_data d = as_str d >>= spelled_cull

abbrev pub func_of_data : Data → Option Func
func_of_data d = as_str d >>= spelled_func

abbrev pub paint_of_data : Data → Option Paint
paint_of_data d = as_str d >>= spelled_paint

abbrev pub mask_of_data : Data → Option Mask
mask_of_data d = option_map mask_of (number_between 0 15 d)

abbrev pub label_of : Data → Option (List ℕ)
label_of d = as_str d >>= (λ text. result_ok (labelled text))

-- ---- a draft

-- what is made of the last member of a name
abbrev pub found_as : {X : Type 0} → String → (Data → Option X) → Members → Option X
found_as name f found = get_member (codes name) found >>= f

-- The draft has what the members that were found stand for.
pub record IsDraft (version : ℕ) (found : Members) (draft : Draft) : Type 0 where
  pub kind : draft.kind ≡ found_as "kind" kind_of_data found
  pub colour : draft.colour ≡ found_as "color" colour_of_data found
  pub cull : draft.cull ≡ found_as "cull" cull_of_data found
  pub front_ccw : draft.front_ccw ≡ found_as "front_ccw" as_bool found
  pub scissor : draft.scissor ≡ found_as "scissor" as_bool found
  pub rect : draft.rect ≡ found_as "rect" rect_of_data found
  pub enable : draft.enable ≡ found_as "enable" as_bool found
  pub rgb : draft.rgb ≡ found_as "rgb" part_of_data found
  pub alpha : draft.alpha ≡ found_as "alpha" part_of_data found
  pub mask : draft.mask ≡ found_as "mask" mask_of_data found
  pub paint : draft.paint ≡ found_as "interp" paint_of_data found
  pub label : draft.label ≡ found_as "name" label_of found
  pub write : draft.write ≡ found_as "write" as_bool found
  pub func : draft.func ≡ found_as "func" func_of_data found
  pub depth : draft.depth ≡ found_as "depth" (number_between 0 65535) found
  pub vertices : (large_of draft.large).vertices ≡ option_map (vertices_read version) (get_member (codes "vertices") found)
  pub indices : (large_of draft.large).indices ≡ option_map indices_of_array (get_member (codes "indices") found)
  pub picture : (large_of draft.large).picture ≡ option_map (picture_read version) (get_member (codes "picture") found)

-- what stands under a member's own name once a member of any name was read: that one's value where the names are the same, else what stood before
abbrev pub member_or : {X : Type 0} → String → List ℕ → (Data → Option X) → Data → Option X → Option X
member_or own name f d before = cond (bytes_eq name (codes own)) (f d) before

-- A draft is another one with one member more, in a capture of a version.
pub record IsDraftWith (version : ℕ) (name : List ℕ) (d : Data) (old new : Draft) : Type 0 where
  pub kind : new.kind ≡ member_or "kind" name kind_of_data d old.kind
  pub colour : new.colour ≡ member_or "color" name colour_of_data d old.colour
  pub cull : new.cull ≡ member_or "cull" name cull_of_data d old.cull
  pub front_ccw : new.front_ccw ≡ member_or "front_ccw" name as_bool d old.front_ccw
  pub scissor : new.scissor ≡ member_or "scissor" name as_bool d old.scissor
  pub rect : new.rect ≡ member_or "rect" name rect_of_data d old.rect
  pub enable : new.enable ≡ member_or "enable" name as_bool d old.enable
  pub rgb : new.rgb ≡ member_or "rgb" name part_of_data d old.rgb
  pub alpha : new.alpha ≡ member_or "alpha" name part_of_data d old.alpha
  pub mask : new.mask ≡ member_or "mask" name mask_of_data d old.mask
  pub paint : new.paint ≡ member_or "interp" name paint_of_data d old.paint
  pub label : new.label ≡ member_or "name" name label_of d old.label
  pub write : new.write ≡ member_or "write" name as_bool d old.write
  pub func : new.func ≡ member_or "func" name func_of_data d old.func
  pub depth : new.depth ≡ member_or "depth" name (number_between 0 65535) d old.depth
  pub vertices : (large_of new.large).vertices ≡ member_or "vertices" name (λ e. Some (vertices_read version e)) d (large_of old.large).vertices
  pub indices : (large_of new.large).indices ≡ member_or "indices" name (λ e. Some (indices_of_array e)) d (large_of old.large).indices
  pub picture : (large_of new.large).picture ≡ member_or "picture" name (λ e. Some (picture_read version e)) d (large_of old.large).picture

-- ---- the event

abbrev pub clear_of : Draft → Option Event
clear_of draft = do
  colour ← draft.colour
  Some (event.Clear colour)

abbrev pub raster_of : Draft → Option Event
raster_of draft = do
  cull ← draft.cull
  front_ccw ← draft.front_ccw
  scissor ← draft.scissor
  Some (event.SetRaster (record { cull = cull; front_ccw = front_ccw; scissor = scissor }))

abbrev pub scissor_of : Draft → Option Event
scissor_of draft = do
  rect ← draft.rect
  Some (event.SetScissor rect)

abbrev pub blend_of : Draft → Option Event
blend_of draft = do
  enable ← draft.enable
  rgb ← draft.rgb
  alpha ← draft.alpha
  mask ← draft.mask
  (if has_colour_factor alpha then None else Some (event.SetBlend (record { enable = enable; rgb = rgb; alpha = alpha; mask = mask })))

abbrev pub factor_drafted : Draft → Option Event
factor_drafted draft = do
  colour ← draft.colour
  Some (event.SetFactor colour)

abbrev pub marker_of : Draft → Option Event
marker_of draft = do
  label ← draft.label
  Some (event.Marker label)

abbrev pub depth_drafted : Draft → Option Event
depth_drafted draft = do
  enable ← draft.enable
  write ← draft.write
  func ← draft.func
  Some (event.SetDepth (record { enable = enable; write = write; func = func }))

abbrev pub depth_clear_of : Draft → Option Event
depth_clear_of draft = do
  depth ← draft.depth
  Some (event.DepthClear depth)

abbrev pub interp_of : Paint → Option Interp
interp_of (paint.Vertices interp) = Some interp
interp_of paint.Picture = None

abbrev pub is_painted : Option Paint → Bool
is_painted (Some paint.Picture) = true
is_painted _ = false

abbrev pub shaded_draw_of : Option Paint → Large → Option Event
shaded_draw_of some_paint large = do
  interp ← some_paint >>= interp_of
  vertices ← well_formed large.vertices >>= coloured
  indices ← if_any large.indices
  draw ← result_ok (made vertices indices interp)
  Some (event.Draw draw)

abbrev pub painted_draw_of : Large → Option Event
painted_draw_of large = do
  picture ← well_formed large.picture
  vertices ← option_map (λ read. read.0) (well_formed large.vertices)
  indices ← if_any large.indices
  draw ← result_ok (made_with (Some picture) vertices indices Flat)
  Some (event.Draw draw)

-- pictures are of version 3
abbrev pub draw_drafted : ℕ → Draft → Option Event
draw_drafted version draft =
    if version == 3 && is_painted draft.paint then painted_draw_of (large_of draft.large) else shaded_draw_of draft.paint (large_of draft.large)

abbrev pub event_of_kind_from : ℕ → Kind → Draft → Option Event
event_of_kind_from version kind.Clear draft = clear_of draft
event_of_kind_from version kind.Raster draft = raster_of draft
event_of_kind_from version kind.Scissor draft = scissor_of draft
event_of_kind_from version kind.Blend draft = blend_of draft
event_of_kind_from version kind.Factor draft = factor_drafted draft
event_of_kind_from version kind.Draw draft = draw_drafted version draft
event_of_kind_from version kind.Marker draft = marker_of draft
event_of_kind_from version kind.Depth draft = depth_drafted draft
event_of_kind_from version kind.DepthClear draft = depth_clear_of draft
event_of_kind_from version kind.Other draft = None

-- version 1 has no depths
abbrev pub is_known : ℕ → Kind → Bool
is_known version kind.Other = false
is_known version kind.Depth = not (version == 1)
is_known version kind.DepthClear = not (version == 1)
is_known version _ = true

abbrev pub event_of_known : ℕ → Kind → Draft → Result Event EventFault
event_of_known version kind draft = if is_known version kind then ok_or (event_of_kind_from version kind draft) BadField else Err UnknownEvent

abbrev pub with_kind : Option Kind → (Kind → Result Event EventFault) → Result Event EventFault
with_kind None f = Err BadField
with_kind (Some kind) f = f kind

abbrev pub event_from : ℕ → Draft → Result Event EventFault
event_from version draft = with_kind draft.kind (λ kind. event_of_known version kind draft)
