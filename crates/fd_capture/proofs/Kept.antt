-- What an event stands for is the same from the members that are kept and from all that were found.
use Rattle.std.proofs.Common.{arith, ◌≡◌, ℕ, List, Option, Some, None, Bool, true, false, ◌==◌, ◌&&◌, cond, codes, bytes_eq, option_map, option_and_then, refl}
use Rattle.std.proofs.Common.{Result, Err, ap, ◌∙◌, eqb-true}
use Rattle.std.specs.Prelude.{ok_or}
use Rattle.std.specs.Result.{result_ok}
use Rattle.serde_json.specs.Data.{Data, object, Members}
use Rattle.serde_json.specs.Find.{get_member, as_bool, as_str, as_i64}
use Rattle.fd_blend.specs.declared.equation.Part.{Part}
use Rattle.fd_blend.specs.declared.mask.Mask.{Mask}
use Rattle.fd_blend.specs.Equation.{has_colour_factor}
use Rattle.fd_blend.specs.Mask.{mask_of}
use Rattle.fd_cover.specs.declared.shading.Interp.TheVariants.{Flat, Linear}
use Rattle.fd_events.specs.declared.event.Event.{Event}
use Rattle.fd_events.specs.declared.event.Event.TheVariants.{SetBlend, Marker}
use Rattle.fd_events.specs.Label.{labelled}
use Rattle.fd_json.specs.Clipped.{clipped}
use Rattle.fd_json.proofs.Found.{same_name}
use Rattle.fd_capture.specs.Field.{between, number_between, part_of_data, indices_of, text_member, unsigned_32}
use Rattle.fd_capture.specs.Spelling.{spelled_cull, spelled_func, spelled_interp}
use Rattle.fd_capture.specs.Picture.{bytes_of_data, holes_of, picture_of_data}
use Rattle.fd_capture.specs.Kind.{blend_event, marker_event, depth_event, depth_clear_event, draw_event, shaded_draw, painted_draw, is_picture}
use Rattle.fd_capture.specs.Fault.{◌>>=◌}
use Rattle.fd_capture.specs.declared.fault.EventFault.{EventFault}
use Rattle.fd_capture.specs.declared.fault.EventFault.TheVariants.{BadField, UnknownEvent}
use Rattle.fd_capture.specs.declared.kind.Kind.{Kind}
use Rattle.fd_capture.specs.declared.kind.Kind.TheVariants as kind
use Rattle.fd_capture.specs.declared.members.Draft.{Draft}
use Rattle.fd_capture.specs.declared.spelling.Paint.TheVariants as paint
use Rattle.fd_capture.specs.Capture.{event_of, event_of_kind}
use Rattle.fd_capture.specs.Streamed.{is_small, Clips, indices_of_array, if_any, well_formed, picture_read, picture_from, spelled_paint, large_of}
use Rattle.fd_capture.specs.Drafted.{IsDraft, mask_of_data, kind_of, interp_of, is_painted, blend_of, marker_of}
use Rattle.fd_capture.specs.Drafted.{depth_drafted, depth_clear_of, draw_drafted, shaded_draw_of}
use Rattle.fd_capture.specs.Drafted.{painted_draw_of, event_of_known, with_kind, event_from}
use Rattle.fd_capture.proofs.Coloured.{coloured-found, painted-found}
use Rattle.fd_capture.proofs.Outer.{number-clipped}

pub number_between-clipped : (low high : ℕ) (d : Data) → number_between low high (clipped d) ≡ number_between low high d
number_between-clipped low high d = ap (λ n. option_and_then (between low high) (option_and_then as_i64 n)) (number-clipped d)

module _ (kept found : Members) (clips : Clips kept found) where
  -- a member that is looked at no deeper than the clip
  pub member-kept : {X : Type 0} (f : Data → Option X) → ((d : Data) → f (clipped d) ≡ f d) → (name : List ℕ) → is_small name ≡ true
      → option_and_then f (get_member name kept) ≡ option_and_then f (get_member name found)
  member-kept f same name small = ap (option_and_then f) (clips name small) ∙ inner (get_member name found) where
    inner : (o : Option Data) → option_and_then f (option_map clipped o) ≡ option_and_then f o
    inner None = refl
    inner (Some d) = same d

-- ---- the large members, from what was read of them

indices_from : (o : Option Data) → if_any (option_map indices_of_array o) ≡ indices_of o
indices_from o = grind arith

holes_from : (o : Option Data) → if_any (option_map bytes_of_data o) ≡ holes_of o
holes_from None = refl
holes_from (Some d) = by_bytes (bytes_of_data d)
  where
    by_bytes : (o : Option (List ℕ)) → if_any (Some o) ≡ option_and_then (λ (bytes : List ℕ). Some (Some bytes)) o
    by_bytes None = refl
    by_bytes (Some bytes) = refl

picture_from_member : (o : Option Data) → well_formed (option_map (picture_read 3) o) ≡ option_and_then picture_of_data o
picture_from_member None = refl
picture_from_member (Some d) = refl

-- a picture
pub picture-found : (found : Members) → picture_from (option_and_then unsigned_32 (get_member (codes "left") found))
    (option_and_then unsigned_32 (get_member (codes "top") found)) (option_and_then unsigned_32 (get_member (codes "width") found))
    (option_and_then unsigned_32 (get_member (codes "height") found)) (option_and_then bytes_of_data (get_member (codes "texels") found))
    (option_map bytes_of_data (get_member (codes "holes") found))
    ≡ picture_of_data (object found)
picture-found found = rw (holes_from (get_member (codes "holes") found)) refl

-- ---- texts

-- a member's text, and what is made of it
text-then : {X : Type 0} (f : List ℕ → Option X) (o : Option Data) → option_and_then (λ (d : Data). option_and_then f (as_str d)) o
    ≡ option_and_then f (option_and_then as_str o)
text-then f None = refl
text-then f (Some d) = refl

interp-by_tests : (flat linear picture : Bool) → option_and_then interp_of (cond flat (Some (paint.Vertices Flat))
    (cond linear (Some (paint.Vertices Linear)) (cond picture (Some paint.Picture) None)))
    ≡ cond flat (Some Flat) (cond linear (Some Linear) None)
interp-by_tests true linear picture = refl
interp-by_tests false true picture = refl
interp-by_tests false false true = refl
interp-by_tests false false false = refl

interp-spelled : (o : Option (List ℕ)) → option_and_then interp_of (option_and_then spelled_paint o) ≡ option_and_then spelled_interp o
interp-spelled None = refl
interp-spelled (Some text) = interp-by_tests (bytes_eq text (codes "flat")) (bytes_eq text (codes "linear")) (bytes_eq text (codes "picture"))

module _ (text : List ℕ) where
  by_flat : (b : Bool) → bytes_eq text (codes "flat") ≡ b → is_painted (cond b (Some (paint.Vertices Flat))
      (cond (bytes_eq text (codes "linear")) (Some (paint.Vertices Linear)) (cond (bytes_eq text (codes "picture")) (Some paint.Picture) None)))
      ≡ bytes_eq text (codes "picture")
  by_flat true is = rw (same_name text (codes "flat") is) refl
  by_flat false is = by_linear (bytes_eq text (codes "linear")) refl
    where
      by_picture : (b : Bool) → is_painted (cond b (Some paint.Picture) None) ≡ b
      by_picture true = refl
      by_picture false = refl

      by_linear : (b : Bool) → bytes_eq text (codes "linear") ≡ b → is_painted (cond b (Some (paint.Vertices Linear))
          (cond (bytes_eq text (codes "picture")) (Some paint.Picture) None))
          ≡ bytes_eq text (codes "picture")
      by_linear true is = rw (same_name text (codes "linear") is) refl
      by_linear false is = by_picture (bytes_eq text (codes "picture"))

painted-spelled : (o : Option (List ℕ)) → is_painted (option_and_then spelled_paint o) ≡ is_picture o
painted-spelled None = refl
painted-spelled (Some text) = by_flat text (bytes_eq text (codes "flat")) refl

-- what is made of one of two
one_of : {X Y : Type 0} (f : X → Y) (b : Bool) (x y : X) (z w : Y) → f x ≡ z → f y ≡ w → f (cond b x y) ≡ cond b z w
one_of f true x y z w is other = is
one_of f false x y z w is other = other

-- ---- the event

-- a mask that is made of bits
module _ {X : Type 0} (K : Bool → Part → Part → Mask → Option X) (some_flag : Option Bool) (some_rgb some_alpha : Option Part) where
  by_bits : (some_bits : Option ℕ)
      → option_and_then (λ e. option_and_then (λ r. option_and_then (λ a. option_and_then (K e r a) (option_map mask_of some_bits)) some_alpha)
      some_rgb) some_flag
      ≡ option_and_then (λ e. option_and_then (λ r. option_and_then (λ a. option_and_then (λ n. K e r a (mask_of n)) some_bits) some_alpha)
      some_rgb) some_flag
  by_bits None = refl
  by_bits (Some n) = refl

bits-then : (o : Option Data) → option_and_then mask_of_data o ≡ option_map mask_of (option_and_then (number_between 0 15) o)
bits-then None = refl
bits-then (Some d) = refl

-- a name that is made of a text
by_text : (o : Option (List ℕ)) → option_and_then (λ (label : List ℕ). Some (Marker label)) (option_and_then (λ text. result_ok (labelled text)) o)
    ≡ option_and_then (λ (text : List ℕ). option_and_then (λ (label : List ℕ). Some (Marker label)) (result_ok (labelled text))) o
by_text None = refl
by_text (Some text) = refl

module _ (version : ℕ) (found : Members) (draft : Draft) (is : IsDraft version found draft) where
  interp-found : option_and_then interp_of draft.paint ≡ option_and_then spelled_interp (text_member "interp" (object found))
  interp-found = ap (option_and_then interp_of) (is.paint ∙ text-then spelled_paint (get_member (codes "interp") found))
      ∙ interp-spelled (text_member "interp" (object found))

  picture-named : is_painted draft.paint ≡ is_picture (text_member "interp" (object found))
  picture-named = ap is_painted (is.paint ∙ text-then spelled_paint (get_member (codes "interp") found))
      ∙ painted-spelled (text_member "interp" (object found))

  shaded-found : shaded_draw_of draft.paint (large_of draft.large) ≡ shaded_draw version (object found)
  shaded-found =
      rw (
        interp-found,
        is.vertices,
        is.indices,
        coloured-found version (get_member (codes "vertices") found),
        indices_from (get_member (codes "indices") found),
      ) refl

  painted-found_in : version ≡ 3 → painted_draw_of (large_of draft.large) ≡ painted_draw version (object found)
  painted-found_in third =
      rw (
        is.picture,
        is.vertices,
        is.indices,
        third,
        picture_from_member (get_member (codes "picture") found),
        painted-found 3 (get_member (codes "vertices") found),
        indices_from (get_member (codes "indices") found),
      ) refl

  -- version 3 alone looks for a picture
  by_version : (b : Bool) → (version == 3) ≡ b
      → cond (b && is_painted draft.paint) (painted_draw_of (large_of draft.large)) (shaded_draw_of draft.paint (large_of draft.large))
      ≡ cond (b && is_picture (text_member "interp" (object found))) (painted_draw version (object found)) (shaded_draw version (object found))
  by_version false other = shaded-found
  by_version true third =
      let painted = painted-found_in (eqb-true version 3 third) in
      cc (picture-named, painted, shaded-found)

  draw-found : draw_drafted version draft ≡ draw_event version (object found)
  draw-found = by_version (version == 3) refl

  abbrev f : Kind → Result Event EventFault
  f kind = event_of_known version kind draft

  blend-found : blend_of draft ≡ blend_event (object found)
  blend-found = rw (is.enable, is.rgb, is.alpha, is.mask ∙ bits-then (get_member (codes "mask") found))
      (by_bits (λ e r a m. cond (has_colour_factor a) None (Some (SetBlend (record { enable = e; rgb = r; alpha = a; mask = m }))))
      (option_and_then as_bool (get_member (codes "enable") found)) (option_and_then part_of_data (get_member (codes "rgb") found))
      (option_and_then part_of_data (get_member (codes "alpha") found)) (option_and_then (number_between 0 15) (get_member (codes "mask") found)))

  marker-found : marker_of draft ≡ marker_event (object found)
  marker-found = rw (is.label ∙ text-then (λ text. result_ok (labelled text)) (get_member (codes "name") found))
      (by_text (text_member "name" (object found)))

  depth-found : depth_drafted draft ≡ depth_event (object found)
  depth-found = rw (is.enable, is.write, is.func ∙ text-then spelled_func (get_member (codes "func") found)) refl

  depth_clear-found : depth_clear_of draft ≡ depth_clear_event (object found)
  depth_clear-found = rw is.depth refl

  -- version 1 has none of these
  depths : (v bd bc : Bool) → (version == 1) ≡ v → f (cond bd kind.Depth (cond bc kind.DepthClear kind.Other))
      ≡ cond v (Err UnknownEvent) (cond bd (ok_or (depth_event (object found)) BadField)
      (cond bc (ok_or (depth_clear_event (object found)) BadField) (Err UnknownEvent)))
  depths true true bc first = rw first refl
  depths true false true first = rw first refl
  depths true false false first = refl
  depths false true bc later = rw (later, depth-found) refl
  depths false false true later = rw (later, depth_clear-found) refl
  depths false false false later = refl

  kinds-found : (text : List ℕ) → f (kind_of text) ≡ event_of_kind version text (object found)
  kinds-found text =
      one_of f (bytes_eq text (codes "clear")) _ _ _ _ (rw is.colour refl)
      (one_of f (bytes_eq text (codes "raster")) _ _ _ _
      (rw (is.cull ∙ text-then spelled_cull (get_member (codes "cull") found), is.front_ccw, is.scissor) refl)
      (one_of f (bytes_eq text (codes "scissor")) _ _ _ _ (rw is.rect refl)
      (one_of f (bytes_eq text (codes "blend")) _ _ _ _ (ap (λ (o : Option Event). ok_or o BadField) blend-found)
      (one_of f (bytes_eq text (codes "factor")) _ _ _ _ (rw is.colour refl)
      (one_of f (bytes_eq text (codes "draw")) _ _ _ _ (ap (λ (o : Option Event). ok_or o BadField) draw-found)
      (one_of f (bytes_eq text (codes "marker")) _ _ _ _ (ap (λ (o : Option Event). ok_or o BadField) marker-found)
      (depths (version == 1) (bytes_eq text (codes "depth")) (bytes_eq text (codes "depth_clear")) refl)))))))

  pub event-found : event_from version draft ≡ event_of version (object found)
  event-found = ap (λ (o : Option Kind). with_kind o f) (is.kind ∙ text-then (λ text. Some (kind_of text)) (get_member (codes "kind") found))
      ∙ by_kind (text_member "kind" (object found))
    where
      by_kind : (o : Option (List ℕ)) → with_kind (option_and_then (λ text. Some (kind_of text)) o) f
          ≡ ok_or o BadField >>= (λ (text : List ℕ). event_of_kind version text (object found))
      by_kind None = refl
      by_kind (Some text) = kinds-found text
