-- Captures have no events of later versions.
use Rattle.std.proofs.Common.{◌≡◌, ℕ, zero, suc, ◌+◌, ◌≤◌, ◌==◌, ◌&&◌, List, [], ◌∷◌, Bool, true, false, Option, Some, None, Result, Ok, Err, refl}
use Rattle.std.proofs.Common.{inl, inr, ◌⊎◌}
use Rattle.std.proofs.Common.{ap, cond, arith, eqb-true, true≢false, sym, ◌∙◌}
use Rattle.std.specs.Prelude.{codes, is_some, ok_or, All, IfSome, IfOk}
use Rattle.std.specs.Str.{bytes_eq}
use Rattle.std.specs.Result.{result_ok}
use Rattle.std.proofs.lemmas.List.Elements.{All-nil, All-cons}
use Rattle.serde_json.specs.Data.{Data}
use Rattle.fd_blend.specs.Equation.{has_colour_factor}
use Rattle.fd_cover.specs.declared.shading.Interp.{Interp}
use Rattle.fd_events.specs.declared.draw.Vertex.{Vertex}
use Rattle.fd_events.specs.declared.event.Event.{Event}
use Rattle.fd_events.specs.declared.event.Event.TheVariants.{Draw}
use Rattle.fd_events.specs.Draw.{DrawList, made}
use Rattle.fd_events.specs.Label.{labelled}
use Rattle.fd_events.specs.Table.{is_of_depth, is_of_picture, IsVersion}
use Rattle.fd_capture.specs.declared.fault.CaptureFault.{CaptureFault}
use Rattle.fd_capture.specs.declared.fault.EventFault.{EventFault}
use Rattle.fd_capture.specs.declared.fault.EventFault.TheVariants.{BadField, UnknownEvent}
use Rattle.fd_capture.specs.Fault.{map_fault, numbered, ◌>>=◌ as ◌>>=r◌}
use Rattle.fd_capture.specs.Field.{◌>>=◌, text_member, number_member, colour_member, flag_member, rect_member, part_member, vertices_member, indices_member}
use Rattle.fd_capture.specs.Spelling.{spelled_cull, spelled_func, spelled_interp}
use Rattle.fd_capture.specs.Kind.{clear_event, raster_event, scissor_event, blend_event, factor_of, draw_event, shaded_draw, painted_draw, is_picture}
use Rattle.fd_capture.specs.Kind.{marker_event}
use Rattle.fd_capture.specs.Kind.{depth_event, depth_clear_event}
use Rattle.fd_capture.specs.Capture.{event_of_depth, event_of_kind, event_of, event_numbered, events_from}

-- an event that a capture of a version may have
abbrev pub Fits : ℕ → Event → Type 0
Fits version e = (version ≡ 1 → is_of_depth e ≡ false) × (version ≤ 2 → is_of_picture e ≡ false)

module _ (version : ℕ) where
  abbrev Fit : Option Event → Type 0
  Fit event = IfSome event (Fits version)

  abbrev FitResult : {E : Type 0} → Result Event E → Type 0
  FitResult event = IfOk event (Fits version)

  after : {A : Type 0} (o : Option A) (f : A → Option Event) → ((a : A) → Fit (f a)) → Fit (o >>= f)
  after None f each = tt
  after (Some a) f each = each a

  or_fault : (o : Option Event) → Fit o → FitResult (ok_or o BadField)
  or_fault None fits = tt
  or_fault (Some e) fits = fits

  either : (b : Bool) (first second : Result Event EventFault) → FitResult first → FitResult second → FitResult (cond b first second)
  either true first second one other = one
  either false first second one other = other

  nothing_or : (b : Bool) (o : Option Event) → Fit o → Fit (cond b None o)
  nothing_or true o fits = tt
  nothing_or false o fits = fits

  abbrev first_version : {P : Type 0} → P → (version ≡ 1 → P) × (version ≤ 2 → P)
  first_version p = (λ one. p, λ early. p)

  -- ---- draws

  made_plain : (vs : List Vertex) (is : Option (List ℕ)) (interp : Interp) → IfSome (result_ok (made vs is interp)) (λ draw. draw.picture ≡ None)
  made_plain vs is interp = grind arith

  drawn : (o : Option DrawList) → IfSome o (λ draw. draw.picture ≡ None) → Fit (o >>= λ draw. Some (Draw draw))
  drawn None plain = tt
  drawn (Some draw) plain = (λ one. ap is_some plain, λ early. ap is_some plain)

  fits_shaded : (d : Data) → Fit (shaded_draw version d)
  fits_shaded d =
      after (text_member "interp" d >>= spelled_interp) _
      (λ interp. after (vertices_member version "vertices" d) _
      (λ vertices. after (indices_member "indices" d) _
      (λ indices. drawn (result_ok (made vertices indices interp)) (made_plain vertices indices interp))))

  fits_third : version ≡ 3 → (o : Option Event) → Fit o
  fits_third is None = tt
  fits_third is (Some e) = (λ one. absurd (omega arith), λ early. absurd (omega arith))

  fits_draw : (d : Data) → Fit (draw_event version d)
  fits_draw d = by_version (version == 3) refl
    where
      by_version : (b : Bool) → (version == 3) ≡ b → Fit (cond (b && is_picture (text_member "interp" d)) (painted_draw version d) (shaded_draw version d))
      by_version false is = fits_shaded d
      by_version true is = fits_third (eqb-true version 3 is) _

  -- ---- events of depth

  fits_depth : (kind : List ℕ) (d : Data) → ¬ (version ≡ 1) → FitResult (event_of_depth kind d)
  fits_depth kind d later =
      either (bytes_eq kind (codes "depth")) _ _
      (or_fault (depth_event d)
      (after (flag_member "enable" d) _
      (λ enable. after (flag_member "write" d) _
      (λ write. after (text_member "func" d >>= spelled_func) _ (λ func. (λ one. absurd (later one), λ early. refl))))))
      (either (bytes_eq kind (codes "depth_clear")) _ _
      (or_fault (depth_clear_event d) (after (number_member "depth" 0 65535 d) _ (λ depth. (λ one. absurd (later one), λ early. refl)))) tt)

  fits_later : (kind : List ℕ) (d : Data) → FitResult (cond (version == 1) (Err UnknownEvent) (event_of_depth kind d))
  fits_later kind d = by_version (version == 1) refl
    where
      by_version : (b : Bool) → (version == 1) ≡ b → FitResult (cond b (Err UnknownEvent) (event_of_depth kind d))
      by_version true is = tt
      by_version false is = fits_depth kind d (λ one. true≢false (sym (ap (λ v. v == 1) one) ∙ is))

  -- ---- all of them

  fits_kind : (kind : List ℕ) (d : Data) → FitResult (event_of_kind version kind d)
  fits_kind kind d =
      either (bytes_eq kind (codes "clear")) _ _ (or_fault (clear_event d) (after (colour_member "color" d) _ (λ colour. first_version refl)))
      (either (bytes_eq kind (codes "raster")) _ _
      (or_fault (raster_event d)
      (after (text_member "cull" d >>= spelled_cull) _
      (λ cull. after (flag_member "front_ccw" d) _ (λ ccw. after (flag_member "scissor" d) _ (λ scissor. first_version refl)))))
      (either (bytes_eq kind (codes "scissor")) _ _ (or_fault (scissor_event d) (after (rect_member "rect" d) _ (λ rect. first_version refl)))
      (either (bytes_eq kind (codes "blend")) _ _
      (or_fault (blend_event d)
      (after (flag_member "enable" d) _
      (λ enable. after (part_member "rgb" d) _
      (λ rgb. after (part_member "alpha" d) _
      (λ alpha. after (number_member "mask" 0 15 d) _ (λ mask. nothing_or (has_colour_factor alpha) _ (first_version refl)))))))
      (either (bytes_eq kind (codes "factor")) _ _ (or_fault (factor_of d) (after (colour_member "color" d) _ (λ colour. first_version refl)))
      (either (bytes_eq kind (codes "draw")) _ _ (or_fault (draw_event version d) (fits_draw d))
      (either (bytes_eq kind (codes "marker")) _ _
      (or_fault (marker_event d) (after (text_member "name" d) _ (λ name. after (result_ok (labelled name)) _ (λ label. first_version refl))))
      (fits_later kind d)))))))

  fits_read : (kind : Result (List ℕ) EventFault) (d : Data) → FitResult (kind >>=r λ k. event_of_kind version k d)
  fits_read (Ok kind) d = fits_kind kind d
  fits_read (Err fault) d = tt

  fits_numbered : (number : ℕ) (d : Data) → FitResult (event_numbered version number d)
  fits_numbered number d = kept (event_of version d) (fits_read (ok_or (text_member "kind" d) BadField) d)
    where
      kept : (read : Result Event EventFault) → FitResult read → FitResult (map_fault (numbered number) read)
      kept (Ok e) fits = fits
      kept (Err fault) fits = tt

  pub fits_events : (number : ℕ) (ds : List Data) → IfOk (events_from version number ds) (λ es. All (Fits version) es)
  unfolding events_from
  fits_events number [] = All-nil (Fits version)
  fits_events number (d ∷ ds) =
      both (event_numbered version number d) (events_from version (number + 1) ds) (fits_numbered number d) (fits_events (number + 1) ds)
    where
      both : (first : Result Event CaptureFault) (others : Result (List Event) CaptureFault) → FitResult first → IfOk others (λ es. All (Fits version) es)
          → IfOk (first >>=r λ event. others >>=r λ es. Ok (event ∷ es)) (λ es. All (Fits version) es)
      both (Err fault) others fits rest = tt
      both (Ok e) (Err fault) fits rest = tt
      both (Ok e) (Ok es) fits rest = All-cons (Fits version) e es fits rest

-- what `EventTable::start` asks of a version and the events that were read
pub IsVersion-read : (version : ℕ) (ds : List Data) (es : List Event) → (1 ≤ version) × (version ≤ 3) → events_from version 1 ds ≡ Ok es → IsVersion version es
IsVersion-read version ds es bounds read =
    let fits : All (Fits version) es = rw read at (fits_events version 1 ds) in
    record {
      number = one_of_three version bounds.0 bounds.1;
      first = λ one k d within. (fits k d within).0 one;
      second = λ early k d within. (fits k d within).1 early;
    }
  where
    one_of_three : (v : ℕ) → 1 ≤ v → v ≤ 3 → (v ≡ 1) ⊎ ((v ≡ 2) ⊎ (v ≡ 3))
    one_of_three zero low high = absurd (omega arith)
    one_of_three (suc zero) low high = inl refl
    one_of_three (suc (suc zero)) low high = inr (inl refl)
    one_of_three (suc (suc (suc zero))) low high = inr (inr refl)
    one_of_three (suc (suc (suc (suc v)))) low high = absurd (omega arith)
