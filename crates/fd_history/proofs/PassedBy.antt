-- Events that are far from a pixel enter nothing in its history.
use Rattle.std.proofs.Common.{◌≡◌, ℕ, zero, suc, ◌+◌, ◌-◌, ◌<◌, ◌≤◌, [], Option, Some, None, refl, sym, ap, ◌∙◌, subst, arith, append-nil}
use Rattle.std.specs.Prelude.{IsTrue, IfSome}
use Rattle.fd_cover.specs.declared.bounds.Bounds.{Bounds}
use Rattle.fd_cover.specs.Bounds.{is_within}
use Rattle.fd_events.specs.declared.event.Event.{Event}
use Rattle.fd_events.specs.declared.event.Event.TheVariants.{Clear, DepthClear, Draw}
use Rattle.fd_events.specs.declared.pipeline.Pipeline.{Pipeline}
use Rattle.fd_events.specs.Draw.{triangles_of}
use Rattle.fd_events.specs.Far.{PassesBy, IsPassedBy, ArePassedBy}
use Rattle.fd_events.specs.Image.{Pixel, pixel_at}
use Rattle.fd_events.specs.Table.{Table, active_event, state_at}
use Rattle.fd_history.specs.Gathered.{EntersNothing}
use Rattle.fd_history.specs.History.{entries_of_event}
use Rattle.fd_history.specs.Settled.{overwritten}
use Rattle.fd_history.proofs.Gathers.{gone_nowhere, uncovered_triangles}
use Rattle.fd_history.proofs.Settles.{gathering_at, one_event, keeps_depth, gathers_nothing, keeps_nothing}

alone_enters : (event : Event) (x y : ℕ) → PassesBy event x y → EntersNothing event x y
alone_enters (Clear colour) x y alone = absurd alone
alone_enters (DepthClear depth) x y alone = absurd alone
alone_enters (Draw draw) x y alone = λ number s before. uncovered_triangles (triangles_of draw) number 0 draw.interp s x y before alone
alone_enters other x y alone = λ number s before. refl

far_none : (width height x y : ℕ) → x < width → y < height → (event : Option Event) (window : Bounds) → IsTrue (is_within window x y)
    → IfSome event (λ event. (x y : ℕ) → IsTrue (is_within window x y) → x < width → y < height → PassesBy event x y)
    → (number : ℕ) (s : Pipeline) (before : Pixel) → entries_of_event number event s x y before ≡ []
far_none width height x y column row None window held far number s before = refl
far_none width height x y column row (Some event) window held far number s before = alone_enters event x y (far x y held column row) number s before

-- one event, and then all up to a position
module _ (t : Table) (x y : ℕ) (column : x < t.width) (row : y < t.height) (window : Bounds) (held : IsTrue (is_within window x y)) where
  none : (k : ℕ) → IsPassedBy t k window → (before : Pixel) → entries_of_event (suc k) (active_event t (suc k)) (state_at t k) x y before ≡ []
  none k far before = far_none t.width t.height x y column row (active_event t (suc k)) window held far (suc k) (state_at t k) before

  one_gathered : (k : ℕ) → IsPassedBy t k window → gathering_at t (suc k) x y ≡ gathering_at t k x y
  one_gathered k far =
      let g = gathering_at t k x y in
      let nothing = none k far (pixel_at t k x y) in
      let depth = keeps_depth (suc k) (active_event t (suc k)) (state_at t k) x y (pixel_at t k x y) nothing in
      let more = gathers_nothing (suc k) (active_event t (suc k)) (state_at t k) x y (pixel_at t k x y) nothing in
      sym (one_event t k x y) ∙ rw (depth, more) (gone_nowhere g)

  one_kept : (k : ℕ) → IsPassedBy t k window → overwritten t (suc k) x y ≡ overwritten t k x y
  one_kept k far = rw (keeps_nothing t k x y (none k far (pixel_at t k x y))) (append-nil (overwritten t k x y))

  all_gathered : (n from : ℕ) → ArePassedBy t from (from + n) window → gathering_at t (from + n) x y ≡ gathering_at t from x y
  all_gathered zero from far = let same : from + 0 ≡ from = omega arith in ap (λ k. gathering_at t k x y) same
  all_gathered (suc n) from far =
      let next : from + suc n ≡ suc (from + n) = omega arith in
      ap (λ k. gathering_at t k x y) next ∙ one_gathered (from + n) (far (from + n) (omega arith) (omega arith))
      ∙ all_gathered n from (λ k above below. far k above (omega (arith, below)))

  all_kept : (n from : ℕ) → ArePassedBy t from (from + n) window → overwritten t (from + n) x y ≡ overwritten t from x y
  all_kept zero from far = let same : from + 0 ≡ from = omega arith in ap (λ k. overwritten t k x y) same
  all_kept (suc n) from far =
      let next : from + suc n ≡ suc (from + n) = omega arith in
      ap (λ k. overwritten t k x y) next ∙ one_kept (from + n) (far (from + n) (omega arith) (omega arith))
      ∙ all_kept n from (λ k above below. far k above (omega (arith, below)))

  pub gathered_past : (from to : ℕ) → from ≤ to → ArePassedBy t from to window → gathering_at t to x y ≡ gathering_at t from x y
  gathered_past from to order far =
      let is : to ≡ from + (to - from) = omega (arith, order) in
      ap (λ k. gathering_at t k x y) is ∙ all_gathered (to - from) from (subst (λ (n : ℕ). ArePassedBy t from n window) is far)

  pub kept_past : (from to : ℕ) → from ≤ to → ArePassedBy t from to window → overwritten t to x y ≡ overwritten t from x y
  kept_past from to order far =
      let is : to ≡ from + (to - from) = omega (arith, order) in
      ap (λ k. overwritten t k x y) is ∙ all_kept (to - from) from (subst (λ (n : ℕ). ArePassedBy t from n window) is far)
