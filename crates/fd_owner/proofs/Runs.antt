-- Clears that follow one another, on tiles that are alike.
use Rattle.std.proofs.Common.{◌≡◌, ℕ, zero, suc, ◌+◌, ◌-◌, ◌^◌, ◌<◌, ◌≤◌, ◌∙◌, Bool, true, false, List, [], ◌∷◌, ◌++◌, length, replicate, refl, sym, ap}
use Rattle.std.proofs.Common.{arith, inl, inr, append_assoc, length-append}
use Rattle.std.specs.Prelude.{All}
use Rattle.std.proofs.lemmas.List.{append-nil}
use Rattle.fd_blend.specs.Channel.{fresh}
use Rattle.fd_tile.specs.declared.place.Place.{Place}
use Rattle.fd_tile.specs.Place.{IsTilePlace}
use Rattle.fd_tile.specs.Tile.{Pixel, TileImage, IsTileImage, IsFlat, flat_over}
use Rattle.fd_tile.proofs.Cut.{FillsPlace-flat}
use Rattle.fd_tile.proofs.Rows.{IsFlat-replicate}
use Rattle.fd_undo.specs.declared.shared.AlikeFrame.{AlikeFrame}
use Rattle.fd_undo.specs.Alike.{alike_frame, kept_alike}
use Rattle.fd_undo.specs.Frame.{alike, top}
use Rattle.fd_undo.specs.Block.{KeptFrame, Rise}
use Rattle.fd_undo.specs.Stack.{frames_from}
use Rattle.fd_undo.specs.Undo.{Undo, without_room}
use Rattle.fd_undo.proofs.FrameLemmas.{top-push}
use Rattle.fd_undo.proofs.Pixelwise.{fit-alike}
use Rattle.fd_undo.proofs.Restored.{fit-nothing}
use Rattle.fd_undo.proofs.StackLemmas.{rise-push, rise-grow, frames-push, frames-grow, length-frames}
use Rattle.fd_events.specs.declared.effect.Clear.{Clear}
use Rattle.fd_events.specs.declared.effect.Clear.TheVariants.{Colours, Depths}
use Rattle.fd_events.specs.declared.pipeline.Pipeline.{Pipeline}
use Rattle.fd_events.specs.Effect.{event_of_clear}
use Rattle.fd_events.specs.Image.{pixel_after, kept_by}
use Rattle.fd_events.specs.Table.{Table, state_at}
use Rattle.fd_draw.specs.Paints.{Paints}
use Rattle.fd_draw.specs.Writing.{keep_each}
use Rattle.fd_draw.specs.Written.{cleared, with_cleared}
use Rattle.fd_draw.proofs.Alike.{Paints-alike}
use Rattle.fd_owner.specs.Clears.{with_all, with_alike, StandsAlike, StandsOnTo, IsDeepEnough, IsRun, IsRunOf}
use Rattle.fd_owner.specs.declared.run.Run.{Run}
use Rattle.fd_owner.specs.History.{History, position, extend, extend_by, extend_to}
use Rattle.fd_owner.specs.Owner.{history_of, OpensFresh}
use Rattle.fd_owner.specs.Shown.{IsInside}
use Rattle.fd_owner.specs.Step.{IsNext, IsPast}
use Rattle.fd_owner.specs.Untouched.{IsUntouched}
use Rattle.fd_owner.proofs.Forward.{history_of-step, IsOwner-step}
use Rattle.fd_owner.proofs.Histories.{extend_more, extend_none}
use Rattle.fd_owner.proofs.Past.{history_past, owner_past}
use Rattle.fd_owner.proofs.Pictures.{length-frames_seen, history_of-made, IsOwner-made, OpensFresh-kept, shallow}
use Rattle.fd_owner.proofs.Untouched.{Paints-untouched}

-- whether or not
pub either : (P : Type 0) (b : Bool) → (b ≡ true → P) → (b ≡ false → P) → P
either P true drawn same = drawn refl
either P false drawn same = same refl

-- ---- the frames of a place
kept_alike-push : (p : Place) (fs : List AlikeFrame) (f : AlikeFrame) → kept_alike p (fs ++ f ∷ []) ≡ kept_alike p fs ++ alike_frame p f ∷ []
kept_alike-push p [] f = refl
kept_alike-push p (g ∷ fs) f = ap (λ l. alike_frame p g ∷ l) (kept_alike-push p fs f)

one_more : (i : ℕ) (stored : List KeptFrame) (f : KeptFrame) → frames_from i (stored ++ f ∷ []) (f.number + 1) ≡ frames_from i stored f.number ++ f.kept ∷ []
one_more i stored f =
    let none : f.number + 1 - (f.number + 1) ≡ 0 = omega arith in
    rw none at (frames-push i stored f (f.number + 1))

one_passed : (i : ℕ) (stored : List KeptFrame) (to : ℕ) → Rise i stored to → frames_from i stored (to + 1) ≡ frames_from i stored to ++ [] ∷ []
one_passed i stored to is =
    let one : to + 1 - to ≡ 1 = omega arith in
    rw one at (frames-grow i stored to (to + 1) is (omega arith))

-- ---- a tile that is one colour and one depth
module _ (t : TileImage) (q : Pixel) (d : Bool) (placed : IsTilePlace t.place) where
  filled_all : IsTileImage (with_all t q d)
  filled_all = record { colours = FillsPlace-flat t.place q.0 placed; depths = FillsPlace-flat t.place q.1 placed }

  flat_colours : IsFlat t.place (with_all t q d).rows q.0
  flat_colours = IsFlat-replicate t.place q.0 (flat_over t.place q.0) refl

  flat_depths : IsFlat t.place (with_all t q d).depths q.1
  flat_depths = IsFlat-replicate t.place q.1 (flat_over t.place q.1) refl

  cleared_all : (clear : Clear) → with_cleared clear (with_all t q d) ≡ with_all t (cleared clear q) d
  cleared_all (Colours colour) = refl
  cleared_all (Depths depth) = refl

-- so are the rows of one that is
flat_is : {X : Type 0} (p : Place) (rows : List (List X)) (x : X) → length rows ≡ p.height → IsFlat p rows x → flat_over p x ≡ rows
flat_is p rows x high flat = ap (λ n. replicate n (replicate p.width x)) (sym high) ∙ sym (all_same rows (replicate p.width x) flat)
  where
    all_same : {Y : Type 0} (ys : List Y) (y : Y) → All (λ z. z ≡ y) ys → ys ≡ replicate (length ys) y
    all_same [] y same = refl
    all_same (z ∷ ys) y same = cc (same 0 z (omega arith), all_same ys y (λ k d below. same (suc k) d (omega (arith, below))))

-- a clear is drawn as its event is
clear_painted : (clear : Clear) (s : Pipeline) (t t' : TileImage) (u u' : Undo) → Paints (λ _ _. cleared clear) keep_each t u t' u'
    → Paints (pixel_after (event_of_clear clear) s) (kept_by (event_of_clear clear) s) t u t' u'
clear_painted (Colours colour) s t t' u u' painted = painted
clear_painted (Depths depth) s t t' u u' painted = painted

-- ---- no event
module _ (table : Table) (from : ℕ) (before : Pixel) (deep : Bool) (last : from ≤ length table.events) (greatest : deep ≡ false → before.1 ≡ 65535) where
  none_past : (t : TileImage) (u : Undo) (d : Bool) → StandsAlike table from before t u → IsDeepEnough t deep d
      → StandsOnTo table from t u (with_all t before d) (with_alike u t.place [] from)
  none_past t u d is enough =
      let t' : TileImage = with_all t before d in
      let flat : t' ≡ record t { made = t.made; deep = d } =
      ap (λ rows. record { place = t.place; rows = rows; depths = flat_over t.place before.1; made = t.made; deep = d })
      (flat_is t.place t.rows before.0 is.filled.colours.high is.colours)
      ∙ ap (λ depths. record { place = t.place; rows = t.rows; depths = depths; made = t.made; deep = d })
      (flat_is t.place t.depths before.1 is.filled.depths.high is.depths) in
      let frames : u.frames ++ frames_from (length u.frames) [] from ≡ u.frames =
      ap (λ n. u.frames ++ replicate n []) {x = from - length u.frames} {y = 0} (omega (arith, is.at)) ∙ append-nil u.frames in
      let u' : Undo = with_alike u t.place [] from in
      record {
        owner = IsOwner-made t t' u u' flat (λ y. y) enough.kept frames is.owner;
        history = history_of-made t t' u u' flat frames
            ∙ sym (extend_none table t.place (history_of t u))
            ∙ ap (λ n. extend_to table t.place n (history_of t u)) (length-frames_seen t u.frames ∙ is.at);
      }

  pub run_none : IsRun table from from before before deep []
  run_none = record { order = omega arith; last = last; rise = λ p. omega arith; depths = greatest; past = none_past }

-- ---- one event more
module _ (table : Table) (from to : ℕ) (before after : Pixel) (deep : Bool) (frames : List AlikeFrame) (run : IsRun table from to before after deep frames)
    (more : to < length table.events) (fits : to + 1 < 2 ^ 32) where
  -- where such a tile stands after those before it
  rises : (t : TileImage) (u : Undo) → StandsAlike table from before t u → Rise (length u.frames) (kept_alike t.place frames) to
  rises t u is = rw is.at (run.rise t.place)

  stands_at : (t : TileImage) (u : Undo) → StandsAlike table from before t u
      → to ≡ length (u.frames ++ frames_from (length u.frames) (kept_alike t.place frames) to)
  stands_at t u is =
      omega (
        arith,
        length-frames (length u.frames) (kept_alike t.place frames) to (rises t u is),
        length-append u.frames (frames_from (length u.frames) (kept_alike t.place frames) to),
      )

  gone_one : (t : TileImage) (u : Undo) (t1 : TileImage) (u1 : Undo) → StandsAlike table from before t u
      → history_of t1 u1 ≡ extend_to table t.place to (history_of t u)
      → extend table t.place (history_of t1 u1) ≡ extend_to table t.place (to + 1) (history_of t u)
  gone_one t u t1 u1 is on =
      ap (extend table t.place) on
      ∙ extend_more table t.place to (history_of t u) (omega (arith, run.order, is.at, length-frames_seen t u.frames))

  -- it is a clear
  module _ (clear : Clear) (deeper : Bool) (next : IsNext (event_of_clear clear) (state_at table to) table to) (up : deep ≡ true → deeper ≡ true)
      (greatest : deeper ≡ false → (cleared clear after).1 ≡ 65535) where
    abbrev frame : AlikeFrame
    frame = record { number = to; colour = after.0; depth = after.1 }

    clear_rise : (p : Place) → Rise from (kept_alike p (frames ++ frame ∷ [])) (to + 1)
    clear_rise p = rw (kept_alike-push p frames frame) (rise-push from (kept_alike p frames) (alike_frame p frame) (to + 1) (run.rise p) (omega arith))

    clear_past : (t : TileImage) (u : Undo) (d : Bool) → StandsAlike table from before t u → IsDeepEnough t deeper d
        → StandsOnTo table (to + 1) t u (with_all t (cleared clear after) d) (with_alike u t.place (frames ++ frame ∷ []) (to + 1))
    clear_past t u d is enough =
        let on = run.past t u d is (record { kept = enough.kept; wanted = λ y. enough.wanted (up y) }) in
        let placed = is.filled.colours.placed in
        let t1 : TileImage = with_all t after d in
        let t2 : TileImage = with_all t (cleared clear after) d in
        let u1 : Undo = with_alike u t.place frames to in
        let u2 : Undo = without_room u.opens_fresh (u1.frames ++ alike t.place after ∷ []) in
        let state = state_at table to in
        let at : to ≡ length u1.frames = stands_at t u is in
        let alike_painted = Paints-alike u.opens_fresh t1 after.0 after.1 u1.frames (filled_all t after d placed) (flat_colours t after d placed)
        (flat_depths t after d placed) clear in
        let begun : Undo = without_room u.opens_fresh (u1.frames ++ [] ∷ []) in
        let painted = clear_painted clear state t1 t2 begun u2 (rw (cleared_all t after d placed clear) at alike_painted) in
        let upmost : top u2.frames ≡ alike t.place after = top-push u1.frames (alike t.place after) in
        let past : IsPast (event_of_clear clear) state t1 u1 t2 u2 = record {
          made = λ y. y;
          deep = λ y. y;
          painted = painted;
          depths = rw upmost (fit-alike t.place after d (λ not. run.depths (shallow deep d (λ y. enough.wanted (up y)) not)));
          alike = λ _. inr (after, upmost);
        } in
        let same : with_alike u t.place (frames ++ frame ∷ []) (to + 1) ≡ u2 =
        ap (λ l. without_room u.opens_fresh (u.frames ++ frames_from (length u.frames) l (to + 1))) (kept_alike-push t.place frames frame)
        ∙ ap (λ l. without_room u.opens_fresh (u.frames ++ l)) (one_more (length u.frames) (kept_alike t.place frames) (alike_frame t.place frame))
        ∙ ap (without_room u.opens_fresh)
        (sym (append_assoc u.frames (frames_from (length u.frames) (kept_alike t.place frames) to) (alike t.place after ∷ []))) in
        rw same (record {
          owner = owner_past t1 t2 u1 u2 table to (event_of_clear clear) state next (filled_all t after d placed) on.owner at past fits;
          history = history_past t1 t2 u1 u2 table to (event_of_clear clear) state next (filled_all t after d placed) on.owner at past
              ∙ gone_one t u t1 u1 is on.history;
        })

    pub run_clear : IsRun table from (to + 1) before (cleared clear after) deeper (frames ++ frame ∷ [])
    run_clear = record { order = omega (arith, run.order); last = omega (arith, more); rise = clear_rise; depths = greatest; past = clear_past }

  -- it writes nothing
  module _ (nothing : (p : Place) → IsTilePlace p → IsInside p table → IsUntouched table to p) where
    nothing_past : (t : TileImage) (u : Undo) (d : Bool) → StandsAlike table from before t u → IsDeepEnough t deep d
        → StandsOnTo table (to + 1) t u (with_all t after d) (with_alike u t.place frames (to + 1))
    nothing_past t u d is enough =
        let on = run.past t u d is enough in
        let placed = is.filled.colours.placed in
        let t1 : TileImage = with_all t after d in
        let u1 : Undo = with_alike u t.place frames to in
        let u2 : Undo = without_room u.opens_fresh (u1.frames ++ [] ∷ []) in
        let at : to ≡ length u1.frames = stands_at t u is in
        let upmost : top u2.frames ≡ [] = top-push u1.frames [] in
        let still = Paints-untouched table to t1 u2 (filled_all t after d placed) refl (nothing t.place placed is.inside) in
        let same : with_alike u t.place frames (to + 1) ≡ u2 =
        ap (λ l. without_room u.opens_fresh (u.frames ++ l)) (one_passed (length u.frames) (kept_alike t.place frames) to (rises t u is))
        ∙ ap (without_room u.opens_fresh) (sym (append_assoc u.frames (frames_from (length u.frames) (kept_alike t.place frames) to) ([] ∷ []))) in
        rw same (record {
          owner = IsOwner-step table to t1 t1 u1 u2 u2 (filled_all t after d placed) on.owner at refl still fits (rw upmost (fit-nothing d)) (λ _. inl upmost);
          history = history_of-step table to t1 t1 u1 u2 u2 (filled_all t after d placed) on.owner at refl still ∙ gone_one t u t1 u1 is on.history;
        })

    pub run_nothing : IsRun table from (to + 1) before after deep frames
    run_nothing = record {
      order = omega (arith, run.order);
      last = omega (arith, more);
      rise = λ p. rise-grow from (kept_alike p frames) to (to + 1) (run.rise p) (omega arith);
      depths = run.depths;
      past = nothing_past;
    }

-- what a history opens with stays
opening_on : (table : Table) (place : Place) (n : ℕ) (h : History) → (extend_by table place n h).opening ≡ h.opening
unfolding extend
opening_on table place zero h = refl
opening_on table place (suc n) h = opening_on table place n h

-- ---- a tile that may have been taken through such events
module _ (table : Table) (run : Run) (is : IsRunOf table run) (t t' : TileImage) (u u' : Undo) (stands : StandsAlike table run.from run.before t u)
    (deep : IsDeepEnough t run.deep t'.deep) (tile : t' ≡ with_all t run.after t'.deep) (undo : u' ≡ with_alike u t.place run.frames run.to) where
  pub taken_on : StandsOnTo table run.to t u t' u'
  taken_on = rw (tile, undo) (is.past t u t'.deep stands deep)

  pub taken_opens : OpensFresh t u → OpensFresh t' u'
  taken_opens fresh =
      OpensFresh-kept t t' u u'
      (ap (λ (h : History). h.opening) taken_on.history ∙ opening_on table t.place (run.to - position (history_of t u)) (history_of t u))
      (ap (λ (v : TileImage). v.place) tile) (ap (λ (v : Undo). v.opens_fresh) undo) fresh
