use Rattle.std.proofs.Common.{List, refl, sym, subst, ◌<◌, ◌≡◌, ◌+◌, ◌-◌, ◌∙◌, ◌++◌, [], ◌∷◌, ap, arith}
use Rattle.fd_events.specs.Image.{Pixel, pixel_at, stored_at}
use Rattle.fd_owner.specs.History.{History, position, last_image}
use Rattle.fd_owner.specs.Untouched.{IsUntouched}
use Rattle.fd_owner.proofs.Drawn.{pixel_drawn}
use Rattle.fd_owner.proofs.Untouched.{pixel_alike}
use Rattle.fd_tile.specs.Tile.{pixel_in}
use Rattle.fd_history.specs.declared.entry.Entry.{Entry}
use Rattle.fd_history.specs.Gathered.{Gathering}
use Rattle.fd_history.specs.Settled.{gathered_at, overwritten, settled}
use Rattle.fd_history.proofs.Settles.{enough, history_settles, given_back, next_event, next_kept}
use Rattle.fd_history.proofs.PassedBy.{gathered_past, kept_past}
use Rattle.fd_history.proofs.histories.history_near.Goals as goal

pub invariant_of-gather : goal.invariant_of-gather
invariant_of-gather c =
    let placed = c.place-place.ensures.filled.placed in
    (omega (arith, c.requires.pixel.to_right, placed.right), omega (arith, c.requires.pixel.to_bottom, placed.bottom))

pub pass_number-requires-clause-depth : goal.pass_number-requires-clause-depth
pass_number-requires-clause-depth c =
    let t = c.args.table.now in
    let is = c.loop-passed.invariant.gathered in
    let before : c.loop-passed.passed ≡ c.loop-passed.passed + 1 - 1 = omega arith in
    rw (ap (λ (g : Gathering). g.x) is, ap (λ (g : Gathering). g.y) is)
    (ap (λ (g : Gathering). g.depth) is ∙ ap (λ n. stored_at t n c.args.pixel.0 c.args.pixel.1) before)

pub pass_number-requires-clause-untouched : goal.pass_number-requires-clause-untouched
pass_number-requires-clause-untouched c = λ past.
    let before : c.loop-passed.passed ≡ c.loop-passed.passed + 1 - 1 = omega arith in
    subst (λ k. IsUntouched c.args.table.now k c.args.owner.now.place) before
    (c.requires.alike.on c.loop-passed.passed (omega (arith, past)) (omega (arith, c.loop-passed-test.true)))

pub loop-passed-init : goal.loop-passed-init
loop-passed-init c =
    let t = c.args.table.now in
    let x = c.args.pixel.0 in
    let y = c.args.pixel.1 in
    let placed = c.place-place.ensures.filled.placed in
    let column : x < t.width = omega (arith, c.requires.pixel.to_right, c.requires.inside.right) in
    let row : y < t.height = omega (arith, c.requires.pixel.to_bottom, c.requires.inside.bottom) in
    let far = c.next_over-passed.ensures.passed in
    record {
      last = c.next_over-passed.ensures.last;
      gathered =
          ap (λ (es : List Entry). record { x = x; y = y; depth = 65535; entries = es }) c.new.ensures.items
          ∙ sym (gathered_past t x y column row c.pixel_at-window.result c.pixel_at-window.ensures 0 c.next_over-passed.result (omega arith) far);
      kept =
          c.new-pixels.ensures.items
          ∙ sym (kept_past t x y column row c.pixel_at-window.result c.pixel_at-window.ensures 0 c.next_over-passed.result (omega arith) far);
      few = omega arith;
    }

pub loop-passed-preserved : goal.loop-passed-preserved
loop-passed-preserved c =
    let t = c.args.table.now in
    let x = c.args.pixel.0 in
    let y = c.args.pixel.1 in
    let k = c.loop-passed.passed in
    let is = c.loop-passed.invariant.gathered in
    let column : x < t.width = omega (arith, c.requires.pixel.to_right, c.requires.inside.right) in
    let row : y < t.height = omega (arith, c.requires.pixel.to_bottom, c.requires.inside.bottom) in
    let next = c.next_over-passed-in-loop-passed in
    record {
      last = next.ensures.last;
      gathered =
          next_event t k (k + 1) x y c.loop-passed.gather c.pass_number.new.gather refl is c.in_ok-pass_number.ensures.entries
          ∙ sym (gathered_past t x y column row c.pixel_at-window.result c.pixel_at-window.ensures (k + 1) next.result next.ensures.from next.ensures.passed);
      kept =
          next_kept t k (k + 1) x y c.loop-passed.pixels.items c.pass_number.new.kept.items refl c.loop-passed.invariant.kept
          (rw (ap (λ (g : Gathering). g.x) is, ap (λ (g : Gathering). g.y) is) at c.in_ok-pass_number.ensures.kept)
          ∙ sym (kept_past t x y column row c.pixel_at-window.result c.pixel_at-window.ensures (k + 1) next.result next.ensures.from next.ensures.passed);
      few = omega (arith, c.loop-passed.invariant.few, c.in_ok-pass_number.ensures.few, next.ensures.from);
    }

pub settle-requires : goal.settle-requires
settle-requires c =
    let k = c.args.to in
    let t = c.args.table.now in
    let at : c.loop-passed.passed ≡ k = omega (arith, c.loop-passed-test.false, c.loop-passed.invariant.last) in
    let entries : c.deref_mut.result.now ≡ gathered_at t k c.args.pixel.0 c.args.pixel.1 =
    c.deref_mut.ensures.value ∙ ap (λ (g : Gathering). g.entries) (c.gather-2.view_is ∙ c.loop-passed.invariant.gathered) ∙ rw at refl in
    let pixels : c.deref.result.now ≡ overwritten t k c.args.pixel.0 c.args.pixel.1 ++ (c.pixel.result, c.depth.result) ∷ [] =
    c.deref.ensures.value ∙ c.in_ok-push.ensures.items ∙ rw (c.loop-passed.invariant.kept, at) refl in
    rw (entries, pixels) (enough t k c.args.pixel.0 c.args.pixel.1 (c.pixel.result, c.depth.result))

pub returns-clause-exact : goal.returns-clause-exact
returns-clause-exact c =
    let owner = c.args.owner.now in
    let k = c.args.to in
    let t = c.args.table.now in
    let x = c.args.pixel.0 in
    let y = c.args.pixel.1 in
    let at : c.loop-passed.passed ≡ k = omega (arith, c.loop-passed-test.false, c.loop-passed.invariant.last) in
    let gathered : c.gather-2.inside.entries.items ≡ gathered_at t k x y =
    ap (λ (g : Gathering). g.entries) (c.gather-2.view_is ∙ c.loop-passed.invariant.gathered) ∙ rw at refl in
    let image : pixel_in owner.place (last_image owner.history) x y ≡ pixel_at t k x y =
    ap (λ (h : History). pixel_in owner.place (last_image h) x y) c.requires.follows
    ∙ pixel_drawn t owner.place (position owner.history) x y c.requires.pixel
    ∙ pixel_alike t owner.place x y (position owner.history) k c.requires.pixel c.requires.alike in
    let shown : (c.pixel.result, c.depth.result) ≡ pixel_at t k x y =
    ap (λ a. (a, c.depth.result)) (c.pixel.ensures ∙ ap (λ (p : Pixel). p.0) image)
    ∙ ap (λ a. ((pixel_at t k x y).0, a)) (c.depth.ensures ∙ ap (λ (p : Pixel). p.1) image) in
    let pixels : c.deref.result.now ≡ overwritten t k x y ++ pixel_at t k x y ∷ [] =
    c.deref.ensures.value ∙ c.in_ok-push.ensures.items ∙ rw (c.loop-passed.invariant.kept, at, shown) refl in
    let is : c.settle.new.entries ≡ settled c.gather-2.inside.entries.items c.deref.result.now =
    c.settle.ensures ∙ rw c.deref_mut.ensures.value refl in
    given_back c.gather-2.inside.entries.len c.gather-2.inside.entries.items c.settle.new.entries c.deref.result.now c.gather-2.inside.entries.ok.0 is
    ∙ rw (gathered, pixels) (history_settles t k x y)
