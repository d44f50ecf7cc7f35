use Rattle.std.proofs.Common.{◌≡◌, ◌+◌, ◌-◌, ◌∙◌, ◌++◌, [], sym, append-nil, true, Some, ap, arith, length, take, drop, length-append}
use Rattle.std.proofs.lemmas.List.{drop_at, take_all}
use Rattle.fd_events.specs.Image.{kept_after, pixel_at}
use Rattle.fd_events.specs.Table.{flag_at}
use Rattle.fd_owner.specs.History.{position, pixels_kept}
use Rattle.fd_owner.proofs.Drawn.{kept_drawn}
use Rattle.fd_history.specs.Gathered.{Gathering, gathered_of}
use Rattle.fd_history.proofs.Settles.{count_event}
use Rattle.fd_history.proofs.histories.pass_number.Goals as goal

-- past the owner's own position nothing is written on its tile
pub returns-then-number-position-clause-kept : goal.returns-then-number-position-clause-kept
returns-then-number-position-clause-kept c =
    let x = c.args.gather.now.x in
    let y = c.args.gather.now.y in
    let table = c.args.table.now in
    let untouched = c.requires.untouched (omega (arith, c.if-number-position.true, c.position.ensures)) in
    let none : kept_after table (c.args.number - 1) x y ≡ [] = (untouched.stays x y (pixel_at table (c.args.number - 1) x y) c.requires.pixel).1 in
    rw none (sym (append-nil c.args.kept.now.items))

pub returns-clause-kept : goal.returns-clause-kept
returns-clause-kept c =
    let x = c.args.gather.now.x in
    let y = c.args.gather.now.y in
    let owner = c.args.owner.now in
    let table = c.args.table.now in
    let k = position owner.history in
    let same : c.gather-2.inside.x ≡ x = ap (λ (g : Gathering). g.x) (c.gather-2.view_is ∙ c.in_ok-pass.ensures.exact) in
    let row : c.gather-2.inside.y ≡ y = ap (λ (g : Gathering). g.y) (c.gather-2.view_is ∙ c.in_ok-pass.ensures.exact) in
    let number : c.args.number - 1 + 1 ≡ c.args.number = omega (arith, c.requires.first) in
    let kept = rw number at (kept_drawn owner.place x y c.requires.pixel table k (c.args.number - 1) (omega (arith, c.requires.first, c.requires.last))) in
    let event = c.event-event.result.now in
    let on : flag_at table c.args.number ≡ Some true = c.is_on.ensures ∙ ap (λ b. Some b) c.if-not-is_on.false in
    let before = c.args.gather.now.entries in
    let depth = c.args.gather.now.depth in
    let more = gathered_of c.args.number event c.state_before.result.now x y depth in
    let entries : c.deref.result.now ≡ before ++ more =
    c.deref.ensures.value ∙ ap (λ (g : Gathering). g.entries) (c.gather-2.view_is ∙ c.in_ok-pass.ensures.exact) in
    let start : c.len-before.result ≡ length before =
    omega (arith, c.len-before.ensures, c.gather.inside.entries.ok.0, ap (λ (g : Gathering). length g.entries) c.gather.view_is) in
    let part : take (length c.deref.result.now - c.len-before.result) (drop c.len-before.result c.deref.result.now) ≡ more =
    rw (entries, drop_at before more c.len-before.result (omega (arith, start)))
    (take_all (length (before ++ more) - c.len-before.result) more (omega (arith, start, length-append before more))) in
    let drawn : c.count_drawn-drawn.result ≡ length (kept_after table (c.args.number - 1) x y) =
    c.count_drawn-drawn.ensures ∙ rw (part, c.state_before.ensures, c.requires.depth)
    (count_event table c.args.number x y event c.requires.first c.event-event.ensures on) in
    let all : take c.count_drawn-drawn.result (pixels_kept owner.place owner.history c.args.number c.gather-2.inside.x c.gather-2.inside.y) ≡ kept_after table
    (c.args.number - 1) x y =
    rw (same, row, c.requires.follows, kept) (take_all c.count_drawn-drawn.result (kept_after table (c.args.number - 1) x y) (omega (arith, drawn))) in
    rw all at c.add_kept.ensures.kept
