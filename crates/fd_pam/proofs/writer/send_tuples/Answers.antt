use Rattle.std.proofs.Common.{◌≡◌, ◌+◌, ◌*◌, ◌<◌, ◌++◌, ◌∙◌, ap, length, arith, length-append}
use Rattle.std.proofs.KnownBytes.{Appends-trans}
use Rattle.std.proofs.lemmas.Result.{err_from_is_err_and}
use Rattle.fd_events.specs.Table.{Table}
use Rattle.std.specs.List.{flat_map}
use Rattle.fd_pam.specs.Pam.{tuple}
use Rattle.fd_pam.proofs.Pams.{so_far_short, body_more, still_so_far, body_broken, body_cut, cut_after, body_last, length-tuples, rows_all}
use Rattle.fd_pam.proofs.writer.send_tuples.Goals as goal

pub make_room-requires : goal.make_room-requires
make_room-requires g c =
    let state = g.F.Shows.state c.args.frame.now in
    let inv = c.loop-x.invariant in
    let width : c.width-width.result ≡ state.table.width = c.width-width.ensures.value ∙ ap (λ (t : Table). t.width) c.table.ensures in
    let height : c.height-height.result ≡ state.table.height = c.height-height.ensures.value ∙ ap (λ (t : Table). t.height) c.table-2.ensures in
    let sent = so_far_short state (c.loop-y.y * state.table.width + c.loop-x.x) inv.text c.loop-x.chunk.items
    (omega (arith, ap (λ (t : Table). t.width) c.table.ensures, c.width-width.ensures.table.max_width))
    (omega (arith, ap (λ (t : Table). t.height) c.table-2.ensures, c.height-height.ensures.table.max_height)) inv.so_far in
    omega (arith, c.requires, inv.counted, sent)

pub returns-in_err-make_room-clause-puts : goal.returns-in_err-make_room-clause-puts
returns-in_err-make_room-clause-puts g c =
    let p = err_from_is_err_and c.from_residual.result c.from_residual.ensures.1 in
    let inv = c.loop-x.invariant in
    rw p.1
    (body_broken (g.F.Shows.state c.args.frame.now) _ (g.W.Sink.contents c.loop-x.sink) _ _ c.loop-x.sent _ inv.text c.loop-x.chunk.items
    (c.loop-y.y * (g.F.Shows.state c.args.frame.now).table.width + c.loop-x.x)
    inv.appended inv.counted c.in_err-make_room.ensures.err inv.so_far)

pub returns-in_err-make_room-clause-cut : goal.returns-in_err-make_room-clause-cut
returns-in_err-make_room-clause-cut g c =
    let p = err_from_is_err_and c.from_residual.result c.from_residual.ensures.1 in
    let inv = c.loop-x.invariant in
    rw p.1
    (body_cut (g.F.Shows.state c.args.frame.now) _ c.loop-x.sent _ inv.text c.loop-x.chunk.items
    (c.loop-y.y * (g.F.Shows.state c.args.frame.now).table.width + c.loop-x.x)
    inv.counted c.in_err-make_room.ensures.cut inv.so_far)

pub loop-x-preserved : goal.loop-x-preserved
loop-x-preserved g c =
    let state = g.F.Shows.state c.args.frame.now in
    let inv = c.loop-x.invariant in
    let y = c.loop-y.y in
    let x = c.loop-x.x in
    let gone = c.in_ok-make_room.ensures.ok in
    let piece = c.row_from-piece.result.items in
    let height : c.height-height.result ≡ state.table.height = c.height-height.ensures.value ∙ ap (λ (t : Table). t.height) c.table-2.ensures in
    let width : c.width-width.result ≡ state.table.width = c.width-width.ensures.value ∙ ap (λ (t : Table). t.width) c.table.ensures in
    let row : y < state.table.height = omega (arith, c.loop-y-test.true, height) in
    let added : c.add_tuples.new.chunk.items ≡ c.make_room.new.chunk.items ++ flat_map tuple piece = rw c.deref.ensures.0 at c.add_tuples.ensures in
    record {
      text = inv.text ++ gone.0;
      appended = Appends-trans _ (g.W.Sink.contents c.loop-x.sink) _ inv.text gone.0 inv.appended gone.3;
      counted = omega (arith, gone.4, inv.counted, length-append inv.text gone.0);
      so_far = rw c.len.ensures.value
          (ap (λ xs. (inv.text ++ gone.0) ++ xs) added
          ∙ body_more state x y piece (inv.text ++ gone.0) c.make_room.new.chunk.items c.row_from-piece.ensures.inside row c.row_from-piece.ensures.colours
          (still_so_far inv.text gone.0 c.make_room.new.chunk.items c.loop-x.chunk.items _ gone.1 inv.so_far));
      within = omega (arith, width, c.len.ensures.value, c.row_from-piece.ensures.inside);
      short = omega (
        arith,
        gone.2,
        c.len.ensures.fits,
        c.len.ensures.value,
        ap length added,
        length-append c.make_room.new.chunk.items (flat_map tuple piece),
        length-tuples piece,
      );
      failures = c.in_ok-make_room.ensures.failures ∙ inv.failures;
    }

pub send-requires : goal.send-requires
send-requires g c =
    let state = g.F.Shows.state c.args.frame.now in
    let inv = c.loop-y.invariant in
    let sent = so_far_short state (c.loop-y.y * state.table.width) inv.text c.loop-y.chunk.items
    (omega (arith, ap (λ (t : Table). t.width) c.table.ensures, c.width-width.ensures.table.max_width))
    (omega (arith, ap (λ (t : Table). t.height) c.table-2.ensures, c.height-height.ensures.table.max_height)) inv.so_far in
    omega (arith, c.requires, inv.counted, ap length c.as_slice.ensures.value, sent)

pub returns-clause-puts : goal.returns-clause-puts
returns-clause-puts g c =
    let state = g.F.Shows.state c.args.frame.now in
    let inv = c.loop-y.invariant in
    let height : c.height-height.result ≡ state.table.height = c.height-height.ensures.value ∙ ap (λ (t : Table). t.height) c.table-2.ensures in
    let all : c.loop-y.y ≡ state.table.height = omega (arith, height, c.loop-y-test.false, c.loop-y.auto.y-end) in
    body_last state _ (g.W.Sink.contents c.loop-y.sink) _ _ c.loop-y.sent _ inv.text c.loop-y.chunk.items _ inv.appended inv.counted
    (rw c.as_slice.ensures.value at c.send.ensures.puts)
    (inv.so_far ∙ rows_all state c.loop-y.y all)

pub returns-clause-cut : goal.returns-clause-cut
returns-clause-cut g c =
    let state = g.F.Shows.state c.args.frame.now in
    let inv = c.loop-y.invariant in
    let cut = rw c.as_slice.ensures.value at c.send.ensures.cut in
    cut_after c.send.result _ c.loop-y.sent _ inv.text c.loop-y.chunk.items (g.F.Shows.state c.args.frame.now) (c.loop-y.y * state.table.width) inv.counted
    inv.so_far cut
