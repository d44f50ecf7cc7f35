use Rattle.std.proofs.Common.{◌≡◌, ◌∙◌, ap, [], ◌++◌, ◌<◌, length, take, refl, arith, append-nil, length-append}
use Rattle.std.proofs.KnownBytes.{Consumes-nil, Consumes-trans, Appends-nil, Appends-trans}
use Rattle.std.proofs.lemmas.List.{length-take, length-take-le}
use Rattle.fd_cli.proofs.Advancing.{serving_start, serves_stop, after_fill, end_reached}
use Rattle.fd_cli.proofs.Waited.{waited_none, waited_more, answered_so}
use Rattle.fd_cli.proofs.serving.serve_table.Goals as goal

pub loop-count-init : goal.loop-count-init
loop-count-init g c =
    record {
      input = [];
      text = [];
      consumed = Consumes-nil (g.R.Source.remaining c.args.source.now);
      appended = Appends-nil (g.W.Sink.contents c.args.sink.now);
      serving = serving_start c.args.table _ _ c.in-Ok.ensures.ok c.new.ensures;
      waited = waited_none _ c.args.table c.args.sink.now c.args.source.now;
      room = omega arith;
      read = refl;
      write = refl;
      flushed = λ was. was;
    }

pub returns-then-count-eq0-clause-serves : goal.returns-then-count-eq0-clause-serves
returns-then-count-eq0-clause-serves g c =
    let inv = c.loop-count.invariant in
    let filled = c.in-Ok-fill_beside.ensures.bytes in
    let finish = c.finish.ensures.finishes in
    let nothing : inv.input ++ take c.in-Ok-fill_beside.count c.fill_beside.new.buffer ≡ inv.input =
    ap (λ k. inv.input ++ take k c.fill_beside.new.buffer) c.if-count-eq0.true ∙ append-nil inv.input in
    let size = length-take c.min-room.result c.loop-count.buffer in
    let room : 0 < length c.fill_beside.new.buffer = omega (
      arith,
      c.fill_beside.auto.buffer,
      c.min-room.ensures,
      size,
      inv.serving.byte_count,
      inv.serving.answered.bytes,
    ) in
    let ended = end_reached (g.R.Source.has_ended c.loop-count.source) _ c.in-Ok-fill_beside.count
    (length c.fill_beside.new.buffer) filled.2 c.if-count-eq0.true room in (
      inv.input ++ take c.in-Ok-fill_beside.count c.fill_beside.new.buffer,
      inv.text ++ finish.written,
      Consumes-trans _ (g.R.Source.remaining c.loop-count.source) _ inv.input _ inv.consumed filled.1,
      Appends-trans _ (g.W.Sink.contents c.loop-count.sink) _ inv.text finish.written inv.appended finish.appended,
      rw nothing (omega (arith, inv.serving.answered.bytes)),
      rw (nothing, ended) (finish.after c.args.table inv.input inv.text inv.serving),
    )

pub returns-in-Err-clause-serves : goal.returns-in-Err-clause-serves
returns-in-Err-clause-serves g c =
    let inv = c.loop-count.invariant in
    let filled = c.in-Ok-fill_beside.ensures.bytes in
    let a = c.in-Err.ensures.advances in
    let taken = take c.in-Ok-fill_beside.count c.fill_beside.new.buffer in
    let size = length-take c.min-room.result c.loop-count.buffer in
    let length_taken = length-take-le c.in-Ok-fill_beside.count c.fill_beside.new.buffer filled.0 in
    let bound = inv.serving.answered.bytes in (
      inv.input ++ take c.in-Ok-fill_beside.count c.fill_beside.new.buffer,
      inv.text ++ a.written,
      Consumes-trans _ (g.R.Source.remaining c.loop-count.source) _ inv.input _ inv.consumed filled.1,
      Appends-trans _ (g.W.Sink.contents c.loop-count.sink) _ inv.text a.written inv.appended a.appended,
      omega (arith, inv.serving.byte_count, bound, c.min-room.ensures, c.fill_beside.auto.buffer, filled.0, size, length-append inv.input taken, length_taken),
      serves_stop _ _ _ _ _ (after_fill _ _ _ _ _ _ _ _ _ _ _ filled.0 inv.serving a),
    )

pub loop-count-smaller : goal.loop-count-smaller
loop-count-smaller g c =
    let inv = c.loop-count.invariant in
    let filled = c.in-Ok-fill_beside.ensures.bytes in
    let next = after_fill _ _ _ _ _ _ _ _ _ _ _ filled.0 inv.serving c.in_default-take_bytes.ensures.advances in
    let some : 0 < c.in-Ok-fill_beside.count = omega (arith, c.if-count-eq0.false) in
    let more = length-append inv.input (take c.in-Ok-fill_beside.count c.fill_beside.new.buffer) in
    let size = length-take-le c.in-Ok-fill_beside.count c.fill_beside.new.buffer filled.0 in
    omega (arith, next.byte_count, next.answered.bytes, inv.serving.byte_count, more, size)

pub loop-count-preserved : goal.loop-count-preserved
loop-count-preserved g c =
    let inv = c.loop-count.invariant in
    let filled = c.in-Ok-fill_beside.ensures.bytes in
    let a = c.in_default-take_bytes.ensures.advances in
    record {
      input = inv.input ++ take c.in-Ok-fill_beside.count c.fill_beside.new.buffer;
      text = inv.text ++ a.written;
      consumed = Consumes-trans _ (g.R.Source.remaining c.loop-count.source) _ inv.input _ inv.consumed filled.1;
      appended = Appends-trans _ (g.W.Sink.contents c.loop-count.sink) _ inv.text a.written inv.appended a.appended;
      serving = after_fill _ _ _ _ _ _ _ _ _ _ _ filled.0 inv.serving a;
      waited = waited_more _ c.args.table c.args.sink.now c.args.source.now c.loop-count.source c.fill_beside.new.source c.loop-count.sink
          inv.input _ inv.waited c.in-Ok-fill_beside.ensures.beside
          (answered_so _ c.args.table c.args.sink.now c.args.source.now c.loop-count.sink inv.input inv.text c.loop-count.dialogue inv.serving inv.appended
          inv.flushed);
      room = c.in_default-take_bytes.ensures.room;
      read = c.in-Ok-fill_beside.ensures.failures ∙ inv.read;
      write = c.in_default-take_bytes.ensures.ok ∙ inv.write;
      flushed = λ was. c.in_default-take_bytes.ensures.passed_on (inv.flushed was);
    }

pub returns-in-Err-clause-read : goal.returns-in-Err-clause-read
returns-in-Err-clause-read g c = c.in-Err.ensures.read _ _ (c.in-Ok-fill_beside.ensures.failures ∙ c.loop-count.invariant.read)

pub returns-in_default-fill_beside-clause-waits : goal.returns-in_default-fill_beside-clause-waits
returns-in_default-fill_beside-clause-waits g c =
    let inv = c.loop-count.invariant in
    let waited = waited_more _ c.args.table c.args.sink.now c.args.source.now c.loop-count.source c.fill_beside.new.source c.loop-count.sink
    inv.input _ inv.waited c.in_default-fill_beside.ensures.beside
    (answered_so _ c.args.table c.args.sink.now c.args.source.now c.loop-count.sink inv.input inv.text c.loop-count.dialogue inv.serving inv.appended
    inv.flushed) in
    (waited.reads, waited.waits)

pub returns-then-count-eq0-clause-waits : goal.returns-then-count-eq0-clause-waits
returns-then-count-eq0-clause-waits g c =
    let inv = c.loop-count.invariant in
    let waited = waited_more _ c.args.table c.args.sink.now c.args.source.now c.loop-count.source c.fill_beside.new.source c.loop-count.sink
    inv.input _ inv.waited c.in-Ok-fill_beside.ensures.beside
    (answered_so _ c.args.table c.args.sink.now c.args.source.now c.loop-count.sink inv.input inv.text c.loop-count.dialogue inv.serving inv.appended
    inv.flushed) in
    (waited.reads, waited.waits)

pub returns-in-Err-clause-waits : goal.returns-in-Err-clause-waits
returns-in-Err-clause-waits g c =
    let inv = c.loop-count.invariant in
    let waited = waited_more _ c.args.table c.args.sink.now c.args.source.now c.loop-count.source c.fill_beside.new.source c.loop-count.sink
    inv.input _ inv.waited c.in-Ok-fill_beside.ensures.beside
    (answered_so _ c.args.table c.args.sink.now c.args.source.now c.loop-count.sink inv.input inv.text c.loop-count.dialogue inv.serving inv.appended
    inv.flushed) in
    (waited.reads, waited.waits)
