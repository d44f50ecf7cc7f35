use Rattle.std.proofs.Common.{◌⊎◌, ◌≤◌, ℕ, ◌∙◌, ap, inl, inr, sym, arith, refl}
use Rattle.std.proofs.lemmas.Bool.{false≢true}
use Rattle.arrayvec.specs.ArrayVec.{ArrayVec}
use Rattle.fd_words.specs.Line.{command_of}
use Rattle.fd_cli.proofs.LineLemmas.{push_front}
use Rattle.fd_device.proofs.Transfers.{puts_all}
use Rattle.fd_cli.proofs.Advancing.{advance_past, advance_byte, advance_fault, advance_quit, advance_line}
use Rattle.fd_cli.proofs.dialogue.Dialogue.take_byte.Goals as goal
use Rattle.fd_cli.proofs.dialogue.Dialogue.take_byte.Goals.{then-self-ge-MAX_BYTES-via-then-self-ge-MAX_BYTES}
use Rattle.fd_cli.proofs.dialogue.Dialogue.take_byte.Goals.{then-self-ge-MAX_BYTES-via-else-self-ge-MAX_BYTES+then-self-ge-MAX_LINES}

pub returns-then-self-ge-MAX_BYTES-clause-advances : goal.returns-then-self-ge-MAX_BYTES-clause-advances
returns-then-self-ge-MAX_BYTES-clause-advances g c =
    let past : (268435456 ≤ c.args.self.now.bytes) ⊎ (1000000 ≤ c.args.self.now.lines) =
    elim c.then-self-ge-MAX_BYTES.branch [
      | then-self-ge-MAX_BYTES-via-then-self-ge-MAX_BYTES w ↦ inl (omega arith)
      | then-self-ge-MAX_BYTES-via-else-self-ge-MAX_BYTES+then-self-ge-MAX_LINES w ↦ inr (omega arith)
    ] in
    advance_past c.args.self.now (g.W.Sink.contents c.args.sink.now) c.args.byte past

pub returns-then-byte-ne10-clause-advances : goal.returns-then-byte-ne10-clause-advances
returns-then-byte-ne10-clause-advances g c =
    advance_byte c.args.self.now c.try_push.new.self _ c.args.byte c.if-byte-ne10.true c.if-self-ge-MAX_BYTES.false c.if-self-ge-MAX_LINES.false
    (push_front (λ (v : ArrayVec ℕ). v.items) c.args.self.now.line c.try_push.new.self c.args.byte c.try_push.result c.try_push.ensures.variant.0
    c.try_push.ensures.ok c.try_push.ensures.err c.try_push.ensures.full)

pub returns-in_default-clause-advances : goal.returns-in_default-clause-advances
returns-in_default-clause-advances g c = rw c.if-byte-ne10.false
    (advance_fault c.args.self.now _ _ _ c.if-self-ge-MAX_BYTES.false c.if-self-ge-MAX_LINES.false
    (rw c.as_slice-line.ensures.value at c.in_default.ensures.replies))

pub returns-then-quit-clause-advances : goal.returns-then-quit-clause-advances
returns-then-quit-clause-advances g c =
    let same = c.as_slice-line.ensures.value in
    rw c.if-byte-ne10.false
    (advance_quit c.args.self.now _ _ _ c.if-self-ge-MAX_BYTES.false (rw same at c.in-Ok.ensures.replies)
    (rw same at (c.in-Ok.ensures.quit.0 c.if-quit.true)))

pub returns-else-quit-clause-advances : goal.returns-else-quit-clause-advances
returns-else-quit-clause-advances g c =
    let same = c.as_slice-line.ensures.value in
    rw c.if-byte-ne10.false
    (advance_line c.args.self.now _ _ _ c.if-self-ge-MAX_BYTES.false c.if-self-ge-MAX_LINES.false (rw same at c.in-Ok.ensures.replies)
    (λ e. absurd (false≢true (sym c.if-quit.false ∙ c.in-Ok.ensures.quit.1 (ap command_of same ∙ e)))) c.clear.ensures refl refl)

pub returns-else-quit-clause-room : goal.returns-else-quit-clause-room
returns-else-quit-clause-room g c =
    let replies = c.in-Ok.ensures.replies in
    omega (arith, c.requires, (puts_all _ _ _ _ replies.reply replies.puts).1, replies.short refl)
