use Rattle.fd_capture.proofs.Whole.{text_no_object}
use Rattle.fd_capture.proofs.capture.capture_head.Goals as goal

pub returns-in-None : goal.returns-in-None
returns-in-None c =
    let read = c.in_ok-head.ensures.ok in
    text_no_object c.args.version c.in_ok-head.field-0 c.args.text.now read.0 c.in-None.is read.1 read.2
