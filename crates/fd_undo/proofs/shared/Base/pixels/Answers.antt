use Rattle.std.proofs.Common.{◌∙◌, sym}
use Rattle.fd_undo.specs.Alike.{place_of_span}
use Rattle.fd_undo.proofs.Pixelwise.{length-alike}
use Rattle.fd_undo.proofs.SharedLemmas.{newest-alike}
use Rattle.fd_undo.proofs.shared.Base.pixels.Goals as goal

pub returns : goal.returns
returns c =
    let b = c.self.inside in
    let p = place_of_span b.span in
    let top = newest-alike p b.frames b.count c.self.invariant.1 c.self.invariant.2 in
    c.pixels.ensures ∙ sym (rw (← c.self.view_is, top) (length-alike p _))
