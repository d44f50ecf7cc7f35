use Rattle.fd_cli.proofs.performing.perform_file.Goals as goal

pub returns-clause-performs : goal.returns-clause-performs
returns-clause-performs g c =
    let opens = rw c.deref.ensures.value at c.open-opened.ensures.opens in
    let too_long = rw c.deref.ensures.value at c.open-opened.ensures.too_long in
    c.perform_opened.ensures.performs c.args.capture.items (opens, too_long)

pub returns-clause-waits : goal.returns-clause-waits
returns-clause-waits g c =
    let opens = rw c.deref.ensures.value at c.open-opened.ensures.opens in
    let too_long = rw c.deref.ensures.value at c.open-opened.ensures.too_long in
    c.perform_opened.ensures.waits c.args.capture.items (opens, too_long)
