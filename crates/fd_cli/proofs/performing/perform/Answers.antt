use Rattle.fd_cli.proofs.performing.perform.Goals as goal

pub returns-clause-performs : goal.returns-clause-performs
returns-clause-performs g c = c.perform_opened.ensures.performs c.args.capture.now (c.open.ensures.opens, c.open.ensures.too_long)

pub returns-clause-waits : goal.returns-clause-waits
returns-clause-waits g c = c.perform_opened.ensures.waits c.args.capture.now (c.open.ensures.opens, c.open.ensures.too_long)
