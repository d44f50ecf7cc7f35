use Rattle.std.proofs.Common.{rules, ◌≡◌, ◌∙◌, ap₂, codes, [], true}
use Rattle.std.proofs.lemmas.Result.{IfOk-weaker}
use Rattle.clap.specs.Words.{App, app_of, with_subcommand}
use Rattle.clap.specs.Simple.{new_shape}
use Rattle.fd_arguments.proofs.words.command.Goals as goal

abbrev alone : App
alone = record { top = record (new_shape (codes "framedbg")) { has_version = true; subcommand_required = true }; subs = [] }

pub returns : goal.returns
returns c =
    let alone_is : app_of c.subcommand_required.result ≡ alone = search rules in
    let run = c.in_ok-run_command.ensures in
    let image = c.in_ok-image_command.ensures in
    IfOk-weaker c.subcommand-3.result _ _ (λ command adds. adds.shape (search rules)
    ∙ ap₂ with_subcommand (c.in_ok-subcommand-2.ensures.shape image.1
    ∙ ap₂ with_subcommand (c.in_ok-subcommand.ensures.shape run.1 ∙ ap₂ with_subcommand alone_is run.0) image.0) (search rules)) c.subcommand-3.ensures
