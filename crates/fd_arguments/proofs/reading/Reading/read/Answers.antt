use Rattle.std.proofs.Common.{rules, ◌≡◌, ◌∙◌, ap, ap₂, sym, subst, Some, None, Option, true, refl, List, map, option_map, Ok, Err, Result}
use Rattle.std.specs.Box.{box_value}
use Rattle.std.specs.Prelude.{IfErr, unwrap_or}
use Rattle.std.specs.Result.{IsErrAnd}
use Rattle.clap.specs.Words.{App, FailsBy, HasKind, Kinds, Text, Row, found_of, fault_of, kind_of}
use Rattle.clap.specs.declared.error.kind.ErrorKind.TheVariants.{OutOfMemory}
use Rattle.clap.specs.Words.{is_simple, is_simple_and_free, rows_of, subcommand_of, subcommand_rows_of}
use Rattle.clap.specs.declared.error.Error.{Error}
use Rattle.clap.specs.declared.parser.matches.ArgMatches.TheViews.{out-ArgMatches, out-SubCommand}
use Rattle.clap.proofs.OnLiterals.{clap_on_literals}
use Rattle.fd_arguments.specs.Words.{program}
use Rattle.fd_arguments.proofs.reading.Reading.read.Goals as goal

program_is_simple : (is_simple program ≡ true) × (is_simple_and_free program ≡ true)
unfolding clap_on_literals
program_is_simple = (refl, refl)

same_error : {T : Type 0} (kinds : Kinds) (r : Result T Error) (e : Error) → HasKind kinds e → IsErrAnd r (λ x. x ≡ e) → FailsBy kinds r
same_error kinds (Err x) e h same = subst (HasKind kinds) (sym same) h
same_error kinds (Ok t) e h same = elim same [ ]

any_error : {T : Type 0} (r : Result T Error) (P : Error → Type 0) → ((e : Error) → P e) → IfErr r P
any_error (Err x) P all = all x
any_error (Ok t) P all = tt

some_is : {A : Type 0} (x y : A) → Some x ≡ Some y → x ≡ y
some_is x y same = ap (λ o. unwrap_or o x) same

abbrev pair : Text → List Row → Option (Text × List Row)
pair name rows = Some (name, rows)

-- a subcommand by its name and what stands behind it
met : {A : Type 0} (both : A → Text × List Row) (o : Option A) (name : Text) (rows : List Row) → option_map (λ a. (both a).0) o ≡ Some name
    → option_map (λ (p : Text × List Row). p.1) (option_map both o) ≡ Some rows → option_map both o ≡ pair name rows
met both None name rows named held = search rules
met both (Some a) name rows named held = ap₂ pair (some_is (both a).0 name named) (some_is (both a).1 rows held)

pub returns-in_err-matches-clause-fails : goal.returns-in_err-matches-clause-fails
returns-in_err-matches-clause-fails g c =
    let fault = ap (λ (a : App). fault_of a (map g.S.AsStr.text c.args.words.now)) c.in_ok-command.ensures in
    let kind = c.in_err-matches.ensures.kinds (ap is_simple_and_free c.in_ok-command.ensures ∙ program_is_simple.1) in
    same_error _ c.from_residual-in_err-matches.result c.in_err-matches.field-0.0 (subst (λ k. HasKind k c.in_err-matches.field-0.0) fault kind)
    c.from_residual-in_err-matches.ensures.1

pub returns-in_err-matches-clause-wanted : goal.returns-in_err-matches-clause-wanted
returns-in_err-matches-clause-wanted g c = any_error _ (λ e. kind_of e ≡ OutOfMemory → g.Self.Reading.why (map g.S.AsStr.text c.args.words.now))
    (λ e is. search rules)

pub returns-in_err-command-clause-wanted : goal.returns-in_err-command-clause-wanted
returns-in_err-command-clause-wanted g c = any_error _ (λ e. kind_of e ≡ OutOfMemory → g.Self.Reading.why (map g.S.AsStr.text c.args.words.now))
    (λ e is. search rules)

pub returns-clause-fails : goal.returns-clause-fails
returns-clause-fails g c = sym (ap (λ (a : App). fault_of a (map g.S.AsStr.text c.args.words.now)) c.in_ok-command.ensures)
    ∙ c.in_ok-matches.ensures.kinds (ap is_simple_and_free c.in_ok-command.ensures ∙ program_is_simple.1)

pub returns-clause-asks : goal.returns-clause-asks
returns-clause-asks g c =
    let m = c.in_ok-matches.ensures.matches (ap is_simple c.in_ok-command.ensures ∙ program_is_simple.0) in
    let rows = m.1 ∙ ap (λ (a : App). subcommand_of a (map g.S.AsStr.text c.args.words.now)) c.in_ok-command.ensures in
    let k = c.subcommand.ensures in
    let entered : subcommand_rows_of c.in_ok-matches.matches ≡ Some (c.unwrap.result.0.now, rows_of (found_of c.unwrap.result.1.now)) =
    met (λ b. ((out-SubCommand (box_value b)).name.now, rows_of (found_of (out-SubCommand (box_value b)).matches)))
    (out-ArgMatches c.in_ok-matches.matches).subcommand c.unwrap.result.0.now (rows_of (found_of c.unwrap.result.1.now))
    (sym k.name ∙ ap (option_map (λ p. p.0.now)) c.unwrap.ensures) (sym k.rows ∙ ap (option_map (λ p. rows_of (found_of p.1.now))) c.unwrap.ensures) in
    rw (sym rows ∙ entered) c.arguments_of.ensures.value
