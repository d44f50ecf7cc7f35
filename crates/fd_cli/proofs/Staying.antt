-- What holds of a table's version and events holds as long as a session lasts, since no command changes them.
use Rattle.std.proofs.Common.{◌≡◌, ℕ, zero, suc, List, Bool, true, false, Result, Ok, Err, sym, subst}
use Rattle.fd_events.specs.declared.event.Event.{Event}
use Rattle.fd_events.specs.Table.{Table, with_flag}
use Rattle.fd_session.specs.declared.answer.Answer.TheVariants.{Moved, Stopped, Refused}
use Rattle.fd_frame.specs.State.{State}
use Rattle.fd_words.specs.declared.command.Command.{Command}
use Rattle.fd_words.specs.declared.command.Command.TheVariants.{Step, Back, Goto, On, Off, Pixel, History}
use Rattle.fd_words.specs.declared.command.CommandFault.{CommandFault}
use Rattle.fd_cli.specs.Run.{Answers}

module _ (P : ℕ → List Event → Type 0) where
  abbrev Holds : State → Type 0
  Holds state = P state.table.version state.table.events

  kept : (new last : State) → new ≡ last → Holds last → Holds new
  kept new last is holds = subst Holds (sym is) holds

  flagged : (t : Table) (number : ℕ) (on : Bool) → P t.version t.events → P (with_flag t number on).version (with_flag t number on).events
  flagged t zero on holds = holds
  flagged t (suc n) on holds = holds

  pub answered : (command : Result Command CommandFault) (old new : State) (text : List ℕ) → Answers (Unit {0}) old command text new → Holds old → Holds new
  answered (Ok Step) old new text (Refused fault, h, w, is) holds = kept new _ h.1 holds
  answered (Ok Step) old new text (other, h, w, is) holds = kept new _ h.2 holds
  answered (Ok Back) old new text (Ok at, h, is) holds = kept new _ h.2 holds
  answered (Ok Back) old new text (Err fault, h, is) holds = kept new _ h.2 holds
  answered (Ok (Goto to)) old new text (Moved at, h, w, is) holds = kept new _ h.2 holds
  answered (Ok (Goto to)) old new text (Stopped at, h, w, is) holds = kept new _ h.3 holds
  answered (Ok (Goto to)) old new text (Refused fault, h, w, is) holds = kept new _ h.1 holds
  answered (Ok (On number)) old new text (Moved at, h, w, is) holds = kept new _ h.2 (flagged old.table number true holds)
  answered (Ok (On number)) old new text (Stopped at, h, w, is) holds = kept new _ h.3 (flagged old.table number true holds)
  answered (Ok (On number)) old new text (Refused fault, h, w, is) holds = kept new _ h.1 holds
  answered (Ok (Off number)) old new text (Moved at, h, w, is) holds = kept new _ h.2 (flagged old.table number false holds)
  answered (Ok (Off number)) old new text (Stopped at, h, w, is) holds = kept new _ h.3 (flagged old.table number false holds)
  answered (Ok (Off number)) old new text (Refused fault, h, w, is) holds = kept new _ h.1 holds
  answered (Ok (Pixel x y)) old new text h holds = kept new _ h.5 holds
  answered (Ok (History x y)) old new text h holds = kept new _ h.4 holds
  answered other old new text h holds = kept new _ h.1 holds
