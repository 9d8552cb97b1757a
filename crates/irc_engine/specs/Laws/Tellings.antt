-- What follows of turns behind which something is said: they leave an engine in order, and all that
-- is said is of links.
use Rattle.std.proofs.Common.{◌≡◌, ℕ, true, false, Option, Some, None, Result, Ok, List, [], refl}
use Rattle.std.proofs.Common.{sym, subst}
use Rattle.irc_outbox.specs.declared.wire.Notice.{Notice}
use Rattle.irc_outbox.specs.declared.wire.Notice.TheVariants as notices
use Rattle.irc_outbox.specs.Calls.{Call}
use Rattle.irc_journal.specs.Saying.{AreSomeSaid}
use Rattle.irc_journal.specs.Saying.{of_connections}
use Rattle.irc_journal.specs.Laws.Sayings.{line_said, link_said, some_said_both, told_said}
use Rattle.irc_engine.specs.declared.engine.EngineFault.{EngineFault}
use Rattle.irc_engine.specs.Running.{IsInOrder}
use Rattle.irc_engine.specs.Turning.{TurnedBy, takes_turn}
use Rattle.irc_engine.specs.EngineView.{EngineViewOf}
use Rattle.irc_engine.specs.Machines.{Dues, Handles}
use Rattle.irc_stage.specs.View.{View}
use Rattle.irc_engine.specs.Telling.{call_told, IsNoticeSaid, Tells, ToldTurnsBy, no_told}
use Rattle.irc_engine.specs.Telling.{told_more, RunsTellingBy, all_told, told_stopped}
use Rattle.irc_engine.specs.Laws.Turns.{in_order_after}

notice_said : (notice : Option Notice) (held after : Option (List ℕ))
    → IsNoticeSaid notice held after → AreSomeSaid held after
notice_said None held after said = ([], said)
notice_said (Some (notices.Unreached call)) held after said =
    link_said (call_told call) None 0 held after said
notice_said (Some notices.DescriptorsGone) held after said =
    line_said _ held after (of_connections false refl) said
notice_said (Some notices.DescriptorsBack) held after said =
    line_said _ held after (of_connections true refl) said

module _ {W M : Type 0} (is_after : W → List Call → Type 0) where
  tells_some : (old new : EngineViewOf W M) (held after : Option (List ℕ))
      → Tells is_after old new held after → AreSomeSaid held after
  tells_some old new held after tells =
      some_said_both held tells.between after
      (told_said tells.moment old.now.journal.tidings.items tells.emptied tells.journal held
      tells.between tells.are_told)
      (notice_said tells.notice tells.between after tells.notice_said)

  in_order_told : (old new : EngineViewOf W M) (held after : Option (List ℕ))
      → Tells is_after old new held after → IsInOrder old.now → IsInOrder new.now
  in_order_told old new held after tells order =
      subst (λ (engine : EngineViewOf W M). IsInOrder engine.now) (sym tells.new_is)
      (record { all_told = order.all_told; noted = order.noted; none_done = order.none_done })

module _ {W M : Type 0} {server_of : M → Option View} {handles : Handles M}
    {dues : Dues M} (is_after : W → List Call → Type 0) where
  pub turns_tell_some : (old : EngineViewOf W M) (held : Option (List ℕ)) (turns : ℕ)
      (new : EngineViewOf W M) (after : Option (List ℕ))
      → ToldTurnsBy is_after server_of handles dues old held turns new after
      → AreSomeSaid held after
  turns_tell_some old held turns new after no_told = ([], refl)
  turns_tell_some old held turns new after (told_more n between last then end so_far more) =
      some_said_both held then after (turns_tell_some old held n between then so_far)
      (tells_some is_after more.between new then after more.tells)

  -- whatever comes of turns, what is said is of links alone
  pub runs_tell_some : (old : EngineViewOf W M) (held : Option (List ℕ)) (turns : ℕ)
      (new : EngineViewOf W M) (after : Option (List ℕ)) (result : Result (Unit {0}) EngineFault)
      → RunsTellingBy is_after server_of handles dues old held turns new after result
      → AreSomeSaid held after
  runs_tell_some old held turns new after result (all_told so_far) =
      turns_tell_some old held turns new after so_far
  runs_tell_some old held turns new after result (told_stopped taken between
      then fault less so_far last) =
      some_said_both held then after (turns_tell_some old held taken between then so_far)
      (tells_some is_after last.between new then after last.tells)

  well_after : (old new : EngineViewOf W M)
      → TurnedBy is_after server_of handles dues old new (Ok tt) → new.failed ≡ false
  well_after old new (takes_turn serves still room turn) = still

  -- an engine is in order behind each of them
  pub in_order_after_told : (old : EngineViewOf W M) (held : Option (List ℕ)) (turns : ℕ)
      (new : EngineViewOf W M) (after : Option (List ℕ))
      → ToldTurnsBy is_after server_of handles dues old held turns new after
      → IsInOrder old.now → IsInOrder new.now
  in_order_after_told old held turns new after no_told order = order
  in_order_after_told old held turns new after (told_more n between last
      then end so_far more) order =
      in_order_told is_after more.between last then end more.tells
      (in_order_after is_after between more.between (Ok tt) more.turned
      (well_after between more.between more.turned)
      (in_order_after_told old held n between then so_far order))
