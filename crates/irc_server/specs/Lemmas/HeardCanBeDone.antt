-- What is heard at an end can be done there.
use Rattle.std.proofs.Common.{◌≡◌, ℕ, Bool, true, false, is_some, Option, Some, None, Result, Ok}
use Rattle.std.proofs.Common.{Err, List, refl, if◌then◌else◌}
use Rattle.irc_line.specs.declared.reading.LineFault.{LineFault}
use Rattle.irc_line.specs.declared.reading.LineFault.TheVariants as fault
use Rattle.irc_line.specs.Messages.{Parsed}
use Rattle.irc_batch.specs.declared.close_reason.CloseReason.{CloseReason}
use Rattle.irc_link_words.specs.declared.openings.Opening.{Opening}
use Rattle.irc_link_words.specs.declared.openings.Opening.TheVariants as opening
use Rattle.irc_burst.specs.DeedsMeant.{Told, deeds_meant}
use Rattle.irc_burst.specs.HandshakeMeant.{handshake_meant}
use Rattle.irc_stage.specs.Ends.{is_met}
use Rattle.irc_stage.specs.View.{End, View}
use Rattle.irc_server.specs.Heard.{heard, met_unless, of_met, opened}
use Rattle.irc_server.specs.Loops.Serving.{IsHearable}

module _ (view : View) (link : ℕ) (end : End) where
  by_met : (result : Result (List Told) CloseReason) → is_met end ≡ true
      → IsHearable (Some end) (of_met result)
  by_met (Ok told) met = met
  by_met (Err why) met = tt

  by_named : (refused : Option CloseReason) (name info : List ℕ)
      → IsHearable (Some end) (met_unless refused name info)
  by_named None name info = refl
  by_named (Some why) name info = tt

  by_opened : (result : Result Opening CloseReason)
      → IsHearable (Some end) (opened view end result)
  by_opened (Err why) = tt
  by_opened (Ok (opening.Password word)) = tt
  by_opened (Ok (opening.Greeting name info)) = by_named _ name info

  by_message : (message : Parsed) (b : Bool) → is_met end ≡ b
      → IsHearable (Some end)
      (if b then of_met (deeds_meant view.room view.routes link message)
      else opened view end
      (handshake_meant (is_some end.password) view.room view.routes link message))
  by_message message true met = by_met (deeds_meant view.room view.routes link message) met
  by_message message false met =
      by_opened (handshake_meant (is_some end.password) view.room view.routes link message)

  pub hearable : (read : Result Parsed LineFault)
      → IsHearable (Some end) (heard view link end read)
  unfolding heard
  hearable (Ok message) = by_message message (is_met end) refl
  hearable (Err fault.Empty) = tt
  hearable (Err why) = tt
