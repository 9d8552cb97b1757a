-- What a line of a link is to the server, by what the end of that link knows (RFC 2813 sections 4.1
-- and 5).
--
-- a.net has the peer b.net with password pw. By a link that was opened to it:
--   `PASS pw 0210010001 TREE|`  the password is kept
--   `SERVER b.net 1 1 :B`       b.net is met: a.net answers PASS, SERVER and its burst
--   ` `                         nothing: a line of spaces alone
--   `FOO`                       UnknownCommand, before SERVER and afterwards
--   `NICK al 1 u h 1 + :Al`     Order before SERVER; afterwards al comes
--   `SERVER x.net 1 1 :X`       UnknownPeer; of a peer with another password Password; of one that
--                               is known AlreadyKnown
use Rattle.std.specs.Prelude.{ℕ, is_some, Option, Some, None, Result, Ok, Err, List, unwrap_or, []}
use Rattle.std.specs.Prelude.{if◌then◌else◌}
use Rattle.irc_line.specs.declared.reading.LineFault.{LineFault}
use Rattle.irc_line.specs.declared.reading.LineFault.TheVariants as fault
use Rattle.irc_line.specs.Messages.{Parsed}
use Rattle.irc_batch.specs.declared.close_reason.CloseReason.{CloseReason}
use Rattle.irc_batch.specs.declared.close_reason.CloseReason.TheVariants as reason
use Rattle.irc_link_words.specs.declared.openings.Opening.{Opening}
use Rattle.irc_link_words.specs.declared.openings.Opening.TheVariants as opening
use Rattle.irc_link_words.specs.Peers.{refusal}
use Rattle.irc_burst.specs.DeedsMeant.{Told, deeds_meant}
use Rattle.irc_burst.specs.HandshakeMeant.{handshake_meant}
use Rattle.irc_stage.specs.View.{End, View, password_for}
use Rattle.irc_stage.specs.Ends.{is_met}

-- nothing; why the link is closed; the password that came; the server at the other end names
-- itself; what it tells of
pub data Heard : Type 0 where
  ignored : Heard
  closes : (why : CloseReason) → Heard
  password : (word : List ℕ) → Heard
  meets : (name info : List ℕ) → Heard
  tells : (told : List Told) → Heard

-- a line behind the handshake
abbrev pub of_met : Result (List Told) CloseReason → Heard
of_met (Ok told) = tells told
of_met (Err why) = closes why

-- it names itself: it is to be a peer that gave its password, and one server more
abbrev pub met_unless : Option CloseReason → List ℕ → List ℕ → Heard
met_unless None name info = meets name info
met_unless (Some why) name info = closes why

-- a line before the server at the other end has named itself
abbrev pub opened : View → End → Result Opening CloseReason → Heard
opened view end (Err why) = closes why
opened view end (Ok (opening.Password word)) = password word
opened view end (Ok (opening.Greeting name info)) =
    met_unless
    (refusal (password_for view name) (unwrap_or end.password []) view.routes name) name info

-- until the server at the other end has named itself, a line is of the handshake
abbrev pub message_heard : View → ℕ → End → Parsed → Heard
message_heard view link end message =
    if is_met end then of_met (deeds_meant view.room view.routes link message)
    else opened view end (handshake_meant (is_some end.password) view.room view.routes link message)

-- A line of spaces alone says nothing; one that is no message otherwise is no line of the protocol.
unfoldable pub heard : View → ℕ → End → Result Parsed LineFault → Heard
heard view link end (Ok message) = message_heard view link end message
heard view link end (Err fault.Empty) = ignored
heard view link end (Err why) = closes reason.Parameters
