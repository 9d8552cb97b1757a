-- What the code that reads a line before the end of a handshake gives.
use Rattle.std.specs.Prelude.{Bool, Result}
use Rattle.irc_batch.specs.declared.close_reason.CloseReason.{CloseReason}
use Rattle.irc_line.specs.Messages.{Parsed}
use Rattle.irc_link_reader.specs.declared.arrival.Arrival.{Arrival}
use Rattle.irc_link_words.specs.declared.openings.Opening.{Opening}
use Rattle.irc_burst.specs.HandshakeMeant.{handshake_meant}

-- what a line comes to that came there
abbrev pub opening_at : Bool → Arrival → Parsed → Result Opening CloseReason
opening_at has_password at message =
    handshake_meant has_password at.room.now.room at.routes.now at.link message
