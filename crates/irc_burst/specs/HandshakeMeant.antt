-- What a line of a link comes to while the neighbour has not named itself (RFC 2813 section 4.1):
-- it begins the link, or closes it. What is wrong with a line in itself is told before that it is
-- out of its place; who may link is asked last, where the server's peers are known.
--   `PASS pw 0210010001 TREE|`  begins the link, if no password has come; `SERVER b.net 1 1 :B`
--                               does if one has
--   `FOO`                       UnknownCommand
--   `:bo QUIT`                  Parameters
--   `:bo QUIT :x`               Order, whoever bo is
--   `NICK al 1 u h 9 + :Al`     Order, though no server has number 9 there
use Rattle.std.specs.Prelude.{ℕ, Bool, Result, Ok, Err, List, unwrap_or}
use Rattle.irc_batch.specs.declared.close_reason.CloseReason.{CloseReason}
use Rattle.irc_batch.specs.declared.close_reason.CloseReason.TheVariants as reason
use Rattle.irc_line.specs.Messages.{Parsed}
use Rattle.irc_room.specs.Room.{Room}
use Rattle.irc_routes.specs.Known.{Known}
use Rattle.irc_link_words.specs.Openings.{opening_of, told_first}
use Rattle.irc_link_words.specs.declared.openings.Opening.{Opening}
use Rattle.irc_burst.specs.DeedsMeant.{Told, deeds_meant}

-- why a line closes the link that would mean something, or be refused, behind a handshake
abbrev pub out_of_place : Result (List Told) CloseReason → CloseReason
out_of_place (Ok told) = reason.Order
out_of_place (Err given) = told_first given

-- `has_password` is whether a password has come
unfoldable pub handshake_meant : Bool → Room → Known → ℕ → Parsed → Result Opening CloseReason
handshake_meant has_password room known link message =
    unwrap_or (opening_of has_password message)
    (Err (out_of_place (deeds_meant room known link message)))
