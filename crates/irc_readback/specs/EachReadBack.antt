-- What is written on a link of an effect that can be sent is read as that effect, whatever the
-- effect (RFC 2813 section 4).
use Rattle.std.specs.Prelude.{ℕ, ⊤}
use Rattle.irc_room.specs.effect.Effect.{Effect}
use Rattle.irc_room.specs.effect.Effect.TheVariants.{AddUser}
use Rattle.irc_room.specs.Room.{Room}
use Rattle.irc_routes.specs.Known.{Known}
use Rattle.irc_readback.specs.Introductions.{IsIntroduced}
use Rattle.irc_readback.specs.ReadBack.{IsReadable, IsReadBack}
use Rattle.irc_link_reader.specs.Reader.{Reader, reader_of}

-- of a user who comes, that writer and reader agree on its server
abbrev pub AgreesOnServer : Known → Reader → Effect → Type 0
AgreesOnServer known reader (AddUser user) = IsIntroduced known reader user
AgreesOnServer known reader other = ⊤

-- each effect that can be read is read back, from its line
abbrev pub EachIsReadBack : Type 0
EachIsReadBack =
    (room : Room) (known : Known) (other : Room) (others : Known) (link : ℕ) (effect : Effect)
    → IsReadable room known (reader_of other others link) effect
    → AgreesOnServer known (reader_of other others link) effect
    → IsReadBack room known other others link effect
