-- What a server that introduces a user (RFC 2813 section 4.1.3) and one that reads the line have to
-- know of each other, so that the line is read as that user.
use Rattle.std.specs.Prelude.{◌≡◌, ◌≤◌, Ok, Some, [], ◌∷◌}
use Rattle.std.specs.Option.{IfSome}
use Rattle.irc_line.specs.Messages.{message_of}
use Rattle.irc_users.specs.declared.user.User.{User}
use Rattle.irc_users.specs.ChangesTold.{as_introduced}
use Rattle.irc_room.specs.effect.Effect.TheVariants.{AddUser}
use Rattle.irc_room.specs.Limits.{IsUserWithin}
use Rattle.irc_routes.specs.Known.{Known}
use Rattle.irc_link_reader.specs.Means.{read_by}
use Rattle.irc_link_words.specs.Numbers.{max_number}
use Rattle.irc_link_reader.specs.Reader.{Reader}
use Rattle.irc_link_writer.specs.Written.{introduction, next_distance, written_token}

pub record IsIntroduced (known : Known) (reader : Reader) (user : User) : Type 0 where
  -- its names and texts keep the limits
  pub within : IsUserWithin user
  -- the server that it is connected to has a number, and the reader finds this server under it
  pub number_some : 1 ≤ written_token known user.home
  pub number_most : written_token known user.home ≤ max_number
  pub server : reader.server (written_token known user.home) ≡ Some user.home
  -- where the reader knows how far away that server is, it is one link further than from the writer
  pub distance_most : next_distance known user.home ≤ max_number
  pub distance : IfSome (reader.distance user.home) (λ links. links ≡ next_distance known user.home)

-- such a user is read of its introduction
abbrev pub IntroducedIsRead : Type 0
IntroducedIsRead = (known : Known) (reader : Reader) (user : User) → IsIntroduced known reader user
    → read_by reader (message_of (introduction known user)) ≡ Ok (AddUser (as_introduced user) ∷ [])
