-- What a Quit shows, by the channels, who quits and who sees it.
use Rattle.std.proofs.Common.{◌≡◌, ℕ, not, ◌&&◌, Option, Some, None, List, [], refl, option_map}
use Rattle.std.proofs.Common.{codes, if◌then◌else◌}
use Rattle.std.specs.List.{list_any}
use Rattle.std.specs.Option.{option_and_then}
use Rattle.std.specs.FinMap.{values}
use Rattle.irc_names.specs.Fold.{key, same}
use Rattle.irc_names.specs.Tables.{Table, row}
use Rattle.irc_users.specs.declared.user.User.{User}
use Rattle.irc_channels.specs.declared.channel.Channel.{Channel}
use Rattle.irc_channels.specs.Channels.{has_member}
use Rattle.irc_room.specs.effect.Effect.TheVariants.{Quit}
use Rattle.irc_room.specs.Room.{Room}
use Rattle.irc_room.specs.Seen.{full_sender, line_from}
use Rattle.irc_room.specs.Viewers.{shows_to}

-- ---- a Quit shows the same in two rooms that have the same channels, the same doer and the same
-- viewer

abbrev pub quit_to : List ℕ → List ℕ → Table Channel → Option User → Option User → Option (List ℕ)
quit_to nick text channels doer viewer =
    option_and_then (λ (user : User).
    if not (same nick user.nick) && list_any (λ channel. has_member (key nick) channel
    && has_member (key user.nick) channel) (values channels)
    then line_from (codes "QUIT") [] (Some text) (option_map full_sender doer) else None) viewer

pub quit_shows : (room : Room) (nick text viewer : List ℕ) → shows_to room (Quit nick text) viewer
    ≡ quit_to nick text room.channels (row room.users (key nick)) (row room.users (key viewer))
unfolding shows_to
quit_shows room nick text viewer = refl
