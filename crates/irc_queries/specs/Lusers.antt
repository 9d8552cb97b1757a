-- LUSERS.
use Rattle.std.specs.Prelude.{ℕ, List, [], ◌∷◌, ◌++◌, filter, length, nat_eq, if◌then◌else◌}
use Rattle.std.specs.FinMap.{entries, values}
use Rattle.irc_users.specs.UserTable.{is_home}
use Rattle.irc_numerics.specs.declared.replies.Reply.TheVariants.{LuserClient, LuserChannels}
use Rattle.irc_numerics.specs.declared.replies.Reply.TheVariants.{LuserMe}
use Rattle.irc_room.specs.Room.{Room}
use Rattle.irc_routes.specs.Place.{Place}
use Rattle.irc_acts.specs.declared.act.Act.{Act}
use Rattle.irc_acts.specs.declared.act.Act.TheVariants.{Answer}

-- where there is no channel, none are counted
abbrev pub channels_formed : ℕ → List Act
channels_formed channels = if nat_eq channels 0 then [] else Answer (LuserChannels channels) ∷ []

-- What a LUSERS does (RFC 2812 section 3.4.2): users, servers and channels are those of the room;
-- clients are the users of the asker's own server, and links are its own.
unfoldable pub lusers_steps : Room → Place → List Act
lusers_steps room place =
    Answer (LuserClient (length (values room.users)) (length place.servers))
    ∷ channels_formed (length (entries room.channels)) ++ Answer
    (LuserMe (length (filter (is_home place.name) (values room.users))) place.links) ∷ []
