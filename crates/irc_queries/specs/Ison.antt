-- ISON.
use Rattle.std.specs.Prelude.{ℕ, List, [], ◌∷◌, map, option_to_list}
use Rattle.std.specs.List.{flat_map, slice_split}
use Rattle.irc_names.specs.Fold.{key}
use Rattle.irc_names.specs.Tables.{row}
use Rattle.irc_line.specs.Bytes.{is_space}
use Rattle.irc_users.specs.declared.user.User.{User}
use Rattle.irc_numerics.specs.declared.replies.Reply.TheVariants.{IsOn}
use Rattle.irc_numerics.specs.Replies.{spaced}
use Rattle.irc_room.specs.Room.{Room}
use Rattle.irc_acts.specs.declared.act.Act.{Act}
use Rattle.irc_acts.specs.declared.act.Act.TheVariants.{Answer}
use Rattle.irc_acts.specs.Acts.{client_words}

-- the users of these nicknames, in the order given; a nickname that nobody has is left out
abbrev pub users_under : Room → List (List ℕ) → List User
users_under room nicks = flat_map (λ nick. option_to_list (row room.users (key nick))) nicks

-- the users whose nicknames stand in a parameter, where spaces part them
abbrev pub users_named : Room → List ℕ → List User
users_named room words = users_under room (slice_split is_space words)

-- their nicknames as stored, as many as a line holds
abbrev pub users_on : List User → Act
users_on users = Answer (IsOn (client_words (spaced (map (λ user. user.nick) users))))

-- what an ISON of the nicknames in these parameters does (RFC 2812 section 4.9)
unfoldable pub ison_steps : Room → List (List ℕ) → List Act
ison_steps room params = users_on (flat_map (users_named room) params) ∷ []
