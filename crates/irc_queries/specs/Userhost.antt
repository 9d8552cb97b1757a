-- USERHOST.
use Rattle.std.specs.Prelude.{ℕ, Bool, true, false, List, [], ◌∷◌, ◌++◌, codes, map}
use Rattle.std.specs.Prelude.{filter, take, if◌then◌else◌}
use Rattle.std.specs.List.{flat_map, slice_split}
use Rattle.irc_line.specs.Bytes.{is_space}
use Rattle.irc_users.specs.declared.user.User.{User}
use Rattle.irc_numerics.specs.declared.replies.Reply.TheVariants.{UserHost}
use Rattle.irc_numerics.specs.Replies.{spaced}
use Rattle.irc_room.specs.Room.{Room}
use Rattle.irc_routes.specs.Place.{Place}
use Rattle.irc_routes.specs.declared.programs.Programs.{Programs}
use Rattle.irc_acts.specs.declared.act.Act.{Act}
use Rattle.irc_acts.specs.declared.act.Act.TheVariants.{Answer}
use Rattle.irc_acts.specs.Acts.{client_words}
use Rattle.irc_acts.specs.Away.{is_shown_away}
use Rattle.irc_queries.specs.Ison.{users_under}
use Rattle.irc_queries.specs.Limits.{max_hosts_asked}

-- whether some bytes are a word: there is one at least
abbrev pub is_word : List ℕ → Bool
is_word [] = false
is_word (first ∷ rest) = true

-- the words of a parameter, which spaces part, and those of all parameters
abbrev pub words_in : List ℕ → List (List ℕ)
words_in parameter = filter is_word (slice_split is_space parameter)

abbrev pub words_of_all : List (List ℕ) → List (List ℕ)
words_of_all params = flat_map words_in params

-- `-` stands for who is shown as being away, `+` for who is here
abbrev pub presence_sign : Bool → List ℕ
presence_sign away = if away then codes "-" else codes "+"

-- a user as it stands in the answer: `al=+user@host`
abbrev pub host_shown : Programs → User → List ℕ
host_shown programs user =
    user.nick ++ (codes "=" ++ (presence_sign (is_shown_away programs user)
    ++ (user.user ++ (codes "@" ++ user.host))))

-- these users, as many as a line holds
abbrev pub hosts_told : Programs → List User → Act
hosts_told programs users = Answer (UserHost (client_words (spaced
    (map (host_shown programs) users))))

-- the users whose nicknames are among the first words
abbrev pub users_asked : Room → List (List ℕ) → List User
users_asked room params = users_under room (take max_hosts_asked (words_of_all params))

-- what a USERHOST of the nicknames in these parameters does (RFC 2812 section 4.8)
unfoldable pub userhost_steps : Room → Place → List (List ℕ) → List Act
userhost_steps room place params =
    hosts_told place.about.programs (users_asked room params) ∷ []
