-- Who is shown as being away (RFC 2812 section 4.1).
use Rattle.std.specs.Prelude.{ℕ, Bool, is_some, Option, None, List, option_to_list}
use Rattle.std.specs.Option.{option_map}
use Rattle.irc_users.specs.declared.user.User.{User}
use Rattle.irc_numerics.specs.declared.replies.Reply.TheVariants.{Away}
use Rattle.irc_routes.specs.declared.programs.Programs.{Programs}
use Rattle.irc_routes.specs.declared.programs.Programs.TheVariants as programs
use Rattle.irc_acts.specs.declared.act.Act.{Act}
use Rattle.irc_acts.specs.declared.act.Act.TheVariants.{Answer}

-- the text of a user who is away, which is shown where a server has what programs expect
abbrev pub away_shown : Programs → User → Option (List ℕ)
away_shown programs.Off user = None
away_shown programs.On user = user.set.away

-- whether a user is shown as being away
abbrev pub is_shown_away : Programs → User → Bool
is_shown_away programs user = is_some (away_shown programs user)

-- that a user is away, by its nickname as stored
abbrev pub away_line : User → List ℕ → Act
away_line user text = Answer (Away user.nick text)

-- the same, where it is shown
abbrev pub away_told : Programs → User → List Act
away_told programs user = option_to_list (option_map (away_line user) (away_shown programs user))
