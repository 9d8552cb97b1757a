-- Several users quit, one after another, in folded order (RFC 2813 section 4.1.6).
use Rattle.std.specs.Prelude.{ℕ, List, map, filter, codes}
use Rattle.std.specs.FinMap.{values}
use Rattle.irc_users.specs.declared.user.User.{User}
use Rattle.irc_users.specs.UserTable.{is_home}
use Rattle.irc_room.specs.effect.Effect.{Effect}
use Rattle.irc_room.specs.effect.Effect.TheVariants.{Quit}
use Rattle.irc_room.specs.Room.{Room}

-- these users quit with one text
abbrev pub quits_of : List ℕ → List User → List Effect
quits_of text users = map (λ (user : User). Quit user.nick text) users

-- the users whose home is this server, in folded order
abbrev pub users_at : List ℕ → Room → List User
users_at home room = filter (is_home home) (values room.users)

-- the text with which both holders of a nickname quit (RFC 2812 section 3.7.1; the words are our
-- own choice)
abbrev pub collision_text : List ℕ
collision_text = codes "Killed (Nick collision)"
