-- What a server tells of a small side of the network, line by line.
use Rattle.std.specs.Prelude.{◌≡◌, ℕ, true, Some, None, List, [], ◌∷◌, codes, map}
use Rattle.irc_line.specs.Messages.{line_text}
use Rattle.irc_modes.specs.declared.modes.ModeLetter.TheVariants as letter
use Rattle.irc_users.specs.UserTable.{new_user}
use Rattle.irc_room.specs.effect.By.TheVariants as by
use Rattle.irc_room.specs.effect.Effect.{Effect}
use Rattle.irc_room.specs.effect.Effect.TheVariants.{AddUser, Join, ChangeModes, SetTopic}
use Rattle.irc_room.specs.Examples.{room_after, set}
use Rattle.irc_routes.specs.About.{says}
use Rattle.irc_routes.specs.Known.{Known, alone_known}
use Rattle.irc_burst_lines.specs.BurstLines.{burst_parts}

-- a.net, which knows no other server
abbrev pub alone : Known
alone = alone_known (codes "a.net") (says (codes "Test server") (codes "2024-01-01"))

-- al of a.net comes, and makes #m
abbrev pub al_comes : Effect
al_comes =
    AddUser (new_user (codes "al") (codes "u") (codes "h") (codes "Al") (codes "a.net"))

abbrev pub al_joins : Effect
al_joins = Join (codes "al") (codes "#m") true

-- modes n, t and l, four bans, and a topic
abbrev pub modes_set : Effect
modes_set = ChangeModes by.Home (codes "#m") (set letter.NoOutside None
    ∷ set letter.TopicLocked None ∷ set letter.Limit (Some (codes "5")) ∷ [])

abbrev pub bans_set : Effect
bans_set =
    ChangeModes by.Home (codes "#m")
    (set letter.Ban (Some (codes "c!*@*")) ∷ set letter.Ban (Some (codes "b!*@*")) ∷ set letter.Ban
    (Some (codes "d!*@*"))
    ∷ set letter.Ban (Some (codes "a!*@*")) ∷ [])

abbrev pub topic_set : Effect
topic_set = SetTopic by.Home (codes "#m") (codes "hello")

abbrev pub als_room : List Effect
als_room = al_comes ∷ al_joins ∷ modes_set ∷ bans_set ∷ topic_set ∷ []

-- The burst of a.net is these six lines, whatever the number of the link.
abbrev pub OneSideIsTold : Type 0
OneSideIsTold = (link : ℕ) → map line_text (burst_parts (room_after als_room) alone link)
    ≡ codes "NICK al 1 u h 1 + :Al"
    ∷ codes ":a.net NJOIN #m :@al"
    ∷ codes ":a.net MODE #m +ntl 5"
    ∷ codes ":a.net MODE #m +bbb a!*@* b!*@* c!*@*"
    ∷ codes ":a.net MODE #m +b d!*@*"
    ∷ codes ":a.net TOPIC #m :hello" ∷ []
