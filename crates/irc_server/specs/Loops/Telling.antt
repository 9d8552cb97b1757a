-- What the code makes of what a line of a link tells.
use Rattle.std.specs.Prelude.{ℕ, true, Some, List, [], ◌∷◌, map}
use Rattle.std.specs.List.{flat_map}
use Rattle.irc_link_reader.specs.declared.deed.Loss.{Loss}
use Rattle.irc_link_reader.specs.declared.deed.Topic.{Topic}
use Rattle.irc_burst.specs.Loops.Deeds.{topic_told}
use Rattle.irc_link_reader.specs.declared.deed.NewMember.{NewMember}
use Rattle.irc_burst_lines.specs.Loops.Telling.{told_member, told_members}
use Rattle.irc_merge.specs.Deeds.{effects_of, flag_given, member_comes}
use Rattle.irc_merge.specs.Quits.{quits_of, users_at}
use Rattle.irc_modes.specs.declared.modes.ModeLetter.{ModeLetter}
use Rattle.irc_room.specs.effect.By.TheVariants as by
use Rattle.irc_room.specs.effect.Effect.{Effect}
use Rattle.irc_room.specs.effect.Effect.TheVariants.{ChangeModes, Quit}
use Rattle.irc_stage.specs.View.{View}
use Rattle.irc_server.specs.declared.members.Gift.{Gift}

-- the effects of a topic that a server sets
abbrev pub topped_by : Topic → View → List Effect
topped_by topic view = effects_of view.room (topic_told topic)

-- what gives a member a flag
abbrev pub flag_of : ModeLetter → List ℕ → List ℕ → Effect
flag_of letter channel nick =
    ChangeModes by.Home channel (record { plus = true; letter = letter; word = Some nick } ∷ [])

-- a flag that a member has, or has not
abbrev pub given_by : Gift → List Effect
given_by gift = flag_given gift.given gift.letter gift.channel.now gift.nick.now

-- a user becomes a member, with what it may do
abbrev pub coming_of : List ℕ → NewMember → List Effect
coming_of channel member = member_comes channel (told_member member)

-- all of them, one after another
abbrev pub all_come : List ℕ → List NewMember → List Effect
all_come channel members = flat_map (member_comes channel) (told_members members)

-- the users of a server that is lost quit
abbrev pub quits_by : Loss → View → List Effect
quits_by loss view = quits_of loss.text (users_at loss.name view.room)

-- the users of these nicknames quit with one text
abbrev pub quits_by_nick : List ℕ → List (List ℕ) → List Effect
quits_by_nick text nicks = map (λ nick. Quit nick text) nicks
