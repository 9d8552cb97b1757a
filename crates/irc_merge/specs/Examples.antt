-- Small networks that are joined, and what their servers tell each other.
use Rattle.std.specs.Prelude.{◌≡◌, ℕ, true, false, Some, None, List, [], ◌∷◌, ◌++◌, codes, length}
use Rattle.std.specs.Prelude.{map, nat_eq}
use Rattle.std.specs.Cmp.Lexicographic.{pointwise}
use Rattle.std.specs.Option.{option_map}
use Rattle.irc_names.specs.Fold.{key}
use Rattle.irc_names.specs.Tables.{row}
use Rattle.irc_line.specs.Bytes.{crlf}
use Rattle.irc_users.specs.declared.user.User.{User}
use Rattle.irc_channels.specs.declared.flags.Flags.{Flags}
use Rattle.irc_channels.specs.declared.channel.Channel.{Channel}
use Rattle.irc_modes.specs.declared.modes.ModeLetter.TheVariants as letter
use Rattle.irc_modes.specs.ModesSet.{set_changes}
use Rattle.irc_modes.specs.ModeWritten.{changes_written}
use Rattle.irc_room.specs.effect.By.TheVariants as by
use Rattle.irc_room.specs.effect.Effect.{Effect}
use Rattle.irc_room.specs.effect.Effect.TheVariants.{AddUser, Join, ChangeModes, SetTopic}
use Rattle.irc_room.specs.effect.Effect.TheVariants.{Invite}
use Rattle.irc_room.specs.Effects.{has_user}
use Rattle.irc_room.specs.Examples.{room_after, somebody, set, flags_of, invited_to}
use Rattle.irc_merge.specs.Deeds.{Deed, does, kills, brings, sets, tops, effects_of}
use Rattle.irc_merge.specs.Bursts.{in_lines, members_a_line, burst}
use Rattle.irc_merge.specs.BurstRead.{read_deed}
use Rattle.irc_merge.specs.Merge.{merge}
use Rattle.irc_merge.specs.MergeShown.{merge_shown}
use Rattle.irc_merge.specs.Split.{split}

-- a user of a.net, and one of b.net
abbrev pub of_a : List ℕ → User
of_a nick = somebody nick (codes "h") (codes "a.net")

abbrev pub of_b : List ℕ → User
of_b nick = somebody nick (codes "h") (codes "b.net")

abbrev pub an_operator : Flags
an_operator = record { op = true; voice = false }

abbrev pub a_member : Flags
a_member = record { op = false; voice = false }

-- a channel on b.net with two members, modes i and k, four bans and a topic
abbrev pub with_modes : List Effect
with_modes =
    AddUser (of_b (codes "bo")) ∷ AddUser (of_b (codes "cy")) ∷ Join (codes "bo") (codes "#c") true
    ∷ Join (codes "cy") (codes "#c") false
    ∷ ChangeModes by.Home (codes "#c")
    (set letter.InviteOnly None ∷ set letter.Key (Some (codes "pw")) ∷ set letter.Ban
    (Some (codes "d!*@*")) ∷ set letter.Ban (Some (codes "b!*@*"))
    ∷ set letter.Ban (Some (codes "a!*@*")) ∷ set letter.Ban (Some (codes "c!*@*")) ∷ [])
    ∷ SetTopic by.Home (codes "#c") (codes "hello") ∷ []

-- A channel is told: its members with their flags, its modes in one line, its bans three a line and
-- in folded order, and its topic.
abbrev pub ChannelIsTold : Type 0
ChannelIsTold =
    burst (codes "b.net") (room_after with_modes)
    ≡ does (AddUser (of_b (codes "bo"))) ∷ does (AddUser (of_b (codes "cy")))
    ∷ brings (codes "b.net") (codes "#c") ((codes "bo", an_operator) ∷ (codes "cy", a_member) ∷ [])
    ∷ sets (codes "b.net") (codes "#c")
    (set letter.InviteOnly None ∷ set letter.Key (Some (codes "pw")) ∷ [])
    ∷ sets (codes "b.net") (codes "#c")
    (set letter.Ban (Some (codes "a!*@*")) ∷ set letter.Ban (Some (codes "b!*@*")) ∷ set letter.Ban
    (Some (codes "c!*@*")) ∷ [])
    ∷ sets (codes "b.net") (codes "#c") (set letter.Ban (Some (codes "d!*@*")) ∷ [])
    ∷ tops (codes "b.net") (codes "#c") (codes "hello") ∷ []

-- thirty-one members are told in four lines: three of ten, and one of one
abbrev pub ThirtyOneMembers : Type 0
ThirtyOneMembers = (members : List (List ℕ × Flags)) → length members ≡ 31
    → map length (in_lines members_a_line members) ≡ 10 ∷ 10 ∷ 10 ∷ 1 ∷ []

-- al and an on a.net, bo and cy on b.net; al and bo have each made #c
abbrev pub als_side : List Effect
als_side = AddUser (of_a (codes "al")) ∷ AddUser (of_a (codes "an")) ∷ Join (codes "al")
    (codes "#c") true ∷ []

abbrev pub bos_side : List Effect
bos_side = AddUser (of_b (codes "bo")) ∷ AddUser (of_b (codes "cy")) ∷ Join (codes "bo")
    (codes "#c") true ∷ []

-- the two are in one channel then, both operators; each sees the other come, and who is in no
-- channel sees nothing
abbrev pub ChannelsAreJoined : Type 0
ChannelsAreJoined =
    let one = room_after als_side in
    let other = room_after bos_side in
    (flags_of (merge one other) (codes "al") (codes "#c") ≡ Some an_operator)
    × (flags_of (merge one other) (codes "bo") (codes "#c") ≡ Some an_operator)
    × (merge_shown one other (codes "al") ≡ (codes ":bo!u@h JOIN #c" ++ crlf)
    ∷ (codes ":a.net MODE #c +o bo" ++ crlf) ∷ [])
    × (merge_shown other one (codes "bo") ≡ (codes ":al!u@h JOIN #c" ++ crlf)
    ∷ (codes ":b.net MODE #c +o al" ++ crlf) ∷ [])
    × (merge_shown one other (codes "an") ≡ [])

-- al's #c has modes s and k and a topic, bo's n and another key
abbrev pub secret_side : List Effect
secret_side =
    AddUser (of_a (codes "al")) ∷ Join (codes "al") (codes "#c") true
    ∷ ChangeModes by.Home (codes "#c")
    (set letter.Secret None ∷ set letter.Key (Some (codes "aa")) ∷ [])
    ∷ SetTopic by.Home (codes "#c") (codes "x") ∷ []

abbrev pub keyed_side : List Effect
keyed_side =
    AddUser (of_b (codes "bo")) ∷ Join (codes "bo") (codes "#c") true
    ∷ ChangeModes by.Home (codes "#c")
    (set letter.NoOutside None ∷ set letter.Key (Some (codes "bb")) ∷ []) ∷ []

-- the letters that are set in a channel, and their parameters
abbrev pub modes_written : Channel → List (List ℕ)
modes_written channel = changes_written (set_changes channel.modes)

-- Nothing that is set is lost, and the greater key is taken. Each sees, behind those who come, what
-- the other side's modes and topic raise.
abbrev pub ModesAreJoined : Type 0
ModesAreJoined =
    let one = room_after secret_side in
    let other = room_after keyed_side in
    (merge_shown one other (codes "al")
    ≡ (codes ":bo!u@h JOIN #c" ++ crlf) ∷ (codes ":a.net MODE #c +o bo" ++ crlf)
    ∷ (codes ":a.net MODE #c +nk bb" ++ crlf) ∷ [])
    × (merge_shown other one (codes "bo")
    ≡ (codes ":al!u@h JOIN #c" ++ crlf) ∷ (codes ":b.net MODE #c +o al" ++ crlf)
    ∷ (codes ":b.net MODE #c +s" ++ crlf) ∷ (codes ":b.net TOPIC #c :x" ++ crlf) ∷ [])
    × (option_map modes_written (row (merge one other).channels (key (codes "#c")))
    ≡ Some (codes "+nsk" ∷ codes "bb" ∷ []))
    × (option_map (λ (c : Channel). c.topic) (row (merge one other).channels (key (codes "#c")))
    ≡ Some (codes "x"))

-- al is in #c, whose topic is `hello`, and bo has come
abbrev pub bo_has_come : List Effect
bo_has_come =
    AddUser (of_a (codes "al")) ∷ Join (codes "al") (codes "#c") true
    ∷ SetTopic by.Home (codes "#c") (codes "hello")
    ∷ AddUser (of_b (codes "bo")) ∷ Join (codes "bo") (codes "#c") false ∷ []

abbrev pub topic_of_b : List ℕ → Deed
topic_of_b topic = tops (codes "b.net") (codes "#c") topic

-- what b.net tells of its topic is read, and left where it is the lesser
abbrev pub GreaterTopicIsSet : Type 0
GreaterTopicIsSet =
    let room = room_after bo_has_come in
    (read_deed (codes "a.net") (λ home. pointwise nat_eq home (codes "b.net")) room
    (topic_of_b (codes "hallo"))
    ≡ topic_of_b (codes "hallo") ∷ [])
    × (effects_of room (topic_of_b (codes "hallo")) ≡ [])
    × (effects_of room (topic_of_b (codes "hi")) ≡ SetTopic by.Home (codes "#c") (codes "hi") ∷ [])

-- zed on both sides: on a.net it is in #y with al and alone in #z, on b.net in #z with bo
abbrev pub zeds_side : List Effect
zeds_side =
    AddUser (of_a (codes "al")) ∷ AddUser (of_a (codes "zed")) ∷ Join (codes "al") (codes "#y") true
    ∷ Join (codes "zed") (codes "#y") false
    ∷ Join (codes "zed") (codes "#z") true ∷ []

abbrev pub other_zeds_side : List Effect
other_zeds_side =
    AddUser (of_b (codes "bo")) ∷ AddUser (of_b (codes "Zed")) ∷ Join (codes "bo") (codes "#z") true
    ∷ Join (codes "Zed") (codes "#z") false ∷ []

abbrev pub zeds_quit : List ℕ → List (List ℕ)
zeds_quit nick = (codes ":" ++ nick ++ codes "!u@h QUIT :Killed (Nick collision)" ++ crlf) ∷ []

-- Both are gone. Each side sees its own quit, and nobody come: #z of a.net has ended. The holder's
-- nickname is killed as it is stored.
abbrev pub NicknameOnBothSides : Type 0
NicknameOnBothSides =
    let one = room_after zeds_side in
    let other = room_after other_zeds_side in
    (has_user (merge one other) (codes "zed") ≡ false)
    × (merge_shown one other (codes "al") ≡ zeds_quit (codes "zed"))
    × (merge_shown one other (codes "zed") ≡ [])
    × (merge_shown other one (codes "bo") ≡ zeds_quit (codes "Zed"))
    × (read_deed (codes "b.net") (λ home. pointwise nat_eq home (codes "a.net")) other
    (does (AddUser (of_a (codes "zed"))))
    ≡ kills (codes "b.net") (codes "Zed") ∷ [])

-- al on a.net has made #c and #d; bo of b.net is in #c, and cy of b.net is invited to both
abbrev pub two_channels : List Effect
two_channels =
    AddUser (of_a (codes "al")) ∷ AddUser (of_b (codes "bo")) ∷ AddUser (of_b (codes "cy"))
    ∷ Join (codes "al") (codes "#c") true ∷ Join (codes "bo") (codes "#c") false
    ∷ Join (codes "al") (codes "#d") true ∷ Invite (codes "al") (codes "cy") (codes "#c")
    ∷ Invite (codes "al") (codes "cy") (codes "#d") ∷ []

-- The link of a.net and b.net is lost and made again. All are members as they were; cy is still
-- invited to #c, in which bo stayed, and not to #d, which ended on b.net.
abbrev pub LinkIsMadeAgain : Type 0
LinkIsMadeAgain =
    let room = room_after two_channels in
    let near = split (codes "a.net b.net") (codes "b.net" ∷ []) room in
    let far = split (codes "b.net a.net") (codes "a.net" ∷ []) room in
    (flags_of (merge near far) (codes "al") (codes "#c") ≡ Some an_operator)
    × (flags_of (merge near far) (codes "bo") (codes "#c") ≡ Some a_member)
    × (flags_of (merge near far) (codes "al") (codes "#d") ≡ Some an_operator)
    × (invited_to (merge near far) (codes "cy") (codes "#c") ≡ true)
    × (invited_to (merge near far) (codes "cy") (codes "#d") ≡ false)
