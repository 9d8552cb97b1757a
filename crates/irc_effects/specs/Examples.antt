-- Small rooms, and what is so in them.
use Rattle.std.specs.Prelude.{◌≡◌, ℕ, Bool, true, false, Option, Some, None, List, [], ◌∷◌, ◌++◌}
use Rattle.std.specs.Prelude.{codes, map, fold}
use Rattle.std.specs.Option.{option_and_then, option_map, option_map_or}
use Rattle.arrayvec.specs.ArrayVec.{ArrayVec}
use Rattle.irc_names.specs.Fold.{key}
use Rattle.irc_names.specs.Tables.{row}
use Rattle.irc_line.specs.Bytes.{crlf}
use Rattle.irc_users.specs.declared.user.User.{User}
use Rattle.irc_users.specs.UserTable.{new_user}
use Rattle.irc_channels.specs.declared.flags.Flags.{Flags}
use Rattle.irc_modes.specs.declared.modes.Privacy.TheVariants.{Secret}
use Rattle.irc_modes.specs.declared.modes.ModeChange.{ModeChange}
use Rattle.irc_modes.specs.declared.modes.ModeLetter.{ModeLetter}
use Rattle.irc_modes.specs.declared.modes.ModeLetter.TheVariants as letter
use Rattle.irc_channels.specs.declared.channel.Channel.{Channel}
use Rattle.irc_channels.specs.Channels.{is_invited}
use Rattle.irc_modes.specs.Modes.{no_modes}
use Rattle.irc_effects.specs.declared.effect.By.TheVariants as by
use Rattle.irc_effects.specs.declared.effect.Target.TheVariants as target
use Rattle.irc_effects.specs.declared.effect.Effect.{Effect}
use Rattle.irc_effects.specs.declared.effect.Effect.TheVariants.{AddUser, Rename, Quit, Join, Part}
use Rattle.irc_effects.specs.declared.effect.Effect.TheVariants.{Kick, ChangeModes, SetTopic, Say}
use Rattle.irc_effects.specs.declared.effect.Effect.TheVariants.{Invite}
use Rattle.irc_effects.specs.Room.{Room}
use Rattle.irc_effects.specs.Effects.{has_user, has_channel, is_member, brings_free}
use Rattle.irc_effects.specs.After.{after, titled_by}
use Rattle.irc_effects.specs.Laws.{no_room}
use Rattle.irc_effects.specs.Seen.{Showing, seen, changes_words}

-- the room after effects on it, one after another
abbrev pub room_after : List Effect → Room
room_after effects = fold after no_room effects

-- a user with this nickname, who came from this host to this server
abbrev pub somebody : List ℕ → List ℕ → List ℕ → User
somebody nick host home = new_user nick (codes "u") host (codes "r") home

abbrev pub comes : List ℕ → Effect
comes nick = AddUser (somebody nick (codes "h") (codes "s.net"))

-- the flags of a member
abbrev pub flags_of : Room → List ℕ → List ℕ → Option Flags
flags_of room nick channel =
    option_and_then (λ (c : Channel). row c.members (key nick)) (row room.channels (key channel))

-- something of a channel
abbrev pub of_channel : {X : Type 0} → (Channel → X) → Room → List ℕ → Option X
of_channel part room channel = option_map part (row room.channels (key channel))

abbrev pub invited_to : Room → List ℕ → List ℕ → Bool
invited_to room nick channel =
    option_map_or (is_invited (key nick)) (row room.channels (key channel)) false

abbrev pub viewers_of : List Showing → List (List ℕ)
viewers_of showings = map (λ (s : Showing). s.viewer) showings

abbrev pub set : ModeLetter → Option (List ℕ) → ModeChange
set which word = record { plus = true; letter = which; word = word }

abbrev pub clear : ModeLetter → Option (List ℕ) → ModeChange
clear which word = record { plus = false; letter = which; word = word }

-- two members of one channel, the first its operator; the third is in none
abbrev pub two_members : List Effect
two_members =
    comes (codes "Foo") ∷ comes (codes "bar") ∷ comes (codes "baz")
    ∷ Join (codes "foo") (codes "#Rust") true ∷ Join (codes "bar") (codes "#rust") false ∷ []

-- `{` is the lower case of `[`
abbrev pub NickTakenByFold : Type 0
NickTakenByFold =
    brings_free (room_after (comes (codes "foo[") ∷ [])) (comes (codes "FOO{")) ≡ false

-- but a user may take its own nickname in another spelling
abbrev pub OwnSpellingIsFree : Type 0
OwnSpellingIsFree = brings_free (room_after (comes (codes "foo[") ∷ []))
    (Rename (codes "foo[") (codes "FOO{")) ≡ true

-- one with a new nickname is a member as before, with the flags that it had, and its old nickname
-- is nobody's
abbrev pub RenameCarriesMembership : Type 0
RenameCarriesMembership =
    let room = room_after (two_members ++ Rename (codes "FOO") (codes "qux") ∷ []) in
    (flags_of room (codes "qux") (codes "#rust") ≡ Some (record { op = true; voice = false }))
    × (is_member room (codes "foo") (codes "#rust") ≡ false)
    × (has_user room (codes "foo") ≡ false)

-- a Kick is shown to whom it takes out too, in folded order of the viewers
abbrev pub KickShownToKicked : Type 0
KickShownToKicked =
    seen (room_after two_members) (Kick (codes "foo") (codes "#rust") (codes "bar") (codes "out"))
    ≡ record { viewer = codes "bar"; line = codes ":Foo!u@h KICK #Rust bar :out" ++ crlf }
    ∷ record { viewer = codes "Foo"; line = codes ":Foo!u@h KICK #Rust bar :out" ++ crlf } ∷ []

-- an invitation does not outlast its channel
abbrev pub InvitationGoneWithChannel : Type 0
InvitationGoneWithChannel =
    let invited =
    comes (codes "foo") ∷ comes (codes "bar") ∷ Join (codes "foo") (codes "#c") true
    ∷ Invite (codes "foo") (codes "bar") (codes "#c") ∷ [] in
    (invited_to (room_after invited) (codes "bar") (codes "#c") ≡ true)
    × (invited_to (room_after (invited ++ Part (codes "foo") (codes "#c") []
    ∷ Join (codes "foo") (codes "#c") true ∷ []))
    (codes "bar") (codes "#c")
    ≡ false)

-- a Quit is not shown to who quits, nor to one who shares no channel; to one who shares two
-- channels it is shown once
abbrev pub QuitHiddenFromDoer : Type 0
QuitHiddenFromDoer =
    seen (room_after (two_members ++ Join (codes "bar") (codes "#c") true ∷ Join (codes "foo")
    (codes "#c") false ∷ [])) (Quit (codes "foo") (codes "bye"))
    ≡ record { viewer = codes "bar"; line = codes ":Foo!u@h QUIT :bye" ++ crlf } ∷ []

-- what one says in a channel is not shown to it, but to the other member
abbrev pub SayShownToOthers : Type 0
SayShownToOthers = (words : ArrayVec ℕ) (notice : Bool)
    → viewers_of (seen (room_after two_members)
    (Say (codes "foo") notice (target.Channel (codes "#rust")) words)) ≡ codes "bar" ∷ []

-- the second member of a channel is no operator, and the first stays one
abbrev pub SecondMemberIsNoOperator : Type 0
SecondMemberIsNoOperator =
    (flags_of (room_after two_members) (codes "bar") (codes "#rust")
    ≡ Some (record { op = false; voice = false }))
    × (flags_of (room_after two_members) (codes "foo") (codes "#rust")
    ≡ Some (record { op = true; voice = false }))

-- where s is set, p is neither set nor cleared
abbrev pub SecretStaysSecret : Type 0
SecretStaysSecret =
    let privacy_after = λ (last : ModeChange).
    of_channel (λ c. c.modes.privacy)
    (room_after (two_members
    ++ ChangeModes by.Home (codes "#rust") (set letter.Secret None ∷ last ∷ []) ∷ []))
    (codes "#rust") in
    (privacy_after (set letter.Private None) ≡ Some Secret)
    × (privacy_after (clear letter.Private None) ≡ Some Secret)

-- changes are written with a sign where it differs from the one before, and their parameters
-- behind: a user's nickname as it is stored, that of nobody as it was given
abbrev pub ChangesWritten : Type 0
ChangesWritten =
    let changes = set letter.Operator (Some (codes "BAR")) ∷ clear letter.Voice (Some (codes "Cy"))
    ∷ set letter.Limit (Some (codes "5")) ∷ [] in
    (seen (room_after two_members) (ChangeModes (by.User (codes "foo")) (codes "#rust") changes)
    ≡ record { viewer = codes "bar"; line = codes ":Foo!u@h MODE #Rust +o-v+l bar Cy 5" ++ crlf }
    ∷ record { viewer = codes "Foo"; line = codes ":Foo!u@h MODE #Rust +o-v+l bar Cy 5" ++ crlf }
    ∷ [])
    × ((room : Room)
    → changes_words room
    (clear letter.Secret None ∷ clear letter.Ban (Some (codes "x!*@*"))
    ∷ set letter.Moderated None ∷ set letter.TopicLocked None ∷ [])
    ≡ codes "-sb+mt" ∷ codes "x!*@*" ∷ [])

-- a ban that is set once more in another case of letters stands once, as it was last spelled
abbrev pub BanStandsOnce : Type 0
BanStandsOnce =
    of_channel (λ c. c.modes.bans)
    (room_after (two_members
    ++ ChangeModes (by.User (codes "foo")) (codes "#rust")
    (set letter.Ban (Some (codes "a[!*@*"))
    ∷ set letter.Ban (Some (codes "A{!*@*")) ∷ []) ∷ []))
    (codes "#rust")
    ≡ Some (codes "A{!*@*" ∷ [])

-- a channel that ended begins anew, as its new maker spells it: with no topic and no mode, and its
-- maker for its operator
abbrev pub ChannelMadeAnew : Type 0
ChannelMadeAnew =
    let ended =
    comes (codes "foo") ∷ comes (codes "bar") ∷ Join (codes "foo") (codes "#Rust") true
    ∷ SetTopic (by.User (codes "foo")) (codes "#rust") (codes "old")
    ∷ ChangeModes (by.User (codes "foo")) (codes "#rust") (set letter.Secret None ∷ [])
    ∷ Part (codes "foo") (codes "#rust") [] ∷ [] in
    let anew = room_after (ended ++ Join (codes "bar") (codes "#rust") true ∷ []) in
    (has_channel (room_after ended) (codes "#rust") ≡ false)
    × (of_channel (λ c. c.name) anew (codes "#RUST") ≡ Some (codes "#rust"))
    × (of_channel (λ c. c.topic) anew (codes "#rust") ≡ Some [])
    × (of_channel (λ c. c.modes) anew (codes "#rust") ≡ Some no_modes)
    × (flags_of anew (codes "bar") (codes "#rust") ≡ Some (record { op = true; voice = false }))
    × (is_member anew (codes "foo") (codes "#rust") ≡ false)

-- of two spellings of one channel the greater by bytes stays, whichever was there first: `c` is
-- 0x63, and `C` 0x43
abbrev pub GreaterSpellingStays : Type 0
GreaterSpellingStays =
    let made = λ (name : List ℕ).
    room_after (comes (codes "foo") ∷ Join (codes "foo") name true ∷ []) in
    let spelled = λ (room : Room). of_channel (λ c. c.name) room (codes "#CHAT") in
    (spelled (titled_by (codes "#chat") (made (codes "#Chat"))) ≡ Some (codes "#chat"))
    × (spelled (titled_by (codes "#Chat") (made (codes "#chat"))) ≡ Some (codes "#chat"))

-- a Part is written as its user and its channel are stored, however they are spelled in it
abbrev pub PartWrittenAsStored : Type 0
PartWrittenAsStored =
    seen (room_after two_members) (Part (codes "FOO") (codes "#RUST") (codes "bye"))
    ≡ record { viewer = codes "bar"; line = codes ":Foo!u@h PART #Rust :bye" ++ crlf }
    ∷ record { viewer = codes "Foo"; line = codes ":Foo!u@h PART #Rust :bye" ++ crlf } ∷ []

-- a member who joins once more shows nothing
abbrev pub JoinOnceMoreShowsNothing : Type 0
JoinOnceMoreShowsNothing =
    seen (room_after two_members) (Join (codes "BAR") (codes "#rust") true) ≡ []

-- what a server does is shown to each viewer as done by its own server
abbrev pub EachSeesItsOwnServer : Type 0
EachSeesItsOwnServer =
    seen (room_after (AddUser (somebody (codes "foo") (codes "h") (codes "a.net")) ∷ AddUser
    (somebody (codes "bar") (codes "h") (codes "b.net"))
    ∷ Join (codes "foo") (codes "#c") true ∷ Join (codes "bar") (codes "#c") false ∷ []))
    (ChangeModes by.Home (codes "#c") (set letter.Operator (Some (codes "bar")) ∷ []))
    ≡ record { viewer = codes "bar"; line = codes ":b.net MODE #c +o bar" ++ crlf }
    ∷ record { viewer = codes "foo"; line = codes ":a.net MODE #c +o bar" ++ crlf } ∷ []

-- a Rename is shown to its doer and, once, to whoever shares a channel with it, with the new
-- nickname as spelled
abbrev pub RenameShownOnce : Type 0
RenameShownOnce =
    seen (room_after two_members) (Rename (codes "foo") (codes "Qux"))
    ≡ record { viewer = codes "bar"; line = codes ":Foo!u@h NICK Qux" ++ crlf }
    ∷ record { viewer = codes "Foo"; line = codes ":Foo!u@h NICK Qux" ++ crlf } ∷ []

-- a Join is shown to the members and to who joins, with the channel as stored
abbrev pub JoinShownToAll : Type 0
JoinShownToAll =
    seen (room_after two_members) (Join (codes "baz") (codes "#RUST") false)
    ≡ record { viewer = codes "bar"; line = codes ":baz!u@h JOIN #Rust" ++ crlf }
    ∷ record { viewer = codes "baz"; line = codes ":baz!u@h JOIN #Rust" ++ crlf }
    ∷ record { viewer = codes "Foo"; line = codes ":baz!u@h JOIN #Rust" ++ crlf } ∷ []

-- an Invite to a channel that is not there is told to whom it invites, and makes no channel
abbrev pub InviteToNoChannelIsToldOnly : Type 0
InviteToNoChannelIsToldOnly =
    let invite = Invite (codes "foo") (codes "bar") (codes "#none") in
    (seen (room_after two_members) invite ≡ record {
      viewer = codes "bar";
      line = codes ":Foo!u@h INVITE bar #none" ++ crlf;
    } ∷ [])
    × (has_channel (room_after (two_members ++ invite ∷ [])) (codes "#none") ≡ false)
