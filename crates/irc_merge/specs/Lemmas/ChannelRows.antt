-- What is read of the lines about one channel is a change of its row, by what is there.
use Rattle.std.proofs.Common.{◌≡◌, ℕ, Bool, true, false, cond, not, ◌&&◌, Option, Some, None, List}
use Rattle.std.proofs.Common.{[], ◌∷◌, ◌++◌, refl, sym, ◌∙◌, ap, map, fold, is_some, option_map}
use Rattle.std.proofs.Common.{if◌then◌else◌}
use Rattle.std.specs.Prelude.{unwrap_or}
use Rattle.std.specs.List.{list_any, flat_map}
use Rattle.std.specs.Option.{option_map_or}
use Rattle.std.specs.Ordering.{is_lt}
use Rattle.std.specs.FinMap.{keys, get-empty}
use Rattle.irc_names.specs.Fold.{key}
use Rattle.irc_names.specs.Greater.{bytes_cmp, greater}
use Rattle.irc_names.specs.Tables.{Table, fold_cmp, row, put, alter}
use Rattle.irc_names.specs.TableLaws.{row-alter_same}
use Rattle.irc_users.specs.declared.user.User.{User}
use Rattle.irc_channels.specs.declared.flags.Flags.{Flags}
use Rattle.irc_modes.specs.declared.modes.Modes.{Modes}
use Rattle.irc_modes.specs.declared.modes.ModeChange.{ModeChange}
use Rattle.irc_modes.specs.declared.modes.ModeLetter.{ModeLetter}
use Rattle.irc_modes.specs.declared.modes.ModeLetter.TheVariants as letter
use Rattle.irc_channels.specs.declared.channel.Channel.{Channel}
use Rattle.irc_channels.specs.Channels.{has_member, new_channel, joined, with_topic, respelled}
use Rattle.irc_channels.specs.Channels.{changed, all_changed}
use Rattle.irc_modes.specs.Modes.{is_nil}
use Rattle.irc_modes.specs.ModesSet.{set_changes, ban_changes}
use Rattle.irc_modes.specs.Raised.{raising}
use Rattle.irc_room.specs.effect.By.TheVariants as by
use Rattle.irc_room.specs.effect.Effect.TheVariants.{ChangeModes, SetTopic}
use Rattle.irc_room.specs.Room.{Room}
use Rattle.irc_room.specs.Effects.{is_member}
use Rattle.irc_room.specs.After.{after, alter_channel, titled_by}
use Rattle.irc_room.specs.InTurn.{after_all}
use Rattle.irc_room.specs.InTurnLaws.{after_all-append}
use Rattle.irc_room.specs.Lemmas.Rows.{alter_same}
use Rattle.irc_merge.specs.Deeds.{Deed, brings, sets, tops, flag_given, member_comes, changes_made}
use Rattle.irc_merge.specs.Deeds.{raised_in, is_greater_topic, after_deed, after_deeds}
use Rattle.irc_merge.specs.Bursts.{in_lines, members_a_line, bans_a_line, home_passes}
use Rattle.irc_merge.specs.Bursts.{stored_members, settings_line, topic_line, channel_deeds}
use Rattle.irc_merge.specs.BurstRead.{is_new_member, new_members, brought, some_far}
use Rattle.irc_merge.specs.MergeShown.{letters_line, mode_lines}
use Rattle.irc_merge.specs.Lemmas.TableWords.{alter_twice}
use Rattle.irc_merge.specs.Lemmas.Reading.{read_one, reads, reads-one, reads-append}
use Rattle.irc_merge.specs.Lemmas.SpelledMembers.{new_titled}
use Rattle.irc_merge.specs.Lemmas.BooleanTests.{and_not}

-- ---- one row

row_by : {X : Type 0} (fold : List ℕ) (one other : Option X → Option X) (table : Table X)
    → one (row table fold) ≡ other (row table fold) → alter fold one table ≡ alter fold other table
unfolding alter
row_by fold one other table is = ap (put table fold) is

pub channel_by : (name : List ℕ) (one other : Option Channel → Option Channel) (room : Room)
    → one (row room.channels (key name)) ≡ other (row room.channels (key name))
    → alter_channel name one room ≡ alter_channel name other room
channel_by name one other room is = ap (λ (t : Table Channel). record room { channels = t })
    (row_by (key name) one other room.channels is)

pub channel_stays : (name : List ℕ) (change : Option Channel → Option Channel) (room : Room)
    → change (row room.channels (key name)) ≡ row room.channels (key name)
    → alter_channel name change room ≡ room
channel_stays name change room is = ap (λ (t : Table Channel). record room { channels = t })
    (alter_same (key name) change room.channels is)

pub channel_twice : (name : List ℕ) (first second : Option Channel → Option Channel) (room : Room)
    → alter_channel name second (alter_channel name first room) ≡ alter_channel name
    (λ x. second (first x)) room
channel_twice name first second room = ap (λ (t : Table Channel). record room { channels = t })
    (alter_twice (key name) first second room.channels)

-- ---- one member comes

-- whether a fold is a member of the channel in a row
abbrev pub row_has : List ℕ → Option Channel → Bool
row_has fold x = option_map_or (has_member fold) x false

-- a channel with one member more, who is not invited any more
abbrev pub with_member : List ℕ → Flags → Channel → Channel
with_member fold flags channel = record channel {
  members = alter fold (λ _. Some flags) channel.members;
  invited = alter fold (λ _. None) channel.invited;
}

abbrev pub comes_to : List ℕ → List ℕ → Flags → Option Channel → Option Channel
comes_to name fold flags x = Some (with_member fold flags (unwrap_or x (new_channel name)))

abbrev no_flags : Flags
no_flags = record { op = false; voice = false }

abbrev an_op : Flags → Flags
an_op flags = record flags { op = true }

abbrev with_voice : Flags → Flags
with_voice flags = record flags { voice = true }

abbrev pub given : ModeLetter → List ℕ → ModeChange
given which nick = record { plus = true; letter = which; word = Some nick }

op_given : (nick : List ℕ) (flags : Flags) (channel : Channel)
    → changed (given letter.Operator nick) (with_member (key nick) flags channel)
    ≡ with_member (key nick) (an_op flags) channel
op_given nick flags channel = λ i. record (with_member (key nick) flags channel) {
  members = alter_twice (key nick) (λ _. Some flags) (option_map an_op) channel.members i;
}

voice_given : (nick : List ℕ) (flags : Flags) (channel : Channel)
    → changed (given letter.Voice nick) (with_member (key nick) flags channel)
    ≡ with_member (key nick) (with_voice flags) channel
voice_given nick flags channel = λ i. record (with_member (key nick) flags channel) {
  members = alter_twice (key nick) (λ _. Some flags) (option_map with_voice) channel.members i;
}

then_op : (name nick : List ℕ) (flags : Flags) (room : Room)
    → after (alter_channel name (comes_to name (key nick) flags) room)
    (ChangeModes by.Home name (given letter.Operator nick ∷ []))
    ≡ alter_channel name (comes_to name (key nick) (an_op flags)) room
unfolding after
then_op name nick flags room =
    channel_twice name (comes_to name (key nick) flags)
    (option_map (all_changed (given letter.Operator nick ∷ []))) room
    ∙ (λ i. alter_channel name
    (λ x. Some (op_given nick flags (unwrap_or x (new_channel name)) i)) room)

then_voice : (name nick : List ℕ) (flags : Flags) (room : Room)
    → after (alter_channel name (comes_to name (key nick) flags) room)
    (ChangeModes by.Home name (given letter.Voice nick ∷ []))
    ≡ alter_channel name (comes_to name (key nick) (with_voice flags)) room
unfolding after
then_voice name nick flags room =
    channel_twice name (comes_to name (key nick) flags)
    (option_map (all_changed (given letter.Voice nick ∷ []))) room
    ∙ (λ i. alter_channel name
    (λ x. Some (voice_given nick flags (unwrap_or x (new_channel name)) i)) room)

then_flags : (name nick : List ℕ) (room : Room) (op voice : Bool)
    → after_all (alter_channel name (comes_to name (key nick) no_flags) room)
    (flag_given op letter.Operator name nick ++ flag_given voice letter.Voice name nick)
    ≡ alter_channel name (comes_to name (key nick) (record { op = op; voice = voice })) room
then_flags name nick room false false = refl
then_flags name nick room true false = then_op name nick no_flags room
then_flags name nick room false true = then_voice name nick no_flags room
then_flags name nick room true true =
    ap (λ r. after r (ChangeModes by.Home name (given letter.Voice nick ∷ [])))
    (then_op name nick no_flags room)
    ∙ then_voice name nick (an_op no_flags) room

outside : (name fold : List ℕ) (x : Option Channel) → option_map_or (has_member fold) x false
    ≡ false → has_member fold (unwrap_or x (new_channel name)) ≡ false
outside name fold None none = ap is_some (get-empty fold_cmp fold)
outside name fold (Some channel) none = none

join_row : (name fold : List ℕ) (x : Option Channel)
    → option_map_or (has_member fold) x false ≡ false
    → Some (joined fold false (unwrap_or x (new_channel name))) ≡ comes_to name fold no_flags x
join_row name fold x none =
    ap (λ b. Some (cond b (unwrap_or x (new_channel name)) (with_member fold no_flags
    (unwrap_or x (new_channel name))))) (outside name fold x none)

pub comes : (name : List ℕ) (member : List ℕ × Flags) (room : Room)
    → is_member room member.0 name ≡ false → after_all room (member_comes name member)
    ≡ alter_channel name (comes_to name (key member.0) member.1) room
unfolding after
comes name member room none =
    ap (λ r. after_all r (flag_given member.1.op letter.Operator name member.0
    ++ flag_given member.1.voice letter.Voice name member.0))
    (channel_by name (λ c. Some (joined (key member.0) false (unwrap_or c (new_channel name))))
    (comes_to name (key member.0) no_flags) room
    (join_row name (key member.0) (row room.channels (key name)) none))
    ∙ then_flags name member.0 room member.1.op member.1.voice

-- ---- those of a line who are new

abbrev pub is_new : (List ℕ → Bool) → List ℕ → Option Channel → Bool
is_new passes fold x = passes fold && not (option_map_or (has_member fold) x false)

-- one of whom NJOIN tells, by its fold, comes to the row of a channel
abbrev pub entry_joins : (List ℕ → Bool) → List ℕ → Option Channel → List ℕ × Flags → Option Channel
entry_joins passes name x e = if is_new passes e.0 x then comes_to name e.0 e.1 x else x

abbrev pub member_joins : (List ℕ → Bool) → List ℕ → Option Channel → List ℕ × Flags
    → Option Channel
member_joins passes name x member = entry_joins passes name x (key member.0, member.1)

abbrev pub one_joins : (List ℕ → Bool) → List ℕ → Room → List ℕ × Flags → Room
one_joins far name room member =
    if is_new_member far room name member then after_all room (member_comes name member) else room

pub one_row : (far : List ℕ → Bool) (name : List ℕ) (room : Room) (member : List ℕ × Flags)
    → one_joins far name room member ≡ alter_channel name
    (λ x. member_joins (home_passes far room.users) name x member) room
one_row far name room member = by_test (is_new_member far room name member) refl
  where
    by_test : (b : Bool) → is_new_member far room name member ≡ b
        → cond b (after_all room (member_comes name member)) room ≡ alter_channel name
        (λ x. member_joins (home_passes far room.users) name x member) room
    by_test true is =
        comes name member room (and_not (home_passes far room.users (key member.0))
        (is_member room member.0 name) is).1
        ∙ channel_by name (comes_to name (key member.0) member.1)
        (λ x. member_joins (home_passes far room.users) name x member) room
        (sym (ap (λ b. cond b (comes_to name (key member.0) member.1 (row room.channels (key name)))
        (row room.channels (key name))) is))
    by_test false is =
        sym (channel_stays name (λ x. member_joins (home_passes far room.users) name x member) room
        (ap (λ b. cond b (comes_to name (key member.0) member.1 (row room.channels (key name)))
        (row room.channels (key name))) is))

new_in_turn : (far : List ℕ → Bool) (name : List ℕ) (members : List (List ℕ × Flags)) (room : Room)
    → after_all room (flat_map (member_comes name) (new_members far room name members))
    ≡ fold (one_joins far name) room members
new_in_turn far name [] room = refl
new_in_turn far name (member ∷ members) room =
    by_test (is_new_member far room name member)
    (new_in_turn far name members (after_all room (member_comes name member)))
    (new_in_turn far name members room)
  where
    by_test : (b : Bool)
        → after_all (after_all room (member_comes name member)) (flat_map (member_comes name)
        (new_members far (after_all room (member_comes name member)) name members))
        ≡ fold (one_joins far name) (after_all room (member_comes name member)) members
        → after_all room (flat_map (member_comes name) (new_members far room name members))
        ≡ fold (one_joins far name) room members
        → after_all room (flat_map (member_comes name) (cond b
        (member ∷ new_members far (after_all room (member_comes name member)) name members)
        (new_members far room name members)))
        ≡ fold (one_joins far name)
        (cond b (after_all room (member_comes name member)) room) members
    by_test true more less =
        after_all-append room (member_comes name member) (flat_map (member_comes name)
        (new_members far (after_all room (member_comes name member)) name members)) ∙ more
    by_test false more less = less

pub joins_row : (far : List ℕ → Bool) (name : List ℕ) (members : List (List ℕ × Flags))
    (room : Room) → fold (one_joins far name) room members ≡ alter_channel name
    (λ x. fold (member_joins (home_passes far room.users) name) x members) room
joins_row far name [] room = sym (channel_stays name (λ x. x) room refl)
joins_row far name (member ∷ members) room =
    ap (λ r. fold (one_joins far name) r members) (one_row far name room member)
    ∙ joins_row far name members
    (alter_channel name (λ x. member_joins (home_passes far room.users) name x member) room)
    ∙ channel_twice name (λ x. member_joins (home_passes far room.users) name x member)
    (λ x. fold (member_joins (home_passes far room.users) name) x members) room

-- those who are new, each judged by the row as those before it have left it
abbrev pub row_new : (List ℕ → Bool) → List ℕ → Option Channel → List (List ℕ × Flags)
    → List (List ℕ × Flags)
row_new passes name x [] = []
row_new passes name x (member ∷ members) =
    if is_new passes (key member.0) x
    then member ∷ row_new passes name (comes_to name (key member.0) member.1 x) members
    else row_new passes name x members

new_by_row : (far : List ℕ → Bool) (name : List ℕ) (members : List (List ℕ × Flags)) (room : Room)
    → new_members far room name members ≡ row_new (home_passes far room.users) name
    (row room.channels (key name)) members
new_by_row far name [] room = refl
new_by_row far name (member ∷ members) room =
    by_test (is_new_member far room name member) refl
    (new_by_row far name members (alter_channel name (comes_to name (key member.0) member.1) room))
    (new_by_row far name members room)
  where
    by_test : (b : Bool) → is_new_member far room name member ≡ b → new_members far
        (alter_channel name (comes_to name (key member.0) member.1) room) name members
        ≡ row_new (home_passes far room.users) name (row (alter (key name)
        (comes_to name (key member.0) member.1) room.channels) (key name)) members
        → new_members far room name members ≡ row_new (home_passes far room.users) name
        (row room.channels (key name)) members
        → cond b (member ∷ new_members far (after_all room (member_comes name member)) name members)
        (new_members far room name members)
        ≡ cond b (member ∷ row_new (home_passes far room.users) name
        (comes_to name (key member.0) member.1 (row room.channels (key name))) members)
        (row_new (home_passes far room.users) name (row room.channels (key name)) members)
    by_test true is more less =
        ap (λ r. member ∷ new_members far r name members)
        (comes name member room (and_not (home_passes far room.users (key member.0))
        (is_member room member.0 name) is).1)
        ∙ ap (λ ms. member ∷ ms) (more
        ∙ ap (λ x. row_new (home_passes far room.users) name x members)
        (row-alter_same (key name) (comes_to name (key member.0) member.1) room.channels))
    by_test false is more less = less

-- ---- a line: the channel takes its spelling where somebody comes at all, and then they come

abbrev pub spelled : List ℕ → List (List ℕ × Flags) → Room → Room
spelled name [] room = room
spelled name (member ∷ members) room = titled_by name room

abbrev pub row_spelled : List ℕ → List (List ℕ × Flags) → Option Channel → Option Channel
row_spelled name [] x = x
row_spelled name (member ∷ members) x = option_map (respelled name) x

spelled_row : (name : List ℕ) (news : List (List ℕ × Flags)) (room : Room)
    → spelled name news room ≡ alter_channel name (row_spelled name news) room
spelled_row name [] room = sym (channel_stays name (λ x. x) room refl)
spelled_row name (member ∷ news) room = refl

-- the room in which the members of a line come
abbrev pub line_spelled : (List ℕ → Bool) → List ℕ → Room → List (List ℕ × Flags) → Room
line_spelled far name room members = spelled name (new_members far room name members) room

line_new : (far : List ℕ → Bool) (name : List ℕ) (members : List (List ℕ × Flags)) (room : Room)
    → new_members far room name members ≡ new_members far
    (line_spelled far name room members) name members
line_new far name members room = by (new_members far room name members)
  where
    by : (news : List (List ℕ × Flags))
        → new_members far room name members ≡ new_members far (spelled name news room) name members
    by [] = refl
    by (member ∷ news) = sym (new_titled far name members room)

brought_after : (server name : List ℕ) (members : List (List ℕ × Flags)) (room : Room)
    → after_deeds room (brought server name members) ≡ after_all (spelled name members room)
    (flat_map (member_comes name) members)
unfolding after_deed
brought_after server name [] room = refl
brought_after server name (member ∷ members) room = refl

pub line_joins : (own server name : List ℕ) (far : List ℕ → Bool) (members : List (List ℕ × Flags))
    (room : Room) → read_one own far room (brings server name members) ≡ fold (one_joins far name)
    (line_spelled far name room members) members
line_joins own server name far members room =
    brought_after server name (new_members far room name members) room
    ∙ ap (λ news. after_all (line_spelled far name room members)
    (flat_map (member_comes name) news)) (line_new far name members room)
    ∙ new_in_turn far name members (line_spelled far name room members)

-- what a line makes of the row
abbrev pub line_in : (List ℕ → Bool) → List ℕ → Option Channel → List (List ℕ × Flags)
    → Option Channel
line_in passes name x members =
    fold (member_joins passes name) (row_spelled name (row_new passes name x members) x) members

pub line_row : (own server name : List ℕ) (far : List ℕ → Bool) (members : List (List ℕ × Flags))
    (room : Room) → read_one own far room (brings server name members)
    ≡ alter_channel name (λ x. line_in (home_passes far room.users) name x members) room
line_row own server name far members room =
    let passes = home_passes far room.users in
    let news = new_members far room name members in
    line_joins own server name far members room
    ∙ joins_row far name members (line_spelled far name room members)
    ∙ ap (λ (r : Room). alter_channel name (λ x. fold
    (member_joins (home_passes far r.users) name) x members) r) (spelled_row name news room)
    ∙ channel_twice name (row_spelled name news)
    (λ x. fold (member_joins passes name) x members) room
    ∙ channel_by name (λ x. fold (member_joins passes name) (row_spelled name news x) members)
    (λ x. line_in passes name x members) room
    (ap (λ ms. fold (member_joins passes name) (row_spelled name ms (row room.channels (key name)))
    members) (new_by_row far name members room))

pub lines_row : (own server name : List ℕ) (far : List ℕ → Bool)
    (lines : List (List (List ℕ × Flags))) (room : Room)
    → reads own far room (map (brings server name) lines) ≡ alter_channel name
    (λ x. fold (line_in (home_passes far room.users) name) x lines) room
lines_row own server name far [] room = sym (channel_stays name (λ x. x) room refl)
lines_row own server name far (line ∷ lines) room =
    let passes = home_passes far room.users in
    reads-one own far room (brings server name line) (map (brings server name) lines)
    ∙ ap (λ r. reads own far r (map (brings server name) lines))
    (line_row own server name far line room)
    ∙ lines_row own server name far lines
    (alter_channel name (λ x. line_in passes name x line) room)
    ∙ channel_twice name (λ x. line_in passes name x line)
    (λ x. fold (line_in passes name) x lines) room

-- ---- modes and topic

abbrev pub row_far : (List ℕ → Bool) → Option Channel → Bool
row_far passes x = option_map_or (λ (c : Channel). list_any passes (keys c.members)) x false

-- what is raised of a line in a channel
abbrev pub all_raised : List ModeChange → Channel → Channel
all_raised changes channel = all_changed (raising changes channel.modes) channel

-- a topic in a channel, where it is the greater
abbrev pub topic_raised : List ℕ → Channel → Channel
topic_raised topic channel = record channel { topic = greater bytes_cmp channel.topic topic }

abbrev pub row_set : (List ℕ → Bool) → Option Channel → List ModeChange → Option Channel
row_set passes x changes = if row_far passes x then option_map (all_raised changes) x else x

abbrev pub row_topped : (List ℕ → Bool) → List ℕ → Option Channel → Option Channel
row_topped passes topic x = if row_far passes x then option_map (topic_raised topic) x else x

made_row : (name : List ℕ) (changes : List ModeChange) (room : Room) → after_all room
    (changes_made name changes) ≡ alter_channel name (option_map (all_changed changes)) room
unfolding after
made_row name [] room =
    sym (channel_stays name (option_map (λ c. c)) room (stays (row room.channels (key name))))
  where
    stays : (x : Option Channel) → option_map (λ c. c) x ≡ x
    stays None = refl
    stays (Some channel) = refl
made_row name (change ∷ changes) room = refl

pub set_row : (own server name : List ℕ) (far : List ℕ → Bool) (changes : List ModeChange)
    (room : Room) → read_one own far room (sets server name changes) ≡ alter_channel name
    (λ x. row_set (home_passes far room.users) x changes) room
unfolding after_deed
set_row own server name far changes room = by_test (some_far far room name) refl
  where
    raised : (x : Option Channel)
        → option_map (all_changed (option_map_or (λ (c : Channel). raising changes c.modes) x [])) x
        ≡ option_map (all_raised changes) x
    raised None = refl
    raised (Some channel) = refl

    by_test : (b : Bool) → some_far far room name ≡ b
        → after_deeds room (cond b (sets server name changes ∷ []) [])
        ≡ alter_channel name (λ x. row_set (home_passes far room.users) x changes) room
    by_test true is =
        made_row name (raised_in room name changes) room
        ∙ channel_by name (option_map (all_changed (raised_in room name changes)))
        (λ x. row_set (home_passes far room.users) x changes) room
        (raised (row room.channels (key name))
        ∙ sym (ap (λ b. cond b (option_map (all_raised changes) (row room.channels (key name)))
        (row room.channels (key name))) is))
    by_test false is =
        sym (channel_stays name (λ x. row_set (home_passes far room.users) x changes) room
        (ap (λ b. cond b (option_map (all_raised changes) (row room.channels (key name)))
        (row room.channels (key name))) is))

-- a topic that is set where it is greater
greater_row : (name topic : List ℕ) (room : Room) → after_all room
    (if is_greater_topic room name topic then SetTopic by.Home name topic ∷ [] else [])
    ≡ alter_channel name (option_map (topic_raised topic)) room
unfolding after
greater_row name topic room = by_row (row room.channels (key name)) refl
  where
    by_greater : (channel : Channel) → row room.channels (key name) ≡ Some channel
        → (b : Bool) → is_lt (bytes_cmp channel.topic topic) ≡ b
        → after_all room (cond b (SetTopic by.Home name topic ∷ []) [])
        ≡ alter_channel name (option_map (topic_raised topic)) room
    by_greater channel at true is =
        channel_by name (option_map (with_topic topic)) (option_map (topic_raised topic)) room
        (ap (option_map (with_topic topic)) at
        ∙ ap (λ b. Some (record channel { topic = cond b topic channel.topic })) (sym is)
        ∙ ap (option_map (topic_raised topic)) (sym at))
    by_greater channel at false is =
        sym (channel_stays name (option_map (topic_raised topic)) room
        (ap (option_map (topic_raised topic)) at
        ∙ ap (λ b. Some (record channel { topic = cond b topic channel.topic })) is ∙ sym at))

    by_row : (x : Option Channel) → row room.channels (key name) ≡ x → after_all room
        (cond (option_map_or (λ (c : Channel). is_lt (bytes_cmp c.topic topic)) x false)
        (SetTopic by.Home name topic ∷ []) [])
        ≡ alter_channel name (option_map (topic_raised topic)) room
    by_row None at =
        sym (channel_stays name (option_map (topic_raised topic)) room
        (ap (option_map (topic_raised topic)) at ∙ sym at))
    by_row (Some channel) at = by_greater channel at (is_lt (bytes_cmp channel.topic topic)) refl

pub topped_row : (own server name : List ℕ) (far : List ℕ → Bool) (topic : List ℕ) (room : Room)
    → read_one own far room (tops server name topic) ≡ alter_channel name
    (row_topped (home_passes far room.users) topic) room
unfolding after_deed
topped_row own server name far topic room = by_test (some_far far room name) refl
  where
    by_test : (b : Bool) → some_far far room name ≡ b
        → after_deeds room (cond b (tops server name topic ∷ []) []) ≡ alter_channel name
        (row_topped (home_passes far room.users) topic) room
    by_test true is =
        greater_row name topic room
        ∙ channel_by name (option_map (topic_raised topic))
        (row_topped (home_passes far room.users) topic) room
        (sym (ap (λ b. cond b (option_map (topic_raised topic) (row room.channels (key name)))
        (row room.channels (key name))) is))
    by_test false is =
        sym (channel_stays name (row_topped (home_passes far room.users) topic) room
        (ap (λ b. cond b (option_map (topic_raised topic) (row room.channels (key name)))
        (row room.channels (key name))) is))

pub sets_read : (own server name : List ℕ) (far : List ℕ → Bool) (lines : List (List ModeChange))
    (room : Room) → reads own far room (map (sets server name) lines) ≡ alter_channel name
    (λ x. fold (row_set (home_passes far room.users)) x lines) room
sets_read own server name far [] room = sym (channel_stays name (λ x. x) room refl)
sets_read own server name far (line ∷ lines) room =
    let passes = home_passes far room.users in
    reads-one own far room (sets server name line) (map (sets server name) lines)
    ∙ ap (λ r. reads own far r (map (sets server name) lines))
    (set_row own server name far line room)
    ∙ sets_read own server name far lines (alter_channel name (λ x. row_set passes x line) room)
    ∙ channel_twice name (λ x. row_set passes x line) (λ x. fold (row_set passes) x lines) room

abbrev pub topic_row : (List ℕ → Bool) → List ℕ → Option Channel → Option Channel
topic_row passes topic x = if is_nil topic then x else row_topped passes topic x

topic_read : (own server name : List ℕ) (far : List ℕ → Bool) (topic : List ℕ) (room : Room)
    → reads own far room (topic_line server name topic) ≡ alter_channel name
    (topic_row (home_passes far room.users) topic) room
topic_read own server name far [] room = sym (channel_stays name (λ x. x) room refl)
topic_read own server name far (byte ∷ topic) room =
    reads-one own far room (tops server name (byte ∷ topic)) []
    ∙ topped_row own server name far (byte ∷ topic) room

-- ---- all lines about a channel

-- letters and bans are told alike, line by line
letters_told : (server name : List ℕ) (changes : List ModeChange) (lines : List (List ModeChange))
    (rest : List Deed) → settings_line server name changes ++ (map (sets server name) lines ++ rest)
    ≡ map (sets server name) (letters_line changes ++ lines) ++ rest
letters_told server name [] lines rest = refl
letters_told server name (change ∷ changes) lines rest = refl

pub told_in_lines : (server : List ℕ) (users : Table User) (channel : Channel)
    → channel_deeds server users channel
    ≡ map (brings server channel.name) (in_lines members_a_line (stored_members users channel))
    ++ (map (sets server channel.name) (mode_lines channel.modes)
    ++ topic_line server channel.name channel.topic)
told_in_lines server users channel =
    ap (λ rest. map (brings server channel.name)
    (in_lines members_a_line (stored_members users channel)) ++ rest)
    (letters_told server channel.name (set_changes channel.modes)
    (in_lines bans_a_line (ban_changes channel.modes.bans))
    (topic_line server channel.name channel.topic))

-- the row when the members have come
abbrev pub members_row : (List ℕ → Bool) → Table User → Channel → Option Channel → Option Channel
members_row passes users channel x =
    fold (line_in passes channel.name) x (in_lines members_a_line (stored_members users channel))

-- and when its modes were told
abbrev pub modes_row : (List ℕ → Bool) → Modes → Option Channel → Option Channel
modes_row passes modes x = fold (row_set passes) x (mode_lines modes)

abbrev pub channel_row : (List ℕ → Bool) → Table User → Channel → Option Channel → Option Channel
channel_row passes users channel x = topic_row passes channel.topic
    (modes_row passes channel.modes (members_row passes users channel x))

pub deeds_row : (own server : List ℕ) (far : List ℕ → Bool) (users : Table User)
    (channel : Channel) (room : Room) → reads own far room (channel_deeds server users channel)
    ≡ alter_channel channel.name (channel_row (home_passes far room.users) users channel) room
deeds_row own server far users channel room =
    let name = channel.name in
    let passes = home_passes far room.users in
    let brought =
    map (brings server name) (in_lines members_a_line (stored_members users channel)) in
    let modes = map (sets server name) (mode_lines channel.modes) in
    let topic = topic_line server name channel.topic in
    let come = alter_channel name (members_row passes users channel) room in
    let set = alter_channel name (modes_row passes channel.modes) come in
    ap (reads own far room) (told_in_lines server users channel)
    ∙ reads-append own far room brought (modes ++ topic)
    ∙ ap (λ r. reads own far r (modes ++ topic)) (lines_row own server name far
    (in_lines members_a_line (stored_members users channel)) room)
    ∙ reads-append own far come modes topic
    ∙ ap (λ r. reads own far r topic)
    (sets_read own server name far (mode_lines channel.modes) come)
    ∙ topic_read own server name far channel.topic set
    ∙ channel_twice name (modes_row passes channel.modes) (topic_row passes channel.topic) come
    ∙ channel_twice name (members_row passes users channel)
    (λ x. topic_row passes channel.topic (modes_row passes channel.modes x)) room
