-- Members come and go, and a topic is set: as edits, channel by channel.
use Rattle.std.proofs.Common.{◌≡◌, ℕ, Bool, true, false, cond, Option, Some, None, List}
use Rattle.std.proofs.Common.{refl, sym, ap, ◌∙◌, is_some, option_map, option_and_then, unwrap_or}
use Rattle.std.proofs.Common.{true≢false, if◌then◌else◌}
use Rattle.std.proofs.Math.Bool.{false≢true}
use Rattle.std.specs.Option.{option_map_or}
use Rattle.std.specs.FinMap.{get-empty, keys}
use Rattle.irc_names.specs.Tables.{Table, alter, fold_cmp, row}
use Rattle.irc_names.specs.TableLaws.{same_fold, one_fold, row-alter, row-moved}
use Rattle.irc_names.specs.TableLaws.{row-moved_none}
use Rattle.irc_modes.specs.Modes.{is_nil}
use Rattle.irc_channels.specs.Channels.{has_member, joined, left, new_channel, renamed}
use Rattle.irc_channels.specs.Channels.{while_members}
use Rattle.irc_channels.specs.Channels.{with_topic, without_user}
use Rattle.irc_channels.specs.declared.channel.Channel.{Channel}
use Rattle.irc_channels.specs.declared.flags.Flags.{Flags}
use Rattle.irc_effects.specs.Lemmas.Rows.{some_key}
use Rattle.irc_edited_rooms.specs.Writes.{Row, all_of, blank_row, written}
use Rattle.irc_edited_rooms.specs.Fates.{goes, comes, after_fate}
use Rattle.irc_edited_rooms.specs.Documents.{Nick, lives, pick}
use Rattle.irc_edited_rooms.specs.Lemmas.FatesMeet.{untouched_stays}
use Rattle.irc_edited_rooms.specs.Lemmas.Living.{somebody}
use Rattle.irc_room_edits.specs.Documents.{member_in}
use Rattle.irc_room_edits.specs.Edits.{fate_if, making}
use Rattle.irc_room_edits.specs.Places.{Place, ban, channel_key, invite_only, limit}
use Rattle.irc_room_edits.specs.Places.{moderated, no_outside, privacy, spelling, topic}
use Rattle.irc_room_edits.specs.Places.{topic_locked}
use Rattle.irc_room_edits.specs.Places.{of_channel, of_member, of_user, channel_row, channel_write}
use Rattle.irc_room_edits.specs.Places.{member_row}

abbrev no_channel : Option Channel
no_channel = None

abbrev no_row_there : Option (Row Place)
no_row_there = None

nobody_yet : (name q : List ℕ) → row (new_channel name).members q ≡ None
nobody_yet name q = get-empty fold_cmp q

-- ---- rows of channels

-- the row is of the name, the modes and the topic
pub row_of_parts : (one other : Channel) → one.name ≡ other.name → one.modes ≡ other.modes
    → one.topic ≡ other.topic → channel_row one ≡ channel_row other
row_of_parts one other name modes words i = channel_row (record {
  name = name i;
  modes = modes i;
  topic = words i;
  members = one.members;
  invited = one.invited;
})

topic_written : (text : List ℕ) (channel : Channel)
    → written (channel_write topic text) (channel_row channel)
    ≡ channel_row (with_topic text channel)
topic_written text channel i place = at place i
  where
    at : (place : Place) → written (channel_write topic text) (channel_row channel) place
        ≡ channel_row (with_topic text channel) place
    at (of_user place) = refl
    at (of_member place) = refl
    at (of_channel spelling) = refl
    at (of_channel topic) = refl
    at (of_channel invite_only) = refl
    at (of_channel moderated) = refl
    at (of_channel no_outside) = refl
    at (of_channel topic_locked) = refl
    at (of_channel privacy) = refl
    at (of_channel channel_key) = refl
    at (of_channel limit) = refl
    at (of_channel (ban mask)) = refl

pub spelling_written : (name : List ℕ) (channel : Channel)
    → written (channel_write spelling name) (channel_row channel)
    ≡ channel_row (record channel { name = name })
spelling_written name channel i place = at place i
  where
    at : (place : Place) → written (channel_write spelling name) (channel_row channel) place
        ≡ channel_row (record channel { name = name }) place
    at (of_user place) = refl
    at (of_member place) = refl
    at (of_channel spelling) = refl
    at (of_channel topic) = refl
    at (of_channel invite_only) = refl
    at (of_channel moderated) = refl
    at (of_channel no_outside) = refl
    at (of_channel topic_locked) = refl
    at (of_channel privacy) = refl
    at (of_channel channel_key) = refl
    at (of_channel limit) = refl
    at (of_channel (ban mask)) = refl

new_written : (name : List ℕ) → written (channel_write spelling name) blank_row
    ≡ channel_row (new_channel name)
new_written name i place = at place i
  where
    at : (place : Place) → written (channel_write spelling name) blank_row place
        ≡ channel_row (new_channel name) place
    at (of_user place) = refl
    at (of_member place) = refl
    at (of_channel spelling) = refl
    at (of_channel topic) = refl
    at (of_channel invite_only) = refl
    at (of_channel moderated) = refl
    at (of_channel no_outside) = refl
    at (of_channel topic_locked) = refl
    at (of_channel privacy) = refl
    at (of_channel channel_key) = refl
    at (of_channel limit) = refl
    at (of_channel (ban mask)) = refl

-- ---- a member goes

taken_at : (members : Table Flags) (fold q : List ℕ)
    → after_fate (fate_if (same_fold q fold) goes) (option_map member_row (row members q))
    ≡ option_map member_row (row (alter fold (λ _. None) members) q)
taken_at members fold q =
    by (same_fold q fold) ∙ sym (ap (option_map member_row) (row-alter fold (λ _. None) members q))
  where
    by : (b : Bool) → after_fate (fate_if b goes) (option_map member_row (row members q))
        ≡ option_map member_row (cond b None (row members q))
    by true = refl
    by false = untouched_stays (option_map member_row (row members q))

-- nobody is a member of a table without a key
none_in : (members : Table Flags) (q : List ℕ) → is_nil (keys members) ≡ true
    → row members q ≡ None
none_in members q nil = by (row members q) refl
  where
    by : (flags : Option Flags) → row members q ≡ flags → flags ≡ None
    by None at = refl
    by (Some flags) at =
        absurd (true≢false (sym nil ∙ some_key members q (ap is_some at)))

-- a channel while it has members
while_member : (channel : Channel) (q : List ℕ)
    → option_and_then (member_in q) (while_members channel) ≡ member_in q channel
while_member channel q = by (is_nil (keys channel.members)) refl
  where
    by : (b : Bool) → is_nil (keys channel.members) ≡ b
        → option_and_then (member_in q) (if b then None else Some channel) ≡ member_in q channel
    by true nil = sym (ap (option_map member_row) (none_in channel.members q nil))
    by false some = refl

while_row : (names : List Nick) (channel : Channel)
    → lives names (λ q. option_and_then (member_in q) (while_members channel)) ≡ true
    → channel_row channel ≡ option_map_or channel_row (while_members channel) blank_row
while_row names channel living = by (is_nil (keys channel.members)) living
  where
    by : (b : Bool)
        → lives names (λ q. option_and_then (member_in q) (if b then None else Some channel)) ≡ true
        → channel_row channel ≡ option_map_or channel_row (if b then None else Some channel)
        blank_row
    by true living =
        absurd (false≢true (somebody names
        (λ q. option_and_then (member_in q) no_channel) living).there)
    by false living = refl

-- one who is gone
pub without_member : (fold : List ℕ) (channel : Option Channel) (q : List ℕ)
    → after_fate (fate_if (same_fold q fold) goes) (option_and_then (member_in q) channel)
    ≡ option_and_then (member_in q) (option_and_then (without_user fold) channel)
without_member fold None q = by (same_fold q fold)
  where
    by : (b : Bool) → after_fate (fate_if b goes) None ≡ no_row_there
    by true = refl
    by false = refl
without_member fold (Some channel) q =
    taken_at channel.members fold q
    ∙ sym (while_member (record channel {
      members = alter fold (λ _. None) channel.members;
      invited = alter fold (λ _. None) channel.invited;
    }) q)

pub without_row : (names : List Nick) (fold : List ℕ) (channel : Option Channel)
    → lives names (λ q. option_and_then (member_in q) (option_and_then (without_user fold) channel))
    ≡ true
    → option_map_or channel_row channel blank_row
    ≡ option_map_or channel_row (option_and_then (without_user fold) channel) blank_row
without_row names fold None living = refl
without_row names fold (Some channel) living =
    row_of_parts channel (record channel {
      members = alter fold (λ _. None) channel.members;
      invited = alter fold (λ _. None) channel.invited;
    }) refl refl refl
    ∙ while_row names (record channel {
      members = alter fold (λ _. None) channel.members;
      invited = alter fold (λ _. None) channel.invited;
    }) living

-- one who leaves
no_member_there : (members : Table Flags) (fold q : List ℕ) → is_some (row members fold) ≡ false
    → option_map member_row (row (alter fold (λ _. None) members) q)
    ≡ option_map member_row (row members q)
no_member_there members fold q none =
    ap (option_map member_row) (row-alter fold (λ _. None) members q)
    ∙ by (same_fold q fold) refl (row members q) refl
  where
    by : (b : Bool) → same_fold q fold ≡ b → (flags : Option Flags) → row members q ≡ flags
        → option_map member_row (cond b None flags) ≡ option_map member_row flags
    by true is None at = refl
    by true is (Some flags) at = absurd (true≢false (sym (ap is_some at)
        ∙ ap (λ it. is_some (row members it)) (one_fold q fold is) ∙ none))
    by false is flags at = refl

leaves_some : (fold : List ℕ) (channel : Channel) (q : List ℕ) (b : Bool)
    → has_member fold channel ≡ b
    → after_fate (fate_if (same_fold q fold) goes) (member_in q channel)
    ≡ option_and_then (member_in q) (if b then while_members
    (record channel { members = alter fold (λ _. None) channel.members }) else Some channel)
leaves_some fold channel q true is =
    taken_at channel.members fold q
    ∙ sym (while_member (record channel { members = alter fold (λ _. None) channel.members }) q)
leaves_some fold channel q false is =
    taken_at channel.members fold q ∙ no_member_there channel.members fold q is

pub left_member : (fold : List ℕ) (channel : Option Channel) (q : List ℕ)
    → after_fate (fate_if (same_fold q fold) goes) (option_and_then (member_in q) channel)
    ≡ option_and_then (member_in q) (option_and_then (left fold) channel)
left_member fold None q = by (same_fold q fold)
  where
    by : (b : Bool) → after_fate (fate_if b goes) None ≡ no_row_there
    by true = refl
    by false = refl
left_member fold (Some channel) q = leaves_some fold channel q (has_member fold channel) refl

leaves_row : (names : List Nick) (fold : List ℕ) (channel : Channel) (b : Bool)
    → lives names (λ q. option_and_then (member_in q) (if b then while_members
    (record channel { members = alter fold (λ _. None) channel.members }) else Some channel))
    ≡ true
    → channel_row channel ≡ option_map_or channel_row (if b then while_members
    (record channel { members = alter fold (λ _. None) channel.members }) else Some channel)
    blank_row
leaves_row names fold channel true living =
    row_of_parts channel (record channel { members = alter fold (λ _. None) channel.members })
    refl refl refl
    ∙ while_row names (record channel { members = alter fold (λ _. None) channel.members }) living
leaves_row names fold channel false living = refl

pub left_row : (names : List Nick) (fold : List ℕ) (channel : Option Channel)
    → lives names (λ q. option_and_then (member_in q) (option_and_then (left fold) channel)) ≡ true
    → option_map_or channel_row channel blank_row
    ≡ option_map_or channel_row (option_and_then (left fold) channel) blank_row
left_row names fold None living = refl
left_row names fold (Some channel) living =
    leaves_row names fold channel (has_member fold channel) living

-- ---- a member comes

come_at : (members : Table Flags) (fold : List ℕ) (flags : Flags) (q : List ℕ)
    → after_fate (fate_if (same_fold q fold) (comes (all_of (member_row flags))))
    (option_map member_row (row members q))
    ≡ option_map member_row (row (alter fold (λ _. Some flags) members) q)
come_at members fold flags q =
    by (same_fold q fold)
    ∙ sym (ap (option_map member_row) (row-alter fold (λ _. Some flags) members q))
  where
    by : (b : Bool) → after_fate (fate_if b (comes (all_of (member_row flags))))
        (option_map member_row (row members q))
        ≡ option_map member_row (cond b (Some flags) (row members q))
    by true = refl
    by false = untouched_stays (option_map member_row (row members q))

newly : (fold : List ℕ) (op : Bool) (channel : Channel) → Channel
newly fold op channel = record channel {
  members = alter fold (λ _. Some (record { op = op; voice = false })) channel.members;
  invited = alter fold (λ _. None) channel.invited;
}

is_newly : (fold : List ℕ) (op : Bool) (channel : Channel) → has_member fold channel ≡ false
    → joined fold op channel ≡ newly fold op channel
unfolding newly
is_newly fold op channel other = ap (λ b. if b then channel else record channel {
  members = alter fold (λ _. Some (record { op = op; voice = false })) channel.members;
  invited = alter fold (λ _. None) channel.invited;
}) other

joined_some : (fold : List ℕ) (op : Bool) (channel : Channel) (q : List ℕ)
    → has_member fold channel ≡ false
    → after_fate (fate_if (same_fold q fold)
    (comes (all_of (member_row (record { op = op; voice = false }))))) (member_in q channel)
    ≡ member_in q (joined fold op channel)
unfolding newly
joined_some fold op channel q other =
    come_at channel.members fold (record { op = op; voice = false }) q
    ∙ sym (ap (member_in q) (is_newly fold op channel other))

none_there : (name q : List ℕ)
    → option_and_then (member_in q) no_channel ≡ member_in q (new_channel name)
none_there name q =
    sym (ap (option_map member_row) (nobody_yet name q))

pub joined_member : (fold : List ℕ) (name : List ℕ) (op : Bool) (channel : Option Channel)
    (q : List ℕ) → option_map_or (has_member fold) channel false ≡ false
    → after_fate (fate_if (same_fold q fold)
    (comes (all_of (member_row (record { op = op; voice = false })))))
    (option_and_then (member_in q) channel)
    ≡ member_in q (joined fold op (unwrap_or channel (new_channel name)))
joined_member fold name op None q other =
    ap (after_fate (fate_if (same_fold q fold)
    (comes (all_of (member_row (record { op = op; voice = false })))))) (none_there name q)
    ∙ joined_some fold op (new_channel name) q (ap is_some (nobody_yet name fold))
joined_member fold name op (Some channel) q other = joined_some fold op channel q other

pub joined_row : (fold : List ℕ) (name : List ℕ) (op : Bool) (channel : Option Channel)
    → option_map_or (has_member fold) channel false ≡ false
    → written (making (is_some channel) name) (option_map_or channel_row channel blank_row)
    ≡ channel_row (joined fold op (unwrap_or channel (new_channel name)))
unfolding newly
joined_row fold name op None other =
    new_written name
    ∙ row_of_parts (new_channel name) (newly fold op (new_channel name)) refl refl refl
    ∙ sym (ap channel_row (is_newly fold op (new_channel name)
    (ap is_some (nobody_yet name fold))))
joined_row fold name op (Some channel) other =
    row_of_parts channel (newly fold op channel) refl refl refl
    ∙ sym (ap channel_row (is_newly fold op channel other))

-- ---- a topic, and a spelling

pub topic_row : (text : List ℕ) (channel : Option Channel)
    → is_some channel ≡ true
    → written (channel_write topic text) (option_map_or channel_row channel blank_row)
    ≡ option_map_or channel_row (option_map (with_topic text) channel) blank_row
topic_row text None there = absurd (false≢true there)
topic_row text (Some channel) there = topic_written text channel

pub topic_member : (text : List ℕ) (channel : Option Channel) (q : List ℕ)
    → option_and_then (member_in q) channel
    ≡ option_and_then (member_in q) (option_map (with_topic text) channel)
topic_member text None q = refl
topic_member text (Some channel) q = refl

-- ---- a nickname for another

pub renamed_member : (old new : List ℕ) (channel : Channel) (q : List ℕ)
    → row channel.members new ≡ None
    → member_in (pick (same_fold q new) (same_fold q old) old new q) channel
    ≡ member_in q (renamed old new channel)
renamed_member old new channel q free = by (row channel.members old) refl
  where
    moved_there : (flags : Flags) (b c : Bool) → same_fold q new ≡ b → same_fold q old ≡ c
        → row channel.members old ≡ Some flags
        → option_map member_row (row channel.members (pick b c old new q))
        ≡ option_map member_row (cond b (Some flags) (cond c None (row channel.members q)))
    moved_there flags true c is_new is_old at = ap (option_map member_row) at
    moved_there flags false true is_new is_old at = ap (option_map member_row) free
    moved_there flags false false is_new is_old at = refl

    not_there : (b c : Bool) → same_fold q new ≡ b → same_fold q old ≡ c
        → row channel.members old ≡ None
        → option_map member_row (row channel.members (pick b c old new q))
        ≡ option_map member_row (row channel.members q)
    not_there true c is_new is_old at = ap (option_map member_row)
        (at ∙ sym free ∙ ap (row channel.members) (sym (one_fold q new is_new)))
    not_there false true is_new is_old at = ap (option_map member_row)
        (free ∙ sym at ∙ ap (row channel.members) (sym (one_fold q old is_old)))
    not_there false false is_new is_old at = refl

    by : (flags : Option Flags) → row channel.members old ≡ flags
        → member_in (pick (same_fold q new) (same_fold q old) old new q) channel
        ≡ member_in q (renamed old new channel)
    by None at =
        not_there (same_fold q new) (same_fold q old) refl refl at
        ∙ sym (ap (option_map member_row)
        (row-moved_none old new (λ flags. flags) channel.members at q))
    by (Some flags) at =
        moved_there flags (same_fold q new) (same_fold q old) refl refl at
        ∙ sym (ap (option_map member_row)
        (row-moved old new (λ flags. flags) channel.members flags at q))
