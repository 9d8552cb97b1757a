-- Rooms with one document hold the same: each row of it tells the user, the member or the channel
-- that it is of, but for who is invited.
use Rattle.std.proofs.Common.{◌≡◌, ℕ, zero, suc, Bool, true, false, ◌||◌, Option, Some, None, List}
use Rattle.std.proofs.Common.{[], ◌∷◌, refl, sym, ◌∙◌, ap, is_some, true≢false}
use Rattle.std.proofs.Math.Bool.{false≢true}
use Rattle.std.proofs.lemmas.Option.{none-some, same_Some}
use Rattle.std.specs.Prelude.{find}
use Rattle.std.specs.List.{list_any}
use Rattle.std.specs.Option.{option_and_then, option_map, option_map_or}
use Rattle.std.specs.FinMap.{keys}
use Rattle.irc_names.specs.Fold.{same}
use Rattle.irc_names.specs.Tables.{Table, row}
use Rattle.irc_names.specs.TableLaws.{same_fold, same_fold-refl, same_table, row-keys}
use Rattle.irc_users.specs.declared.user.User.{User}
use Rattle.irc_modes.specs.declared.modes.Privacy.{Privacy}
use Rattle.irc_modes.specs.declared.modes.Privacy.TheVariants.{Public, Private, Secret}
use Rattle.irc_modes.specs.Bans.{IsBanList}
use Rattle.irc_modes.specs.Modes.{is_nil}
use Rattle.irc_modes.specs.Lemmas.BansByFold.{same_found}
use Rattle.irc_channels.specs.declared.channel.Channel.{Channel}
use Rattle.irc_channels.specs.declared.flags.Flags.{Flags}
use Rattle.irc_effects.specs.Room.{Room, IsWellFormed}
use Rattle.irc_edited_rooms.specs.Writes.{blank_row}
use Rattle.irc_edited_rooms.specs.Documents.{Document}
use Rattle.irc_edited_rooms.specs.Lemmas.Living.{either}
use Rattle.irc_room_edits.specs.Places.{Place, of_user, of_member, of_channel, nickname, user_name}
use Rattle.irc_room_edits.specs.Places.{host, real_name, home, invisible, away, operator, voice}
use Rattle.irc_room_edits.specs.Places.{ChannelPlace, spelling, topic, invite_only, moderated}
use Rattle.irc_room_edits.specs.Places.{no_outside, topic_locked, privacy, channel_key, limit, ban}
use Rattle.irc_room_edits.specs.Places.{flag_value, text_value, limit_value, privacy_value}
use Rattle.irc_room_edits.specs.Places.{user_row, member_row, channel_row}
use Rattle.irc_room_edits.specs.Documents.{document, member_in}
use Rattle.irc_room_edits.specs.SameRooms.{DocumentsTellRooms}

-- ---- a value tells what is set

none_stands : {A : Type 0} (byte : ℕ) (bytes : List ℕ) → [] ≡ byte ∷ bytes → A
none_stands byte bytes is = absurd (true≢false (ap is_nil is))

abbrev first_of : List ℕ → ℕ
first_of [] = 0
first_of (byte ∷ bytes) = byte

abbrev rest_of : List ℕ → List ℕ
rest_of [] = []
rest_of (byte ∷ bytes) = bytes

flag_told : (a b : Bool) → flag_value a ≡ flag_value b → a ≡ b
flag_told true true is = refl
flag_told false false is = refl
flag_told true false is = none_stands 1 [] (sym is)
flag_told false true is = none_stands 1 [] is

text_told : (a b : Option (List ℕ)) → text_value a ≡ text_value b → a ≡ b
text_told None None is = refl
text_told None (Some y) is = none_stands 1 y is
text_told (Some x) None is = none_stands 1 x (sym is)
text_told (Some x) (Some y) is = ap (λ value. Some (rest_of value)) is

limit_told : (a b : Option ℕ) → limit_value a ≡ limit_value b → a ≡ b
limit_told None None is = refl
limit_told None (Some y) is = none_stands y [] is
limit_told (Some x) None is = none_stands x [] (sym is)
limit_told (Some x) (Some y) is = ap (λ value. Some (first_of value)) is

abbrev privacy_from : List ℕ → Privacy
privacy_from [] = Public
privacy_from (suc zero ∷ bytes) = Private
privacy_from (byte ∷ bytes) = Secret

privacy_back : (a : Privacy) → privacy_from (privacy_value a) ≡ a
privacy_back Public = refl
privacy_back Private = refl
privacy_back Secret = refl

privacy_told : (a b : Privacy) → privacy_value a ≡ privacy_value b → a ≡ b
privacy_told a b is = sym (privacy_back a) ∙ ap privacy_from is ∙ privacy_back b

-- ---- rows of tables

option_told : {X Y : Type 0} (f : X → Y) → ((x y : X) → f x ≡ f y → x ≡ y)
    → (a b : Option X) → option_map f a ≡ option_map f b → a ≡ b
option_told f told None None is = refl
option_told f told None (Some y) is = absurd (none-some (f y) is)
option_told f told (Some x) None is = absurd (none-some (f x) (sym is))
option_told f told (Some x) (Some y) is = ap Some (told x y (same_Some (f x) (f y) is))

table_told : {X Y : Type 0} (f : X → Y) → ((x y : X) → f x ≡ f y → x ≡ y)
    → (one other : Table X) → ((q : List ℕ) → option_map f (row one q)
    ≡ option_map f (row other q)) → one ≡ other
table_told f told one other alike =
    same_table one other (λ q. option_told f told (row one q) (row other q) (alike q))

-- ---- users and members

user_told : (a b : User) → user_row a ≡ user_row b → a ≡ b
user_told a b is =
    let is_invisible : a.invisible ≡ b.invisible =
    flag_told a.invisible b.invisible (ap (λ at. at (of_user invisible)) is) in
    let is_away : a.set.away ≡ b.set.away =
    text_told a.set.away b.set.away (ap (λ at. at (of_user away)) is) in
    λ i. record {
      nick = is i (of_user nickname);
      user = is i (of_user user_name);
      host = is i (of_user host);
      real = is i (of_user real_name);
      home = is i (of_user home);
      invisible = is_invisible i;
      set = record { away = is_away i };
    }

member_told : (a b : Flags) → member_row a ≡ member_row b → a ≡ b
member_told a b is =
    let is_op : a.op ≡ b.op = flag_told a.op b.op (ap (λ at. at (of_member operator)) is) in
    let is_voice : a.voice ≡ b.voice =
    flag_told a.voice b.voice (ap (λ at. at (of_member voice)) is) in
    λ i. record { op = is_op i; voice = is_voice i }

-- ---- channels

modes_told : (a b : Channel) → IsBanList a.modes.bans → IsBanList b.modes.bans
    → channel_row a ≡ channel_row b → a.modes ≡ b.modes
modes_told a b in_order in_order_too is =
    let at : (place : ChannelPlace)
    → channel_row a (of_channel place) ≡ channel_row b (of_channel place) =
    λ place. ap (λ row. row (of_channel place)) is in
    let is_invite_only = flag_told a.modes.invite_only b.modes.invite_only (at invite_only) in
    let is_moderated = flag_told a.modes.moderated b.modes.moderated (at moderated) in
    let is_no_outside = flag_told a.modes.no_outside b.modes.no_outside (at no_outside) in
    let is_locked = flag_told a.modes.topic_locked b.modes.topic_locked (at topic_locked) in
    let is_privacy = privacy_told a.modes.privacy b.modes.privacy (at privacy) in
    let is_key = text_told a.modes.key b.modes.key (at channel_key) in
    let is_limit = limit_told a.modes.limit b.modes.limit (at limit) in
    let are_bans = same_found a.modes.bans b.modes.bans in_order in_order_too (λ mask.
    text_told (find (same mask) a.modes.bans) (find (same mask) b.modes.bans) (at (ban mask))) in
    λ i. record {
      invite_only = is_invite_only i;
      moderated = is_moderated i;
      no_outside = is_no_outside i;
      topic_locked = is_locked i;
      privacy = is_privacy i;
      key = is_key i;
      limit = is_limit i;
      bans = are_bans i;
    }

-- ---- which channels are there

-- a table that has a key has a row at one
some_key : {X : Type 0} (members : Table X) (folds : List (List ℕ)) → keys members ≡ folds
    → is_nil folds ≡ false → (P : Type 0)
    → ((nick : List ℕ) → is_some (row members nick) ≡ true → P) → P
some_key members [] are some P then = absurd (true≢false some)
some_key members (fold ∷ folds) are some P then = then fold
    (sym (row-keys members fold) ∙ ap (list_any (same_fold fold)) are
    ∙ ap (λ b. b || list_any (same_fold fold) folds) (same_fold-refl fold))

-- a channel that has a member there is
channel_of_member : (nick : List ℕ) (there : Option Channel)
    → is_some (option_and_then (member_in nick) there) ≡ true → is_some there ≡ true
channel_of_member nick None is = is
channel_of_member nick (Some channel) is = refl

some_row : {X Y : Type 0} (f : X → Y) (o : Option X) → is_some (option_map f o) ≡ is_some o
some_row f None = refl
some_row f (Some x) = refl

there_too : (one other : Room) → IsWellFormed one → document one ≡ document other
    → (fold : List ℕ) → is_some (row one.channels fold) ≡ true
    → is_some (row other.channels fold) ≡ true
there_too one other formed is fold = by (row one.channels fold) refl
  where
    by : (here : Option Channel) → row one.channels fold ≡ here → is_some here ≡ true
        → is_some (row other.channels fold) ≡ true
    by None at there = absurd (false≢true there)
    by (Some channel) at there = some_key channel.members (keys channel.members) refl
        (formed.channels_sound fold channel at).some_member
        (is_some (row other.channels fold) ≡ true) (λ nick member.
        channel_of_member nick (row other.channels fold)
        (ap (λ (d : Document Place). is_some (d.member fold nick)) (sym is)
        ∙ ap (λ here. is_some (option_and_then (member_in nick) here)) at
        ∙ some_row member_row (row channel.members nick) ∙ member))

-- ---- the rooms

-- what a document has of a channel that is there
channel_told : (one other : Room) → document one ≡ document other → (fold : List ℕ)
    (left right : Channel) → row one.channels fold ≡ Some left
    → row other.channels fold ≡ Some right → channel_row left ≡ channel_row right
channel_told one other is fold left right at at_too =
    ap (λ there. option_map_or channel_row there blank_row) (sym at)
    ∙ ap (λ (d : Document Place). d.channel fold) is
    ∙ ap (λ there. option_map_or channel_row there blank_row) at_too

members_told : (one other : Room) → document one ≡ document other → (fold : List ℕ)
    (left right : Channel) → row one.channels fold ≡ Some left
    → row other.channels fold ≡ Some right → left.members ≡ right.members
members_told one other is fold left right at at_too =
    table_told member_row member_told left.members right.members (λ nick.
    ap (option_and_then (member_in nick)) (sym at)
    ∙ ap (λ (d : Document Place). d.member fold nick) is
    ∙ ap (option_and_then (member_in nick)) at_too)

pub documents_tell_rooms : DocumentsTellRooms
documents_tell_rooms one other formed formed_too within within_too is = record {
  users = table_told user_row user_told one.users other.users (λ nick.
      ap (λ (d : Document Place). d.user nick) is);
  there = λ fold. either (is_some (row one.channels fold)) (is_some (row other.channels fold))
      (there_too one other formed is fold) (there_too other one formed_too (sym is) fold);
  channels = λ fold left right at at_too.
      let told : channel_row left ≡ channel_row right =
      channel_told one other is fold left right at at_too in
      record {
        name = ap (λ at. at (of_channel spelling)) told;
        modes = modes_told left right (within.channels fold left at).modes.in_order
            (within_too.channels fold right at_too).modes.in_order told;
        topic = ap (λ at. at (of_channel topic)) told;
        members = members_told one other is fold left right at at_too;
      };
}
