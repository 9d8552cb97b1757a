-- The deeds that are read of the lines of a burst can be done, and each of their effects does
-- something.
use Rattle.std.proofs.Common.{◌≡◌, ℕ, Bool, true, false, cond, not, ◌&&◌, Option, Some, None, List}
use Rattle.std.proofs.Common.{[], ◌∷◌, ◌++◌, refl, ◌∙◌, ap, is_some, option_map, if◌then◌else◌}
use Rattle.std.specs.List.{list_any, flat_map}
use Rattle.std.specs.FinMap.{keys}
use Rattle.std.specs.Option.{option_map_or}
use Rattle.irc_names.specs.Lemmas.PlainFacts.{is_some-map}
use Rattle.irc_names.specs.Fold.{key}
use Rattle.irc_names.specs.Tables.{row}
use Rattle.irc_names.specs.TableLaws.{row-alter_same}
use Rattle.irc_users.specs.declared.user.User.{User}
use Rattle.irc_users.specs.declared.user_change.UserChange.{UserChange}
use Rattle.irc_channels.specs.declared.flags.Flags.{Flags}
use Rattle.irc_modes.specs.declared.modes.ModeChange.{ModeChange}
use Rattle.irc_modes.specs.declared.modes.ModeLetter.TheVariants as letter
use Rattle.irc_channels.specs.declared.channel.Channel.{Channel}
use Rattle.irc_channels.specs.Channels.{all_changed}
use Rattle.irc_room.specs.effect.By.TheVariants as by
use Rattle.irc_room.specs.effect.Effect.{Effect}
use Rattle.irc_room.specs.effect.Effect.TheVariants.{AddUser, Quit, Join, ChangeModes, SetTopic}
use Rattle.irc_room.specs.effect.Effect.TheVariants.{ChangeUser}
use Rattle.irc_room.specs.Room.{Room, IsWellFormed}
use Rattle.irc_room.specs.Effects.{has_user, has_channel, is_member}
use Rattle.irc_room.specs.After.{after, titled_by}
use Rattle.irc_room.specs.InTurn.{after_all, EachInTurn}
use Rattle.irc_room.specs.InTurnLaws.{each-append, each-keeps}
use Rattle.irc_room.specs.Lemmas.WellFormedLaw.{after_is_well_formed}
use Rattle.irc_room.specs.Lemmas.RespelledRooms.{respelled_is_well_formed}
use Rattle.irc_merge.specs.Deeds.{Deed, does, gains, loses, kills, brings, sets, tops, flag_given}
use Rattle.irc_merge.specs.Deeds.{member_comes, changes_made, titled, effects_of, after_deed}
use Rattle.irc_merge.specs.Deeds.{after_deeds}
use Rattle.irc_merge.specs.Bursts.{home_passes}
use Rattle.irc_merge.specs.BurstRead.{is_new_member, new_members, brought, some_far}
use Rattle.irc_merge.specs.CanBeDone.{DoesSomething, DeedsDo}
use Rattle.irc_merge.specs.Lemmas.BooleanTests.{and_not}

-- ---- single effects

pub add_does : (room : Room) (user : User) → row room.users (key user.nick) ≡ None
    → DoesSomething room (AddUser user)
add_does room user none = record {
  possible = record {
    users_there = refl;
    channel_there = refl;
    nick_free = ap (λ p. not (is_some p)) none;
  };
  busy = refl;
}

one_there : (b : Bool) → b ≡ true → (b && true) ≡ true
one_there true e = refl
one_there false e = e

pub quit_does : (room : Room) (nick text : List ℕ) → has_user room nick ≡ true
    → DoesSomething room (Quit nick text)
quit_does room nick text there = record {
  possible = record {
    users_there = one_there (has_user room nick) there;
    channel_there = refl;
    nick_free = refl;
  };
  busy = refl;
}

pub own_does : (room : Room) (nick : List ℕ) (change : UserChange) → has_user room nick ≡ true
    → DoesSomething room (ChangeUser nick change)
own_does room nick change there = record {
  possible = record {
    users_there = one_there (has_user room nick) there;
    channel_there = refl;
    nick_free = refl;
  };
  busy = refl;
}

join_does : (room : Room) (nick channel : List ℕ) → has_user room nick ≡ true
    → is_member room nick channel ≡ false → DoesSomething room (Join nick channel false)
join_does room nick channel there outside = record {
  possible = record {
    users_there = one_there (has_user room nick) there;
    channel_there = refl;
    nick_free = refl;
  };
  busy = outside;
}

change_does : (room : Room) (channel : List ℕ) (changes : List ModeChange)
    → has_channel room channel ≡ true → DoesSomething room (ChangeModes by.Home channel changes)
change_does room channel changes there = record {
  possible = record {
    users_there = refl;
    channel_there = there;
    nick_free = refl;
  };
  busy = refl;
}

topic_does : (room : Room) (channel topic : List ℕ) → has_channel room channel ≡ true
    → DoesSomething room (SetTopic by.Home channel topic)
topic_does room channel topic there = record {
  possible = record {
    users_there = refl;
    channel_there = there;
    nick_free = refl;
  };
  busy = refl;
}

-- ---- a member comes

joined_there : (room : Room) (nick channel : List ℕ)
    → has_channel (after room (Join nick channel false)) channel ≡ true
unfolding after
joined_there room nick channel = ap is_some (row-alter_same (key channel) _ room.channels)

changed_there : (room : Room) (channel : List ℕ) (changes : List ModeChange)
    → has_channel room channel ≡ true
    → has_channel (after room (ChangeModes by.Home channel changes)) channel ≡ true
unfolding after
changed_there room channel changes there =
    ap is_some (row-alter_same (key channel) (option_map (all_changed changes)) room.channels)
    ∙ is_some-map (all_changed changes) (row room.channels (key channel))
    ∙ there

flags_do : (room : Room) (channel nick : List ℕ) (op voice : Bool)
    → has_channel room channel ≡ true → EachInTurn DoesSomething room
    (flag_given op letter.Operator channel nick ++ flag_given voice letter.Voice channel nick)
flags_do room channel nick false false there = tt
flags_do room channel nick true false there =
    record { now = change_does room channel _ there; later = tt }
flags_do room channel nick false true there =
    record { now = change_does room channel _ there; later = tt }
flags_do room channel nick true true there = record {
  now = change_does room channel _ there;
  later = record { now = change_does _ channel _ (changed_there room channel _ there); later = tt };
}

is_user : (far : List ℕ → Bool) (room : Room) (nick : List ℕ)
    → home_passes far room.users (key nick) ≡ true → has_user room nick ≡ true
is_user far room nick pass = by_row (row room.users (key nick)) pass
  where
    by_row : (o : Option User) → option_map_or (λ (user : User). far user.home) o false ≡ true
        → is_some o ≡ true
    by_row None pass = pass
    by_row (Some user) pass = refl

member_does : (far : List ℕ → Bool) (room : Room) (channel : List ℕ) (member : List ℕ × Flags)
    → is_new_member far room channel member ≡ true
    → EachInTurn DoesSomething room (member_comes channel member)
member_does far room channel member new =
    let parts =
    and_not (home_passes far room.users (key member.0)) (is_member room member.0 channel) new in
    record {
      now = join_does room member.0 channel (is_user far room member.0 parts.0) parts.1;
      later = flags_do (after room (Join member.0 channel false)) channel member.0 member.1.op
          member.1.voice (joined_there room member.0 channel);
    }

pub members_do : (far : List ℕ → Bool) (channel : List ℕ)
    (members : List (List ℕ × Flags)) (room : Room) → EachInTurn DoesSomething room
    (flat_map (member_comes channel) (new_members far room channel members))
members_do far channel [] room = tt
members_do far channel (member ∷ members) room =
    by_test (is_new_member far room channel member) refl
    (members_do far channel members (after_all room (member_comes channel member)))
    (members_do far channel members room)
  where
    by_test : (b : Bool) → is_new_member far room channel member ≡ b
        → EachInTurn DoesSomething (after_all room (member_comes channel member))
        (flat_map (member_comes channel)
        (new_members far (after_all room (member_comes channel member)) channel members))
        → EachInTurn DoesSomething room
        (flat_map (member_comes channel) (new_members far room channel members))
        → EachInTurn DoesSomething room (flat_map (member_comes channel)
        (cond b (member ∷ new_members far (after_all room (member_comes channel member)) channel
        members) (new_members far room channel members)))
    by_test true new more less =
        each-append DoesSomething room (member_comes channel member)
        (flat_map (member_comes channel)
        (new_members far (after_all room (member_comes channel member)) channel members))
        (member_does far room channel member new) more
    by_test false old more less = less

-- ---- a line

pub some_there : (far : List ℕ → Bool) (room : Room) (channel : List ℕ)
    → some_far far room channel ≡ true → has_channel room channel ≡ true
some_there far room channel some = by_row (row room.channels (key channel)) some
  where
    by_row : (o : Option Channel) → option_map_or (λ (c : Channel).
        list_any (home_passes far room.users) (keys c.members)) o false ≡ true → is_some o ≡ true
    by_row None some = some
    by_row (Some c) some = refl

pub brought_does : (server channel : List ℕ) (members : List (List ℕ × Flags)) (room : Room)
    → EachInTurn DoesSomething (titled_by channel room) (flat_map (member_comes channel) members)
    → DeedsDo room (brought server channel members)
brought_does server channel [] room all = tt
brought_does server channel (member ∷ members) room all = (all, tt)

-- what is raised of modes that are told, and a topic that is told where it is greater
pub changes_do : (room : Room) (channel : List ℕ) (changes : List ModeChange)
    → has_channel room channel ≡ true → EachInTurn DoesSomething room (changes_made channel changes)
changes_do room channel [] there = tt
changes_do room channel (change ∷ changes) there =
    record { now = change_does room channel (change ∷ changes) there; later = tt }

pub greater_does : (room : Room) (channel topic : List ℕ)
    → has_channel room channel ≡ true → (greater : Bool)
    → EachInTurn DoesSomething room (if greater then SetTopic by.Home channel topic ∷ [] else [])
greater_does room channel topic there true =
    record { now = topic_does room channel topic there; later = tt }
greater_does room channel topic there false = tt

-- ---- all lines

pub do-append : (room : Room) (a b : List Deed) → DeedsDo room a → DeedsDo (after_deeds room a) b
    → DeedsDo room (a ++ b)
do-append room [] b first second = second
do-append room (deed ∷ a) b first second =
    (first.0, do-append (after_deed room deed) a b first.1 second)

pub titled_well : (room : Room) (deed : Deed) → IsWellFormed room → IsWellFormed (titled room deed)
titled_well room (does effect) well = well
titled_well room (gains uplink name info) well = well
titled_well room (loses server name text) well = well
titled_well room (kills server nick) well = well
titled_well room (brings server channel members) well = respelled_is_well_formed channel room well
titled_well room (sets server channel changes) well = well
titled_well room (tops server channel topic) well = well

stays_well : (room : Room) (effects : List Effect) → EachInTurn DoesSomething room effects
    → IsWellFormed room → IsWellFormed (after_all room effects)
stays_well room effects done well =
    each-keeps DoesSomething IsWellFormed (λ r effect done well.
    after_is_well_formed r effect well done.possible) room effects done well

-- the room stays well formed
pub deeds_well : (room : Room) (deeds : List Deed) → DeedsDo room deeds → IsWellFormed room
    → IsWellFormed (after_deeds room deeds)
unfolding after_deed
deeds_well room [] done well = well
deeds_well room (deed ∷ deeds) done well =
    deeds_well (after_deed room deed) deeds done.1
    (stays_well (titled room deed) (effects_of room deed) done.0 (titled_well room deed well))
