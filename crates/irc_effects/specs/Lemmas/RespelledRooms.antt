-- A room in which the name of a channel was spelled in the greater of two ways: what it is then,
-- by its rows.
use Rattle.std.proofs.Common.{◌≡◌, ◌≢◌, ℕ, Bool, true, false, cond, Option, Some, None, List, refl}
use Rattle.std.proofs.Common.{sym, ◌∙◌, ap, is_some, option_map, if◌then◌else◌}
use Rattle.std.specs.Ordering.{is_lt}
use Rattle.std.specs.Option.{option_and_then, option_map_or}
use Rattle.irc_names.specs.Fold.{key}
use Rattle.irc_names.specs.Greater.{bytes_cmp, greater}
use Rattle.irc_names.specs.GreaterLaws.{greater-itself}
use Rattle.irc_names.specs.Names.{IsChannel}
use Rattle.irc_names.specs.Tables.{Table, row}
use Rattle.irc_names.specs.TableLaws.{same_fold, one_fold, row-alter, row-alter_same}
use Rattle.irc_names.specs.TableLaws.{row-alter_other}
use Rattle.irc_users.specs.declared.user.User.{User}
use Rattle.irc_channels.specs.declared.channel.Channel.{Channel}
use Rattle.irc_channels.specs.Channels.{has_member, is_invited, respelled}
use Rattle.irc_effects.specs.Room.{Room, IsSoundRow}
use Rattle.irc_effects.specs.Effects.{has_channel, needs_channel}
use Rattle.irc_effects.specs.After.{titled_by}
use Rattle.irc_effects.specs.Limits.{IsChannelWithin}
use Rattle.irc_effects.specs.Invitations.{is_at, of_home}
use Rattle.irc_effects.specs.OtherInvitations.{uninviting}
use Rattle.irc_effects.specs.Respelled.{unnamed, RespelledIsWellFormed, RespelledIsWithinLimits}
use Rattle.irc_effects.specs.Respelled.{OneRowRespelled, AllElseStays, RespelledOnce}
use Rattle.irc_effects.specs.Respelled.{HomeIsRespelled, AlikeAreRespelledAlike}
use Rattle.irc_effects.specs.Lemmas.Rows.{alter_same}
use Rattle.irc_effects.specs.Lemmas.WellFormedLaw.{there_mapped as channel_mapped}
use Rattle.irc_effects.specs.Lemmas.LimitsKept.{there_mapped as row_mapped}
use Rattle.irc_effects.specs.Lemmas.InvitingOnly.{keeping}
use Rattle.irc_effects.specs.Lemmas.HomeLaw.{only_altered}

-- ---- one name

-- the greater of two is one of them
greater_keeps : (P : List ℕ → Type 0) (one other : List ℕ) → P one → P other
    → P (greater bytes_cmp one other)
greater_keeps P one other of_one of_other = by (is_lt (bytes_cmp one other))
  where
    by : (b : Bool) → P (if b then other else one)
    by true = of_other
    by false = of_one

-- the other makes no difference any more
greater_again : (one other : List ℕ)
    → greater bytes_cmp (greater bytes_cmp one other) other ≡ greater bytes_cmp one other
greater_again one other = by (is_lt (bytes_cmp one other)) refl
  where
    by : (b : Bool) → is_lt (bytes_cmp one other) ≡ b
        → greater bytes_cmp (if b then other else one) other ≡ (if b then other else one)
    by true lesser = greater-itself bytes_cmp other
    by false is = ap (λ t. if t then other else one) is

-- ---- one channel

respelled_sound : (users : Table User) (name : List ℕ) (channel : Channel)
    → IsSoundRow users (key name) channel → IsSoundRow users (key name) (respelled name channel)
respelled_sound users name channel sound = record {
  named = greater_keeps (λ n. key n ≡ key name) channel.name name sound.named refl;
  members_known = sound.members_known;
  invited_known = sound.invited_known;
  some_member = sound.some_member;
}

respelled_within : (name : List ℕ) (channel : Channel) → IsChannel name → IsChannelWithin channel
    → IsChannelWithin (respelled name channel)
respelled_within name channel is within = record {
  name = greater_keeps IsChannel channel.name name within.name is;
  topic = within.topic;
  modes = within.modes;
  bans_carried = within.bans_carried;
}

respelled_again : (name : List ℕ) (found : Option Channel)
    → option_map (respelled name) (option_map (respelled name) found)
    ≡ option_map (respelled name) found
respelled_again name None = refl
respelled_again name (Some channel) =
    ap (λ n. Some (record channel { name = n })) (greater_again channel.name name)

respelled_only : (stays : List ℕ → Bool) (name : List ℕ) (found : Option Channel)
    → option_and_then (keeping stays) (option_map (respelled name) found)
    ≡ option_map (respelled name) (option_and_then (keeping stays) found)
respelled_only stays name None = refl
respelled_only stays name (Some channel) = refl

uninviting_respelled : (name : List ℕ) (found : Option Channel)
    → option_map uninviting (option_map (respelled name) found)
    ≡ option_map (respelled name) (option_map uninviting found)
uninviting_respelled name None = refl
uninviting_respelled name (Some channel) = refl

unnamed_respelled : (name : List ℕ) (found : Option Channel)
    → option_map unnamed (option_map (respelled name) found) ≡ option_map unnamed found
unnamed_respelled name None = refl
unnamed_respelled name (Some channel) = refl

-- ---- the room

pub respelled_is_well_formed : RespelledIsWellFormed
respelled_is_well_formed name room well =
    channel_mapped room name (respelled name) well (respelled_sound room.users name)

pub respelled_is_within_limits : RespelledIsWithinLimits
respelled_is_within_limits name room is within = record {
  users = within.users;
  channels =
      row_mapped IsChannelWithin (key name) (respelled name) room.channels within.channels
      (λ before so. respelled_within name before is so);
}

pub one_row_respelled : OneRowRespelled
one_row_respelled name room = record {
  here = row-alter_same (key name) (option_map (respelled name)) room.channels;
  elsewhere = λ fold apart.
      row-alter_other (key name) (option_map (respelled name)) room.channels fold
      (by_fold fold apart (same_fold fold (key name)) refl);
}
  where
    by_fold : (fold : List ℕ) → fold ≢ key name → (b : Bool) → same_fold fold (key name) ≡ b
        → b ≡ false
    by_fold fold apart true one = absurd (apart (one_fold fold (key name) one))
    by_fold fold apart false two = refl

-- all of each channel but its name is as it was
unnamed_stays : (name : List ℕ) (room : Room) (fold : List ℕ)
    → option_map unnamed (row (titled_by name room).channels fold)
    ≡ option_map unnamed (row room.channels fold)
unnamed_stays name room fold =
    ap (option_map unnamed) (row-alter (key name) (option_map (respelled name)) room.channels fold)
    ∙ by_fold (same_fold fold (key name)) refl
  where
    here : Option Channel
    here = row room.channels (key name)

    by_fold : (b : Bool) → same_fold fold (key name) ≡ b
        → option_map unnamed (cond b (option_map (respelled name) here) (row room.channels fold))
        ≡ option_map unnamed (row room.channels fold)
    by_fold true one =
        unnamed_respelled name here
        ∙ ap (λ q. option_map unnamed (row room.channels q)) (sym (one_fold fold (key name) one))
    by_fold false two = refl

-- whatever is asked of a channel without a look at its name is answered as it was
pub asked_unnamed : {X : Type 0} (asks : Option Channel → X)
    → ((found : Option Channel) → asks (option_map unnamed found) ≡ asks found)
    → (name : List ℕ) (room : Room) (fold : List ℕ)
    → asks (row (titled_by name room).channels fold) ≡ asks (row room.channels fold)
asked_unnamed asks blind name room fold =
    sym (blind (row (titled_by name room).channels fold))
    ∙ ap asks (unnamed_stays name room fold)
    ∙ blind (row room.channels fold)

has_unnamed : (found : Option Channel) → is_some (option_map unnamed found) ≡ is_some found
has_unnamed None = refl
has_unnamed (Some channel) = refl

-- a test of a channel, and a part of it, that do not look at its name
tests_unnamed : (test : Channel → Bool)
    → ((channel : Channel) → test (unnamed channel) ≡ test channel) → (found : Option Channel)
    → option_map_or test (option_map unnamed found) false ≡ option_map_or test found false
tests_unnamed test blind None = refl
tests_unnamed test blind (Some channel) = blind channel

part_unnamed : {X : Type 0} (part : Channel → Option X)
    → ((channel : Channel) → part (unnamed channel) ≡ part channel) → (found : Option Channel)
    → option_and_then part (option_map unnamed found) ≡ option_and_then part found
part_unnamed part blind None = refl
part_unnamed part blind (Some channel) = blind channel

pub all_else_stays : AllElseStays
all_else_stays name room = record {
  users = refl;
  channels = unnamed_stays name room;
  there = record {
    user = λ nick. refl;
    channel = channel_there;
    member = λ nick of. test_there (has_member (key nick)) (λ channel. refl) (key of);
  };
  flags = λ nick fold.
      let flags = λ (c : Channel). row c.members nick in
      asked_unnamed (option_and_then flags) (part_unnamed flags (λ c. refl)) name room fold;
  invited = λ nick. test_there (is_invited nick) (λ channel. refl);
  possible = λ effect possible. record {
    users_there = possible.users_there;
    channel_there =
        (λ i. option_map_or (λ n. channel_there n i) (needs_channel effect) true)
        ∙ possible.channel_there;
    nick_free = possible.nick_free;
  };
}
  where
    channel_there : (other : List ℕ)
        → has_channel (titled_by name room) other ≡ has_channel room other
    channel_there other = asked_unnamed (λ found. is_some found) has_unnamed name room (key other)

    test_there : (test : Channel → Bool)
        → ((channel : Channel) → test (unnamed channel) ≡ test channel) → (fold : List ℕ)
        → option_map_or test (row (titled_by name room).channels fold) false
        ≡ option_map_or test (row room.channels fold) false
    test_there test blind =
        asked_unnamed (λ found. option_map_or test found false) (tests_unnamed test blind)
        name room

pub respelled_once : RespelledOnce
respelled_once name room =
    let there = row-alter_same (key name) (option_map (respelled name)) room.channels in
    ap (λ (channels : Table Channel). record room { channels = channels })
    (alter_same (key name) (option_map (respelled name)) (titled_by name room).channels
    (ap (option_map (respelled name)) there
    ∙ respelled_again name (row room.channels (key name)) ∙ sym there))

-- ---- who is invited

pub home_is_respelled : HomeIsRespelled
unfolding of_home
home_is_respelled home name room =
    let stays = is_at home room.users in
    only_altered stays name (option_map (respelled name)) room (respelled_only stays name)

pub alike_are_respelled_alike : AlikeAreRespelledAlike
alike_are_respelled_alike name room other alike = record {
  users = alike.users;
  channels = λ fold.
      ap (option_map uninviting) (row-alter (key name) change room.channels fold)
      ∙ by_fold fold (same_fold fold (key name))
      ∙ ap (option_map uninviting) (sym (row-alter (key name) change other.channels fold));
}
  where
    change : Option Channel → Option Channel
    change = option_map (respelled name)

    here : Option Channel
    here = row room.channels (key name)

    there : Option Channel
    there = row other.channels (key name)

    by_fold : (fold : List ℕ) (b : Bool)
        → option_map uninviting (cond b (change here) (row room.channels fold))
        ≡ option_map uninviting (cond b (change there) (row other.channels fold))
    by_fold fold true =
        uninviting_respelled name here
        ∙ ap change (alike.channels (key name))
        ∙ sym (uninviting_respelled name there)
    by_fold fold false = alike.channels fold
