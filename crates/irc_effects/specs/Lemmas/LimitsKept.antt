-- A room stays within its limits: one lemma for each way in which a table changes.
use Rattle.std.proofs.Common.{◌≡◌, ℕ, Bool, true, false, cond, if◌then◌else◌, Option, Some, None}
use Rattle.std.proofs.Common.{List, [], ◌∷◌, refl, sym, ◌∙◌, subst, unwrap_or, option_map, arith}
use Rattle.std.specs.List.{AllByRecursion}
use Rattle.std.specs.Option.{option_and_then, IfSome}
use Rattle.std.specs.FinMap.{empty, get-empty, keys}
use Rattle.std.proofs.lemmas.Option.{same_Some, none-some}
use Rattle.irc_names.specs.Fold.{key}
use Rattle.irc_names.specs.Names.{IsNick, IsChannel}
use Rattle.irc_names.specs.Tables.{Table, fold_cmp, row, alter, each, moved}
use Rattle.irc_names.specs.UserTexts.{IsAway}
use Rattle.irc_names.specs.TableLaws.{same_fold, row-alter, row-each, row-moved, row-moved_none}
use Rattle.irc_users.specs.declared.user.User.{User}
use Rattle.irc_users.specs.declared.user.UserSet.{UserSet}
use Rattle.irc_users.specs.declared.user_change.UserChange.{UserChange}
use Rattle.irc_users.specs.declared.user_change.UserChange.TheVariants.{Invisible, Away}
use Rattle.irc_users.specs.UserTable.{set_with, with_nick, with_change}
use Rattle.irc_modes.specs.declared.modes.ModeChange.{ModeChange}
use Rattle.irc_modes.specs.declared.modes.ModeLetter.TheVariants as letter
use Rattle.irc_modes.specs.declared.modes.ModeLetter.{ModeLetter}
use Rattle.irc_channels.specs.declared.channel.Channel.{Channel}
use Rattle.irc_modes.specs.Modes.{is_nil}
use Rattle.irc_channels.specs.Channels.{has_member, while_members, new_channel, joined, left}
use Rattle.irc_channels.specs.Channels.{without_user, renamed, invited_too, with_topic, all_changed}
use Rattle.irc_effects.specs.declared.effect.By.TheVariants as by
use Rattle.irc_effects.specs.declared.effect.Effect.TheVariants.{AddUser, Rename, Quit, Join, Part}
use Rattle.irc_effects.specs.declared.effect.Effect.TheVariants.{Kick, ChangeModes, SetTopic, Say}
use Rattle.irc_effects.specs.declared.effect.Effect.TheVariants.{Invite, ChangeUser}
use Rattle.irc_effects.specs.Room.{Room}
use Rattle.irc_effects.specs.Limits.{IsCarriedText, IsUserWithin, IsChannelWithin, IsBanCarried}
use Rattle.irc_effects.specs.Limits.{IsChangeWithin}
use Rattle.irc_effects.specs.Sendable.{IsNameFor, IsSentWord, IsSentChange}
use Rattle.irc_effects.specs.Seen.{names_member}
use Rattle.irc_effects.specs.After.{after}
use Rattle.irc_effects.specs.Laws.{NoRoomIsWithinLimits, AfterIsWithinLimits, SentKeepsLimits}
use Rattle.irc_effects.specs.Lemmas.ModesWithin.{same_within, changes_within}

-- ---- tables of which each row is something

abbrev pub AllRows : {X : Type 0} → (X → Type 0) → Table X → Type 0
AllRows {X = X} P table = (fold : List ℕ) (x : X) → row table fold ≡ Some x → P x

none_there : {X : Type 0} (P : X → Type 0) → AllRows P empty
none_there P fold x is = absurd (none-some x (sym (get-empty fold_cmp fold) ∙ is))

one_altered : {X : Type 0} (P : X → Type 0) (fold : List ℕ) (change : Option X → Option X)
    (table : Table X) → AllRows P table → ((x : X) → change (row table fold) ≡ Some x → P x)
    → AllRows P (alter fold change table)
one_altered {X = X} P fold change table all here q x is =
    by (same_fold q fold) (sym (row-alter fold change table q) ∙ is)
  where
    by : (b : Bool) → cond b (change (row table fold)) (row table q) ≡ Some x → P x
    by true is = here x is
    by false is = all q x is

-- a row that is there is changed, and perhaps taken out
there_altered : {X : Type 0} (P : X → Type 0) (fold : List ℕ)
    (change : X → Option X) (table : Table X) → AllRows P table
    → ((before after : X) → P before → change before ≡ Some after → P after)
    → AllRows P (alter fold (option_and_then change) table)
there_altered {X = X} P fold change table all kept =
    one_altered P fold (option_and_then change) table all (by (row table fold) refl)
  where
    by : (o : Option X) → row table fold ≡ o → (x : X) → option_and_then change o ≡ Some x → P x
    by None at x is = absurd (none-some x is)
    by (Some before) at x is = kept before x (all fold before at) is

pub there_mapped : {X : Type 0} (P : X → Type 0) (fold : List ℕ) (change : X → X) (table : Table X)
    → AllRows P table → ((before : X) → P before → P (change before))
    → AllRows P (alter fold (option_map change) table)
there_mapped {X = X} P fold change table all kept =
    one_altered P fold (option_map change) table all (by (row table fold) refl)
  where
    by : (o : Option X) → row table fold ≡ o → (x : X) → option_map change o ≡ Some x → P x
    by None at x is = absurd (none-some x is)
    by (Some before) at x is =
        subst P (same_Some (change before) x is) (kept before (all fold before at))

each_altered : {X : Type 0} (P : X → Type 0) (change : X → Option X) (table : Table X)
    → AllRows P table → ((before after : X) → P before → change before ≡ Some after → P after)
    → AllRows P (each change table)
each_altered {X = X} P change table all kept q x is =
    by (row table q) refl (sym (row-each change table q) ∙ is)
  where
    by : (o : Option X) → row table q ≡ o → option_and_then change o ≡ Some x → P x
    by None at is = absurd (none-some x is)
    by (Some before) at is = kept before x (all q before at) is

one_moved : {X : Type 0} (P : X → Type 0) (old new : List ℕ) (change : X → X) (table : Table X)
    → AllRows P table → ((before : X) → P before → P (change before))
    → AllRows P (moved old new change table)
one_moved {X = X} P old new change table all kept q x is = by_row (row table old) refl
  where
    by_fold : (before : X) → row table old ≡ Some before → (b c : Bool)
        → cond b (Some (change before)) (cond c None (row table q)) ≡ Some x → P x
    by_fold before at true c is =
        subst P (same_Some (change before) x is) (kept before (all old before at))
    by_fold before at false true is = absurd (none-some x is)
    by_fold before at false false is = all q x is

    by_row : (o : Option X) → row table old ≡ o → P x
    by_row None at = all q x (sym (row-moved_none old new change table at q) ∙ is)
    by_row (Some before) at = by_fold before at (same_fold q new) (same_fold q old)
        (sym (row-moved old new change table before at q) ∙ is)

-- ---- users

nick_within : (new : List ℕ) (user : User) → IsNick new → IsUserWithin user
    → IsUserWithin (with_nick new user)
nick_within new user is within = record {
  nick = is;
  name = within.name;
  name_some = within.name_some;
  host = within.host;
  real_fits = within.real_fits;
  real_carried = within.real_carried;
  home = within.home;
  away = within.away;
}

away_within : (change : UserChange) (was : UserSet) → IsChangeWithin change
    → IfSome was.away IsAway → IfSome (set_with change was).away IsAway
away_within (Invisible invisible) was keeps within = within
away_within (Away text) was keeps within = keeps

change_within : (change : UserChange) (user : User) → IsChangeWithin change → IsUserWithin user
    → IsUserWithin (with_change change user)
change_within change user keeps within = record {
  nick = within.nick;
  name = within.name;
  name_some = within.name_some;
  host = within.host;
  real_fits = within.real_fits;
  real_carried = within.real_carried;
  home = within.home;
  away = away_within change user.set keeps within.away;
}

-- ---- channels

new_within : (name : List ℕ) → IsChannel name → IsChannelWithin (new_channel name)
new_within name is = record {
  name = is;
  topic = record { fits = omega arith; carried = refl };
  modes = record { key = tt; limit = tt; in_order = refl; masks = refl };
  bans_carried = refl;
}

-- a channel that is kept while it has members
while_within : (channel after : Channel) → IsChannelWithin channel
    → while_members channel ≡ Some after → IsChannelWithin after
while_within channel after within is = by (is_nil (keys channel.members)) is
  where
    by : (b : Bool) → (if b then None else Some channel) ≡ Some after → IsChannelWithin after
    by true is = absurd (none-some after is)
    by false is = subst IsChannelWithin (same_Some channel after is) within

left_within : (nick : List ℕ) (before after : Channel) → IsChannelWithin before
    → left nick before ≡ Some after → IsChannelWithin after
left_within nick before after within is = by (has_member nick before) is
  where
    by : (b : Bool) → (if b then while_members (record before {
      members = alter nick
          (λ _. None) before.members;
    }) else Some before) ≡ Some after → IsChannelWithin after
    by true is = while_within (record before { members = alter nick (λ _. None) before.members })
        after (same_within before _ refl refl refl within) is
    by false is = subst IsChannelWithin (same_Some before after is) within

gone_within : (nick : List ℕ) (before after : Channel) → IsChannelWithin before
    → without_user nick before ≡ Some after → IsChannelWithin after
gone_within nick before after within is =
    while_within (record before {
      members = alter nick (λ _. None) before.members;
      invited = alter nick (λ _. None) before.invited;
    }) after
    (same_within before _ refl refl refl within) is

joined_within : (nick : List ℕ) (op : Bool) (channel : Channel) → IsChannelWithin channel
    → IsChannelWithin (joined nick op channel)
joined_within nick op channel within = by (has_member nick channel)
  where
    by : (b : Bool) → IsChannelWithin (if b then channel else record channel {
      members = alter nick (λ _. Some (record { op = op; voice = false })) channel.members;
      invited = alter nick (λ _. None) channel.invited;
    })
    by true = within
    by false = same_within channel _ refl refl refl within

topic_within : (topic : List ℕ) (channel : Channel) → IsCarriedText topic → IsChannelWithin channel
    → IsChannelWithin (with_topic topic channel)
topic_within topic channel is within = record {
  name = within.name;
  topic = is;
  modes = within.modes;
  bans_carried = within.bans_carried;
}

-- the channel that a user joins
found_within : (name : List ℕ) (table : Table Channel)
    → IsChannel name → AllRows IsChannelWithin table
    → IsChannelWithin (unwrap_or (row table (key name)) (new_channel name))
found_within name table is all = by (row table (key name)) refl
  where
    by : (o : Option Channel) → row table (key name) ≡ o
        → IsChannelWithin (unwrap_or o (new_channel name))
    by None at = new_within name is
    by (Some channel) at = all (key name) channel at

-- ---- the room

pub no_room_is_within_limits : NoRoomIsWithinLimits
no_room_is_within_limits =
    record { users = none_there IsUserWithin; channels = none_there IsChannelWithin }

pub after_is_within_limits : AfterIsWithinLimits
unfolding after
after_is_within_limits room (AddUser user) within keeps = record {
  users = one_altered IsUserWithin (key user.nick) (λ _. Some user) room.users within.users
      (λ x is. subst IsUserWithin (same_Some user x is) keeps);
  channels = within.channels;
}
after_is_within_limits room (Rename nick new) within keeps = record {
  users = one_moved IsUserWithin (key nick) (key new) (with_nick new) room.users within.users
      (λ before is. nick_within new before keeps is);
  channels = each_altered IsChannelWithin
      (λ channel. Some (renamed (key nick) (key new) channel)) room.channels within.channels
      (λ before after is at. subst IsChannelWithin
      (same_Some (renamed (key nick) (key new) before) after at)
      (same_within before (renamed (key nick) (key new) before) refl refl refl is));
}
after_is_within_limits room (Quit nick text) within keeps = record {
  users = one_altered IsUserWithin (key nick) (λ _. None) room.users within.users
      (λ x is. absurd (none-some x is));
  channels = each_altered IsChannelWithin (without_user (key nick)) room.channels within.channels
      (gone_within (key nick));
}
after_is_within_limits room (Join nick channel op) within keeps = record {
  users = within.users;
  channels = one_altered IsChannelWithin (key channel) (λ c. Some
      (joined (key nick) op (unwrap_or c (new_channel channel)))) room.channels within.channels
      (λ x is. subst IsChannelWithin (same_Some _ x is) (joined_within (key nick) op _
      (found_within channel room.channels keeps within.channels)));
}
after_is_within_limits room (Part nick channel text) within keeps = record {
  users = within.users;
  channels = there_altered IsChannelWithin (key channel)
      (left (key nick)) room.channels within.channels (left_within (key nick));
}
after_is_within_limits room (Kick by channel nick text) within keeps = record {
  users = within.users;
  channels = there_altered IsChannelWithin (key channel)
      (left (key nick)) room.channels within.channels (left_within (key nick));
}
after_is_within_limits room (ChangeModes by channel changes) within keeps = record {
  users = within.users;
  channels =
      there_mapped IsChannelWithin (key channel) (all_changed changes) room.channels within.channels
      (λ before is. changes_within changes before keeps is);
}
after_is_within_limits room (SetTopic by channel text) within keeps = record {
  users = within.users;
  channels = there_mapped IsChannelWithin (key channel) (with_topic text) room.channels
      within.channels (λ before is. topic_within text before keeps is);
}
after_is_within_limits room (Say by notice to text) within keeps = within
after_is_within_limits room (Invite by nick channel) within keeps = record {
  users = within.users;
  channels = there_mapped IsChannelWithin (key channel)
      (invited_too (key nick)) room.channels within.channels
      (λ before is. same_within before (invited_too (key nick) before) refl refl refl is);
}
after_is_within_limits room (ChangeUser nick change) within keeps = record {
  users = there_mapped IsUserWithin (key nick) (with_change change) room.users within.users
      (λ before is. change_within change before keeps is);
  channels = within.channels;
}

-- ---- what can be sent

-- a name for a channel keeps the rule, where the channel that was found does
named : (name : List ℕ) (o : Option Channel)
    → ((channel : Channel) → o ≡ Some channel → IsChannelWithin channel) → IsNameFor name o
    → IsChannel name
named name None within is = is
named name (Some channel) within is = subst IsChannel is (within channel refl).name

ban_carried : (room : Room) (which : ModeLetter) (word : Option (List ℕ))
    → IfSome word (IsSentWord room (names_member which)) → IsBanCarried which word
ban_carried room letter.Ban None sent = tt
ban_carried room letter.Ban (Some word) sent = sent
ban_carried room letter.InviteOnly word sent = tt
ban_carried room letter.Moderated word sent = tt
ban_carried room letter.NoOutside word sent = tt
ban_carried room letter.TopicLocked word sent = tt
ban_carried room letter.Private word sent = tt
ban_carried room letter.Secret word sent = tt
ban_carried room letter.Key word sent = tt
ban_carried room letter.Limit word sent = tt
ban_carried room letter.Operator word sent = tt
ban_carried room letter.Voice word sent = tt

bans_carried : (room : Room) (changes : List ModeChange)
    → AllByRecursion (IsSentChange room) changes
    → AllByRecursion (λ (c : ModeChange). IsBanCarried c.letter c.word) changes
bans_carried room [] sent = tt
bans_carried room (c ∷ changes) sent =
    (ban_carried room c.letter c.word sent.0, bans_carried room changes sent.1)

pub sent_keeps_limits : SentKeepsLimits
sent_keeps_limits room (AddUser user) within sent = sent.within
sent_keeps_limits room (Rename nick new) within sent = sent.new_named
sent_keeps_limits room (Join nick channel op) within sent =
    named channel (row room.channels (key channel))
    (within.channels (key channel)) sent.channel_named
sent_keeps_limits room (ChangeModes (by.User nick) channel changes) within sent =
    bans_carried room changes sent.words_sent
sent_keeps_limits room (ChangeModes by.Home channel changes) within sent = absurd sent
sent_keeps_limits room (SetTopic (by.User nick) channel text) within sent = sent.text_within
sent_keeps_limits room (SetTopic by.Home channel text) within sent = absurd sent
sent_keeps_limits room (ChangeUser nick change) within sent = sent.keeps
sent_keeps_limits room other within sent = tt
