-- A possible effect leaves a room well formed: one lemma for each effect.
use Rattle.std.proofs.Common.{◌≡◌, ℕ, Bool, true, false, cond, Option, Some, None, List, refl}
use Rattle.std.proofs.Common.{sym, ◌∙◌, ap, subst, is_some, unwrap_or, option_map}
use Rattle.std.specs.Option.{option_and_then}
use Rattle.std.specs.FinMap.{get-empty}
use Rattle.std.proofs.lemmas.Option.{same_Some, none-some}
use Rattle.std.specs.Cmp.{first_so, second_so}
use Rattle.irc_names.specs.Fold.{key}
use Rattle.irc_names.specs.Tables.{Table, fold_cmp, row, alter, each, moved}
use Rattle.irc_names.specs.TableLaws.{same_fold, one_fold, row-alter, row-each, row-moved}
use Rattle.irc_users.specs.declared.user.User.{User}
use Rattle.irc_users.specs.declared.user_change.UserChange.{UserChange}
use Rattle.irc_users.specs.UserTable.{with_nick, with_change}
use Rattle.irc_channels.specs.declared.channel.Channel.{Channel}
use Rattle.irc_channels.specs.Channels.{new_channel, joined, left, without_user, renamed}
use Rattle.irc_channels.specs.Channels.{invited_too, with_topic, all_changed}
use Rattle.irc_effects.specs.declared.effect.Effect.TheVariants.{AddUser, Rename, Quit, Join, Part}
use Rattle.irc_effects.specs.declared.effect.Effect.TheVariants.{Kick, ChangeModes, SetTopic, Say}
use Rattle.irc_effects.specs.declared.effect.Effect.TheVariants.{Invite, ChangeUser}
use Rattle.irc_effects.specs.Room.{Room, IsWellFormed, IsSoundRow}
use Rattle.irc_effects.specs.After.{after, alter_user, alter_channel}
use Rattle.irc_effects.specs.Laws.{AfterIsWellFormed, NoRoomIsWellFormed}
use Rattle.irc_effects.specs.Lemmas.SoundRows.{IsWithin, IsKnown, known, sound_more, left_sound}
use Rattle.irc_effects.specs.Lemmas.SoundRows.{without_sound, renamed_sound, joined_sound}
use Rattle.irc_effects.specs.Lemmas.SoundRows.{new_known, invited_sound, topic_sound}
use Rattle.irc_effects.specs.Lemmas.ModesKept.{same_rows, changed_sound}

-- each user's row stands under its nickname's fold
abbrev AreNamed : Table User → Type 0
AreNamed users = (nick : List ℕ) (user : User) → row users nick ≡ Some user → key user.nick ≡ nick

-- one channel's row is changed, and what it is then is sound
channel_altered : (room : Room) (name : List ℕ) (change : Option Channel → Option Channel)
    → IsWellFormed room → ((after : Channel) → change (row room.channels (key name)) ≡ Some after
    → IsSoundRow room.users (key name) after) → IsWellFormed (alter_channel name change room)
channel_altered room name change well here = record {
  users_named = well.users_named;
  channels_sound = λ fold channel is. by_fold fold channel (same_fold fold (key name)) refl
      (sym (row-alter (key name) change room.channels fold) ∙ is);
}
  where
    by_fold : (fold : List ℕ) (channel : Channel) (b : Bool) → same_fold fold (key name) ≡ b
        → cond b (change (row room.channels (key name))) (row room.channels fold) ≡ Some channel
        → IsSoundRow room.users fold channel
    by_fold fold channel true one is = subst (λ f. IsSoundRow room.users f channel)
        (sym (one_fold fold (key name) one)) (here channel is)
    by_fold fold channel false two is = well.channels_sound fold channel is

-- a change of the row that is there
there_altered : (room : Room) (name : List ℕ) (change : Channel → Option Channel)
    → IsWellFormed room → ((before after : Channel) → IsSoundRow room.users (key name) before
    → change before ≡ Some after → IsSoundRow room.users (key name) after)
    → IsWellFormed (alter_channel name (option_and_then change) room)
there_altered room name change well kept = channel_altered room name (option_and_then change) well
    (by_row (row room.channels (key name)) refl)
  where
    by_row : (o : Option Channel) → row room.channels (key name) ≡ o → (after : Channel)
        → option_and_then change o ≡ Some after → IsSoundRow room.users (key name) after
    by_row None at after is = absurd (none-some after is)
    by_row (Some before) at after is =
        kept before after (well.channels_sound (key name) before at) is

-- a change of the row that is there which never ends the channel
pub there_mapped : (room : Room) (name : List ℕ) (change : Channel → Channel) → IsWellFormed room
    → ((before : Channel) → IsSoundRow room.users (key name) before → IsSoundRow room.users
    (key name) (change before)) → IsWellFormed (alter_channel name (option_map change) room)
there_mapped room name change well kept =
    channel_altered room name (option_map change) well (by_row (row room.channels (key name)) refl)
  where
    by_row : (o : Option Channel) → row room.channels (key name) ≡ o → (after : Channel)
        → option_map change o ≡ Some after → IsSoundRow room.users (key name) after
    by_row None at after is = absurd (none-some after is)
    by_row (Some before) at after is =
        subst (IsSoundRow room.users (key name)) (same_Some (change before) after is)
        (kept before (well.channels_sound (key name) before at))

-- users and each channel's row are changed
all_altered : (room : Room) (users : Table User) (change : Channel → Option Channel)
    → IsWellFormed room → AreNamed users
    → ((fold : List ℕ) (before after : Channel) → IsSoundRow room.users fold before
    → change before ≡ Some after → IsSoundRow users fold after)
    → IsWellFormed (record { users = users; channels = each change room.channels })
all_altered room users change well named kept = record {
  users_named = named;
  channels_sound = λ fold channel is. by_row fold (row room.channels fold) refl channel
      (sym (row-each change room.channels fold) ∙ is);
}
  where
    by_row : (fold : List ℕ) (o : Option Channel) → row room.channels fold ≡ o → (after : Channel)
        → option_and_then change o ≡ Some after → IsSoundRow users fold after
    by_row fold None at after is = absurd (none-some after is)
    by_row fold (Some before) at after is =
        kept fold before after (well.channels_sound fold before at) is

-- one user's row is changed, and no user is gone
user_altered : (room : Room) (nick : List ℕ) (change : Option User → Option User)
    → IsWellFormed room → ((user : User) → change (row room.users (key nick)) ≡ Some user
    → key user.nick ≡ key nick) → IsWithin room.users (alter (key nick) change room.users)
    → IsWellFormed (alter_user nick change room)
user_altered room nick change well here within = record {
  users_named = λ fold user is. by_fold fold user (same_fold fold (key nick)) refl
      (sym (row-alter (key nick) change room.users fold) ∙ is);
  channels_sound = λ fold channel is. sound_more room.users (alter (key nick) change room.users)
      fold channel within (well.channels_sound fold channel is);
}
  where
    by_fold : (fold : List ℕ) (user : User) (b : Bool) → same_fold fold (key nick) ≡ b
        → cond b (change (row room.users (key nick))) (row room.users fold) ≡ Some user
        → key user.nick ≡ fold
    by_fold fold user true one is = here user is ∙ sym (one_fold fold (key nick) one)
    by_fold fold user false two is = well.users_named fold user is

put_within : {X : Type 0} (fold : List ℕ) (x : X) (table : Table X)
    → IsWithin table (alter fold (λ _. Some x) table)
put_within fold x table = record {
  at = λ q there. ap is_some (row-alter fold (λ _. Some x) table q)
      ∙ by_fold q (same_fold q fold) there;
}
  where
    by_fold : (q : List ℕ) (b : Bool) → is_some (row table q) ≡ true
        → is_some (cond b (Some x) (row table q)) ≡ true
    by_fold q true there = refl
    by_fold q false there = there

mapped_within : {X : Type 0} (fold : List ℕ) (f : X → X) (table : Table X)
    → IsWithin table (alter fold (option_map f) table)
mapped_within fold f table = record { at = λ q there. same_rows fold f table q ∙ there }

with_user : (room : Room) (user : User) → IsWellFormed room
    → IsWellFormed (alter_user user.nick (λ _. Some user) room)
with_user room user well =
    user_altered room user.nick (λ _. Some user) well
    (λ other is. ap (λ (u : User). key u.nick) (sym (same_Some user other is)))
    (put_within (key user.nick) user room.users)

with_mode : (room : Room) (nick : List ℕ) (change : UserChange) → IsWellFormed room
    → IsWellFormed (alter_user nick (option_map (with_change change)) room)
with_mode room nick change well =
    user_altered room nick (option_map (with_change change)) well
    (λ user is. by_row (row room.users (key nick)) refl user is)
    (mapped_within (key nick) (with_change change) room.users)
  where
    by_row : (o : Option User) → row room.users (key nick) ≡ o → (user : User)
        → option_map (with_change change) o ≡ Some user → key user.nick ≡ key nick
    by_row None at user is = absurd (none-some user is)
    by_row (Some before) at user is =
        ap (λ (u : User). key u.nick) (sym (same_Some (with_change change before) user is))
        ∙ well.users_named (key nick) before at

-- who is left when one user quits
quit_named : (users : Table User) (nick : List ℕ) → AreNamed users
    → AreNamed (alter nick (λ _. None) users)
quit_named users nick named fold user is =
    by_fold (same_fold fold nick) (sym (row-alter nick (λ _. None) users fold) ∙ is)
  where
    by_fold : (b : Bool) → cond b None (row users fold) ≡ Some user → key user.nick ≡ fold
    by_fold true is = absurd (none-some user is)
    by_fold false is = named fold user is

without_user_well : (room : Room) (nick : List ℕ) → IsWellFormed room
    → IsWellFormed (record {
      users = alter nick (λ _. None) room.users;
      channels = each (without_user nick) room.channels;
    })
without_user_well room nick well =
    all_altered room (alter nick (λ _. None) room.users) (without_user nick) well
    (quit_named room.users nick well.users_named)
    (λ fold before after sound is. without_sound room.users fold nick before after sound is)

-- users when one of them has another nickname
moved_named : (users : Table User) (old new : List ℕ) → AreNamed users
    → is_some (row users old) ≡ true → AreNamed (moved old (key new) (with_nick new) users)
moved_named users old new named there fold user is = by_row (row users old) refl there
  where
    by_fold : (x : User) (b c : Bool) → same_fold fold (key new) ≡ b → cond b
        (Some (with_nick new x)) (cond c None (row users fold)) ≡ Some user → key user.nick ≡ fold
    by_fold x true c one is = ap (λ (u : User). key u.nick)
        (sym (same_Some (with_nick new x) user is)) ∙ sym (one_fold fold (key new) one)
    by_fold x false true one is = absurd (none-some user is)
    by_fold x false false one is = named fold user is

    by_row : (o : Option User) → row users old ≡ o → is_some o ≡ true → key user.nick ≡ fold
    by_row None at there = cc
    by_row (Some x) at there =
        by_fold x (same_fold fold (key new)) (same_fold fold old) refl
        (sym (row-moved old (key new) (with_nick new) users x at fold) ∙ is)

renamed_well : (room : Room) (old new : List ℕ) → IsWellFormed room
    → is_some (row room.users old) ≡ true → IsWellFormed (record {
      users = moved old (key new) (with_nick new) room.users;
      channels = each (λ channel. Some (renamed old (key new) channel)) room.channels;
    })
renamed_well room old new well there =
    all_altered room (moved old (key new) (with_nick new) room.users)
    (λ channel. Some (renamed old (key new) channel)) well
    (moved_named room.users old new well.users_named there)
    (λ fold before after sound is.
    subst (IsSoundRow (moved old (key new) (with_nick new) room.users) fold)
    (same_Some (renamed old (key new) before) after is)
    (renamed_sound room.users fold old (key new) (with_nick new) before sound there))

-- a user joins a channel, which is made where it is not there
joined_well : (room : Room) (nick name : List ℕ) (op : Bool)
    → IsWellFormed room → is_some (row room.users nick) ≡ true → IsWellFormed
    (alter_channel name (λ c. Some (joined nick op (unwrap_or c (new_channel name)))) room)
joined_well room nick name op well there =
    channel_altered room name (λ c. Some (joined nick op (unwrap_or c (new_channel name)))) well
    (λ after is. subst (IsSoundRow room.users (key name)) (same_Some _ after is)
    (joined_sound room.users (key name) nick op _
    (found (row room.channels (key name)) refl) there))
  where
    found : (o : Option Channel) → row room.channels (key name) ≡ o
        → IsKnown room.users (key name) (unwrap_or o (new_channel name))
    found None at = new_known room.users name
    found (Some channel) at =
        known room.users (key name) channel (well.channels_sound (key name) channel at)

pub no_room_is_well_formed : NoRoomIsWellFormed
no_room_is_well_formed = record {
  users_named = λ nick user is. absurd (none-some user (sym (get-empty fold_cmp nick) ∙ is));
  channels_sound =
      λ fold channel is. absurd (none-some channel (sym (get-empty fold_cmp fold) ∙ is));
}

pub after_is_well_formed : AfterIsWellFormed
unfolding after
after_is_well_formed room (AddUser user) well possible = with_user room user well
after_is_well_formed room (Rename nick new) well possible =
    renamed_well room (key nick) new well (first_so _ true possible.users_there)
after_is_well_formed room (Quit nick text) well possible = without_user_well room (key nick) well
after_is_well_formed room (Join nick name op) well possible =
    joined_well room (key nick) name op well (first_so _ true possible.users_there)
after_is_well_formed room (Part nick name text) well possible =
    there_altered room name (left (key nick)) well
    (λ before after sound is. left_sound room.users (key name) (key nick) before after sound is)
after_is_well_formed room (Kick by name nick text) well possible =
    there_altered room name (left (key nick)) well
    (λ before after sound is. left_sound room.users (key name) (key nick) before after sound is)
after_is_well_formed room (ChangeModes by name changes) well possible =
    there_mapped room name (all_changed changes) well
    (λ before sound. changed_sound room.users (key name) changes before sound)
after_is_well_formed room (SetTopic by name text) well possible =
    there_mapped room name (with_topic text) well
    (λ before sound. topic_sound room.users (key name) text before sound)
after_is_well_formed room (Say by notice target text) well possible = well
after_is_well_formed room (Invite by nick name) well possible =
    there_mapped room name (invited_too (key nick)) well
    (λ before sound. invited_sound room.users (key name) (key nick) before sound
    (first_so _ true (second_so _ _ possible.users_there)))
after_is_well_formed room (ChangeUser nick change) well possible =
    with_mode room nick change well
