-- What is a user's own has the names of who is there, as they are stored: so it can be sent where
-- the texts that it carries can.
use Rattle.std.proofs.Common.{◌≡◌, ℕ, Bool, true, false, cond, is_some, Option, Some, None, List}
use Rattle.std.proofs.Common.{[], ◌∷◌, refl, sym, ◌∙◌, ap, subst}
use Rattle.std.specs.Option.{option_map}
use Rattle.irc_names.specs.Fold.{key}
use Rattle.irc_names.specs.Names.{is_channel}
use Rattle.irc_names.specs.Tables.{Table, row, alter}
use Rattle.irc_names.specs.TableLaws.{same_fold, one_fold, row-alter}
use Rattle.irc_users.specs.declared.user.User.{User}
use Rattle.irc_users.specs.declared.user_change.UserChange.{UserChange}
use Rattle.irc_users.specs.UserTable.{with_change}
use Rattle.irc_channels.specs.declared.channel.Channel.{Channel}
use Rattle.irc_room.specs.effect.Effect.{Effect}
use Rattle.irc_room.specs.Room.{Room, IsWellFormed}
use Rattle.irc_room.specs.After.{after}
use Rattle.irc_room.specs.InTurn.{EachInTurn}
use Rattle.irc_room.specs.Sendable.{IsStoredNick, IsStoredChannel, IsNameFor, IsChannelOrNew}
use Rattle.irc_room.specs.Sendable.{IsSendable}
use Rattle.irc_room.specs.Lemmas.WellFormedLaw.{after_is_well_formed}
use Rattle.irc_acts.specs.declared.act.Act.{Act}
use Rattle.irc_acts.specs.Acts.{effects_among}
use Rattle.irc_acts.specs.Own.{IsChannelName, of_found, by_rule, IsOwn, to_user, to_channel, makes}
use Rattle.irc_acts.specs.Own.{enters, parts, sets_topic, kicks, invites, changes_modes}
use Rattle.irc_acts.specs.Own.{changes_itself, AreOwn}
use Rattle.irc_acts.specs.OwnLaws.{own_possible}
use Rattle.irc_acts.specs.Sendable.{AreSendable, CarriesSendable, CarrySendable}

-- ---- names of who is there

abbrev nick_in : Option User → Option (List ℕ)
nick_in found = option_map (λ (user : User). user.nick) found

pub nick_stored : (room : Room) → IsWellFormed room → (fold : List ℕ) (found : User)
    → row room.users fold ≡ Some found → IsStoredNick room found.nick
nick_stored room well fold found is =
    ap (λ k. nick_in (row room.users k)) (well.users_named fold found is) ∙ ap nick_in is

channel_at : (room : Room) → IsWellFormed room → (fold : List ℕ) (found : Channel)
    → row room.channels fold ≡ Some found
    → row room.channels (key found.name) ≡ Some found
channel_at room well fold found is =
    ap (row room.channels) ((well.channels_sound fold found is).named) ∙ is

channel_stored : (room : Room) → IsWellFormed room → (fold : List ℕ) (found : Channel)
    → row room.channels fold ≡ Some found → IsStoredChannel room found.name
channel_stored room well fold found is =
    ap (option_map (λ (channel : Channel). channel.name)) (channel_at room well fold found is)

name_found : (room : Room) → IsWellFormed room → (fold : List ℕ) (found : Channel)
    → row room.channels fold ≡ Some found → IsChannelOrNew room found.name
name_found room well fold found is =
    subst (IsNameFor found.name) (sym (channel_at room well fold found is)) refl

name_new : (room : Room) (name : List ℕ) → is_channel name ≡ true
    → row room.channels (key name) ≡ None → IsChannelOrNew room name
name_new room name named none = subst (IsNameFor name) (sym none) named

channel_named : (room : Room) → IsWellFormed room → (name : List ℕ) → IsChannelName room name
    → IsChannelOrNew room name
channel_named room well name (of_found given channel is) =
    name_found room well (key given) channel is
channel_named room well name (by_rule given named none) = name_new room given named none

stored_is_there : (nick : List ℕ) (found : Option User) → nick_in found ≡ Some nick
    → is_some found ≡ true
stored_is_there nick None is = cc is
stored_is_there nick (Some user) is = refl

-- ---- what is a user's own

own_sendable : (me : User) (room : Room) (effect : Effect) → IsWellFormed room
    → IsStoredNick room me.nick → IsOwn me room effect → CarriesSendable room effect
    → IsSendable room effect
own_sendable me room effect well mine (to_user name other notice words is) carries = record {
  by_stored = mine;
  target_stored = nick_stored room well (key name) other is;
  text_carried = carries.text_carried;
  line_fits = carries.line_fits;
}
own_sendable me room effect well mine (to_channel name channel notice words is) carries = record {
  by_stored = mine;
  target_stored = channel_stored room well (key name) channel is;
  text_carried = carries.text_carried;
  line_fits = carries.line_fits;
}
own_sendable me room effect well mine (makes name named none) carries =
    record { nick_stored = mine; channel_named = name_new room name named none }
own_sendable me room effect well mine (enters name channel is outside) carries =
    record { nick_stored = mine; channel_named = name_found room well (key name) channel is }
own_sendable me room effect well mine (parts name text channel is member) carries =
    record {
      nick_stored = mine;
      channel_stored = channel_stored room well (key name) channel is;
      text_within = carries;
    }
own_sendable me room effect well mine (sets_topic name text channel is) carries =
    record {
      by_stored = mine;
      channel_stored = channel_stored room well (key name) channel is;
      text_within = carries;
    }
own_sendable me room effect well mine
    (kicks name nick text channel other is member known) carries = record {
      by_stored = mine;
      channel_stored = channel_stored room well (key name) channel is;
      nick_stored = nick_stored room well (key nick) other known;
      text_within = carries;
    }
own_sendable me room effect well mine (invites nick name other is named) carries = record {
  by_stored = mine;
  nick_stored = nick_stored room well (key nick) other is;
  channel_named = channel_named room well name named;
}
own_sendable me room effect well mine (changes_modes name changes channel is) carries = record {
  by_stored = mine;
  channel_stored = channel_stored room well (key name) channel is;
  changes_readable = carries.changes_readable;
  words_sent = carries.words_sent;
}
own_sendable me room effect well mine (changes_itself change) carries =
    record { nick_stored = mine; keeps = carries }

-- nicknames stay as they are stored

nick_still : (change : UserChange) (found : Option User)
    → nick_in (option_map (with_change change) found) ≡ nick_in found
nick_still change None = refl
nick_still change (Some user) = refl

nicks_still : (change : UserChange) (users : Table User) (fold q : List ℕ)
    → nick_in (row (alter fold (option_map (with_change change)) users) q)
    ≡ nick_in (row users q)
nicks_still change users fold q =
    ap nick_in (row-alter fold (option_map (with_change change)) users q)
    ∙ by (same_fold q fold) refl
  where
    by : (b : Bool) → same_fold q fold ≡ b
        → nick_in (cond b (option_map (with_change change) (row users fold)) (row users q))
        ≡ nick_in (row users q)
    by true one =
        nick_still change (row users fold)
        ∙ ap (λ k. nick_in (row users k)) (sym (one_fold q fold one))
    by false two = refl

own_keeps_stored : (me : User) (room : Room) (effect : Effect) → IsOwn me room effect
    → (nick : List ℕ) → IsStoredNick room nick → IsStoredNick (after room effect) nick
unfolding after
own_keeps_stored me room effect (to_user name other notice words is) nick stored = stored
own_keeps_stored me room effect (to_channel name channel notice words is) nick stored = stored
own_keeps_stored me room effect (makes name named none) nick stored = stored
own_keeps_stored me room effect (enters name channel is outside) nick stored = stored
own_keeps_stored me room effect (parts name text channel is member) nick stored = stored
own_keeps_stored me room effect (sets_topic name text channel is) nick stored = stored
own_keeps_stored me room effect (kicks name by text channel other is member known) nick stored =
    stored
own_keeps_stored me room effect (invites by name other is named) nick stored = stored
own_keeps_stored me room effect (changes_modes name changes channel is) nick stored = stored
own_keeps_stored me room effect (changes_itself change) nick stored =
    nicks_still change room.users (key me.nick) (key nick) ∙ stored

each_sendable : (me : User) (room : Room) (effects : List Effect) → IsWellFormed room
    → IsStoredNick room me.nick → EachInTurn (IsOwn me) room effects
    → EachInTurn CarriesSendable room effects → EachInTurn IsSendable room effects
each_sendable me room [] well mine own carries = tt
each_sendable me room (effect ∷ effects) well mine own carries =
    let there = stored_is_there me.nick (row room.users (key me.nick)) mine in
    record {
      now = own_sendable me room effect well mine own.now carries.now;
      later = each_sendable me (after room effect) effects
          (after_is_well_formed room effect well (own_possible me room effect well there own.now))
          (own_keeps_stored me room effect own.now me.nick mine) own.later carries.later;
    }

pub own_are_sendable : (me : User) (room : Room) (acts : List Act) → IsWellFormed room
    → IsStoredNick room me.nick → AreOwn me room acts → CarrySendable room acts
    → AreSendable room acts
own_are_sendable me room acts = each_sendable me room (effects_among acts)
