-- What can be sent does not depend on who is invited.
use Rattle.std.proofs.Common.{◌≡◌, ℕ, Bool, true, false, cond, Option, Some, None, List, [], ◌∷◌}
use Rattle.std.proofs.Common.{refl, sym, ◌∙◌, ap, subst, is_some, option_map, length, ◌≤◌}
use Rattle.std.specs.List.{AllByRecursion}
use Rattle.std.specs.Option.{IfSome, option_map_or}
use Rattle.std.proofs.lemmas.Option.{same_Some, none-some}
use Rattle.irc_line.specs.Limits.{max_line}
use Rattle.irc_line.specs.Messages.{joined_text}
use Rattle.irc_names.specs.Fold.{key}
use Rattle.irc_names.specs.Tables.{Table, row}
use Rattle.irc_names.specs.TableLaws.{row-retain_keys}
use Rattle.irc_users.specs.declared.user.User.{User}
use Rattle.irc_channels.specs.declared.channel.Channel.{Channel}
use Rattle.irc_channels.specs.Channels.{is_invited}
use Rattle.irc_modes.specs.declared.modes.ModeChange.{ModeChange}
use Rattle.irc_effects.specs.declared.effect.By.TheVariants as by
use Rattle.irc_effects.specs.declared.effect.Target.{Target}
use Rattle.irc_effects.specs.declared.effect.Target.TheVariants as target
use Rattle.irc_effects.specs.declared.effect.Effect.{Effect}
use Rattle.irc_effects.specs.declared.effect.Effect.TheVariants.{Rename, Quit, Join, Part}
use Rattle.irc_effects.specs.declared.effect.Effect.TheVariants.{Kick, ChangeModes, SetTopic, Say}
use Rattle.irc_effects.specs.declared.effect.Effect.TheVariants.{Invite, ChangeUser}
use Rattle.irc_effects.specs.Room.{Room}
use Rattle.irc_effects.specs.Limits.{IsChannelWithin, IsWithinLimits}
use Rattle.irc_effects.specs.Seen.{names_member}
use Rattle.irc_effects.specs.Sendable.{IsStoredNick, IsStoredChannel, IsNameFor, IsChannelOrNew}
use Rattle.irc_effects.specs.Sendable.{IsSentWord, IsSentChange, IsSentTarget, said_parts}
use Rattle.irc_effects.specs.Sendable.{IsSendable}
use Rattle.irc_effects.specs.Invitations.{is_at, inviting_only}
use Rattle.irc_effects.specs.OtherInvitations.{uninviting, AreAlike}
use Rattle.irc_effects.specs.SentAlike.{AlikeSendAlike, AlikeKeepLimits, HomeKnowsItsInvited}
use Rattle.irc_effects.specs.Lemmas.HomeRooms.{row-of_home}

abbrev name_of : Channel → List ℕ
name_of channel = channel.name

named_aside : (found : Option Channel)
    → option_map name_of found ≡ option_map name_of (option_map uninviting found)
named_aside None = refl
named_aside (Some channel) = refl

turned : (room other : Room) → AreAlike room other → AreAlike other room
turned room other alike =
    record { users = sym alike.users; channels = λ fold. sym (alike.channels fold) }

module _ (room other : Room) (alike : AreAlike room other) where
  nick_stored : (nick : List ℕ) → IsStoredNick room nick → IsStoredNick other nick
  nick_stored nick stored = subst (λ (users : Table User). option_map (λ (user : User). user.nick)
      (row users (key nick)) ≡ Some nick) alike.users stored

  channel_stored : (name : List ℕ) → IsStoredChannel room name → IsStoredChannel other name
  channel_stored name stored =
      named_aside (row other.channels (key name))
      ∙ ap (option_map name_of) (sym (alike.channels (key name)))
      ∙ sym (named_aside (row room.channels (key name)))
      ∙ stored

  named_for : (name : List ℕ) (one two : Option Channel)
      → option_map uninviting one ≡ option_map uninviting two → IsNameFor name one
      → IsNameFor name two
  named_for name None None same named = named
  named_for name None (Some channel) same named = cc
  named_for name (Some channel) None same named = cc
  named_for name (Some one) (Some two) same named =
      ap name_of (sym (same_Some (uninviting one) (uninviting two) same)) ∙ named

  channel_named : (name : List ℕ) → IsChannelOrNew room name → IsChannelOrNew other name
  channel_named name = named_for name (row room.channels (key name)) (row other.channels (key name))
      (alike.channels (key name))

  word_sent : (is_nick : Bool) (word : Option (List ℕ)) → IfSome word (IsSentWord room is_nick)
      → IfSome word (IsSentWord other is_nick)
  word_sent is_nick None sent = tt
  word_sent true (Some word) sent = nick_stored word sent
  word_sent false (Some word) sent = sent

  words_sent : (changes : List ModeChange) → AllByRecursion (IsSentChange room) changes
      → AllByRecursion (IsSentChange other) changes
  words_sent [] all = tt
  words_sent (change ∷ changes) all =
      (word_sent (names_member change.letter) change.word all.0, words_sent changes all.1)

  target_stored : (to : Target) → IsSentTarget room to → IsSentTarget other to
  target_stored (target.User nick) = nick_stored nick
  target_stored (target.Channel name) = channel_stored name

  sent : (effect : Effect) → IsSendable room effect → IsSendable other effect
  sent (Rename nick new) so =
      record { nick_stored = nick_stored nick so.nick_stored; new_named = so.new_named }
  sent (Quit nick text) so =
      record { nick_stored = nick_stored nick so.nick_stored; text_within = so.text_within }
  sent (Join nick channel op) so =
      record {
        nick_stored = nick_stored nick so.nick_stored;
        channel_named = channel_named channel so.channel_named;
      }
  sent (Part nick channel text) so = record {
    nick_stored = nick_stored nick so.nick_stored;
    channel_stored = channel_stored channel so.channel_stored;
    text_within = so.text_within;
  }
  sent (Kick by channel nick text) so = record {
    by_stored = nick_stored by so.by_stored;
    channel_stored = channel_stored channel so.channel_stored;
    nick_stored = nick_stored nick so.nick_stored;
    text_within = so.text_within;
  }
  sent (ChangeModes (by.User nick) channel changes) so = record {
    by_stored = nick_stored nick so.by_stored;
    channel_stored = channel_stored channel so.channel_stored;
    changes_readable = so.changes_readable;
    words_sent = words_sent changes so.words_sent;
  }
  sent (SetTopic (by.User nick) channel text) so = record {
    by_stored = nick_stored nick so.by_stored;
    channel_stored = channel_stored channel so.channel_stored;
    text_within = so.text_within;
  }
  sent (Say by notice to text) so = record {
    by_stored = nick_stored by so.by_stored;
    target_stored = target_stored to so.target_stored;
    text_carried = so.text_carried;
    line_fits =
        subst (λ (users : Table User). IfSome (row users (key by))
        (λ user. length (joined_text (said_parts user notice to text.items)) ≤ max_line))
        alike.users so.line_fits;
  }
  sent (Invite by nick channel) so = record {
    by_stored = nick_stored by so.by_stored;
    nick_stored = nick_stored nick so.nick_stored;
    channel_named = channel_named channel so.channel_named;
  }
  sent (ChangeUser nick change) so =
      record { nick_stored = nick_stored nick so.nick_stored; keeps = so.keeps }
  sent other so = so

  as_uninvited : (channel : Channel) → IsChannelWithin channel
      → IsChannelWithin (uninviting channel)
  as_uninvited channel so =
      record { name = so.name; topic = so.topic; modes = so.modes; bans_carried = so.bans_carried }

  of_uninvited : (channel : Channel) → IsChannelWithin (uninviting channel)
      → IsChannelWithin channel
  of_uninvited channel so =
      record { name = so.name; topic = so.topic; modes = so.modes; bans_carried = so.bans_carried }

  channel_within : (channel : Channel) (found : Option Channel)
      → ((before : Channel) → found ≡ Some before → IsChannelWithin before)
      → option_map uninviting found ≡ Some (uninviting channel) → IsChannelWithin channel
  channel_within channel None within same = absurd (none-some (uninviting channel) same)
  channel_within channel (Some before) within same =
      of_uninvited channel
      (subst IsChannelWithin (same_Some (uninviting before) (uninviting channel) same)
      (as_uninvited before (within before refl)))

  within_limits : IsWithinLimits room → IsWithinLimits other
  within_limits within = record {
    users = λ fold user at. within.users fold user
        (ap (λ (users : Table User). row users fold) alike.users ∙ at);
    channels = λ fold channel at.
        channel_within channel (row room.channels fold) (within.channels fold)
        (alike.channels fold ∙ ap (option_map uninviting) at);
  }

pub alike_send_alike : AlikeSendAlike
alike_send_alike room other effect alike =
    (sent room other alike effect, sent other room (turned room other alike) effect)

pub alike_keep_limits : AlikeKeepLimits
alike_keep_limits room other alike =
    (within_limits room other alike, within_limits other room (turned room other alike))

pub home_knows_its_invited : HomeKnowsItsInvited
home_knows_its_invited home room nick channel own =
    ap (λ found. option_map_or (is_invited nick) found false) (row-of_home home room channel)
    ∙ by_row (row room.channels channel)
  where
    by_row : (found : Option Channel) → option_map_or (is_invited nick)
        (option_map (inviting_only (is_at home room.users)) found) false
        ≡ option_map_or (is_invited nick) found false
    by_row None = refl
    by_row (Some found) =
        ap is_some (row-retain_keys found.invited (is_at home room.users) nick
        ∙ ap (λ b. cond b (row found.invited nick) None) own)
