-- What an effect that is not in a channel makes of that channel's row.
use Rattle.std.proofs.Common.{◌≡◌, ℕ, false, Option, Some, None, List, refl, sym, ◌∙◌, ap}
use Rattle.std.proofs.Common.{unwrap_or, option_map}
use Rattle.std.specs.Option.{option_and_then}
use Rattle.irc_names.specs.Fold.{key, same}
use Rattle.irc_names.specs.Tables.{row, alter}
use Rattle.irc_names.specs.TableLaws.{row-alter_other, row-each}
use Rattle.irc_channels.specs.declared.channel.Channel.{Channel}
use Rattle.irc_channels.specs.Channels.{new_channel, joined, left, without_user, renamed}
use Rattle.irc_channels.specs.Channels.{invited_too, with_topic, all_changed}
use Rattle.irc_effects.specs.declared.effect.Effect.{Effect}
use Rattle.irc_effects.specs.declared.effect.Effect.TheVariants.{Rename, Quit, Join, Part, Kick}
use Rattle.irc_effects.specs.declared.effect.Effect.TheVariants.{ChangeModes, SetTopic, Say, Invite}
use Rattle.irc_effects.specs.declared.effect.Effect.TheVariants.{AddUser, ChangeUser}
use Rattle.irc_effects.specs.Room.{Room}
use Rattle.irc_effects.specs.After.{after}
use Rattle.irc_secrets.specs.Outside.{is_in}
use Rattle.irc_secrets.proofs.Unlike.{unlike, not_one_fold}

-- a Rename and a Quit change each channel, and nothing else changes one that it is not in
abbrev pub row_change : Effect → Channel → Option Channel
row_change (Rename nick new) channel = Some (renamed (key nick) (key new) channel)
row_change (Quit nick text) channel = without_user (key nick) channel
row_change other channel = Some channel

unchanged : (found : Option Channel) → found ≡ option_and_then (λ channel. Some channel) found
unchanged None = refl
unchanged (Some channel) = refl

module _ (channel : List ℕ) (room : Room) where
  not_altered : (name : List ℕ) (change : Option Channel → Option Channel)
      → same channel name ≡ false
      → row (alter (key name) change room.channels) (key channel)
      ≡ option_and_then (λ channel. Some channel) (row room.channels (key channel))
  not_altered name change two =
      row-alter_other (key name) change room.channels (key channel)
      (not_one_fold (key channel) (key name) (λ equal. unlike channel name two (sym equal)))
      ∙ unchanged (row room.channels (key channel))

  pub row_after : (effect : Effect) → is_in channel effect ≡ false
      → row (after room effect).channels (key channel)
      ≡ option_and_then (row_change effect) (row room.channels (key channel))
  unfolding after
  row_after (AddUser user) two = unchanged (row room.channels (key channel))
  row_after (Rename nick new) two =
      row-each (λ c. Some (renamed (key nick) (key new) c)) room.channels (key channel)
  row_after (Quit nick text) two =
      row-each (without_user (key nick)) room.channels (key channel)
  row_after (Join nick name op) two =
      not_altered name (λ c. Some (joined (key nick) op (unwrap_or c (new_channel name)))) two
  row_after (Part nick name text) two = not_altered name (option_and_then (left (key nick))) two
  row_after (Kick by name nick text) two = not_altered name (option_and_then (left (key nick))) two
  row_after (ChangeModes by name changes) two =
      not_altered name (option_map (all_changed changes)) two
  row_after (SetTopic by name text) two = not_altered name (option_map (with_topic text)) two
  row_after (Say by notice to text) two = unchanged (row room.channels (key channel))
  row_after (Invite by nick name) two = not_altered name (option_map (invited_too (key nick))) two
  row_after (ChangeUser nick change) two = unchanged (row room.channels (key channel))

  -- a channel that is not there is not made by what is not in it
  pub gone_stays : (effect : Effect) → row room.channels (key channel) ≡ None
      → is_in channel effect ≡ false → row (after room effect).channels (key channel) ≡ None
  gone_stays effect gone two =
      row_after effect two ∙ ap (option_and_then (row_change effect)) gone
