-- What does nothing leaves the room as it is.
use Rattle.std.proofs.Common.{◌≡◌, ℕ, Bool, true, false, not, ◌&&◌, Option, Some, None, List, refl}
use Rattle.std.proofs.Common.{ap, is_some, unwrap_or}
use Rattle.std.specs.Option.{option_and_then, option_map_or}
use Rattle.std.proofs.lemmas.Bool.{cond-true}
use Rattle.std.proofs.Math.Bool.{false≢true}
use Rattle.irc_names.specs.Fold.{key}
use Rattle.irc_names.specs.Tables.{Table, row}
use Rattle.irc_channels.specs.declared.channel.Channel.{Channel}
use Rattle.irc_channels.specs.Channels.{has_member, new_channel, joined, left}
use Rattle.irc_effects.specs.declared.effect.Effect.TheVariants.{Join, Part}
use Rattle.irc_effects.specs.declared.effect.Effect.TheVariants.{Kick}
use Rattle.irc_effects.specs.Room.{Room}
use Rattle.irc_effects.specs.After.{after, alter_channel}
use Rattle.irc_effects.specs.Laws.{IdleChangesNothing}
use Rattle.irc_effects.specs.Lemmas.Rows.{alter_same, if_not}

is_in : (nick : List ℕ) (op : Bool) (name : List ℕ) (channel : Option Channel)
    → option_map_or (has_member nick) channel false ≡ true
    → Some (joined nick op (unwrap_or channel (new_channel name))) ≡ channel
is_in nick op name None there = absurd (false≢true there)
is_in nick op name (Some channel) there = ap Some (cond-true (has_member nick channel) _ _ there)

is_out : (nick : List ℕ) (channel : Option Channel)
    → (is_some channel && not (option_map_or (has_member nick) channel false)) ≡ true
    → option_and_then (left nick) channel ≡ channel
is_out nick None none = refl
is_out nick (Some channel) none = if_not (has_member nick channel) _ _ none

alter_channel_same : (name : List ℕ) (change : Option Channel → Option Channel) (room : Room)
    → change (row room.channels (key name)) ≡ row room.channels (key name)
    → alter_channel name change room ≡ room
alter_channel_same name change room is =
    ap (λ (channels : Table Channel). record room { channels = channels })
    (alter_same (key name) change room.channels is)

pub idle_changes_nothing : IdleChangesNothing
unfolding after
idle_changes_nothing room (Join nick name op) idle =
    alter_channel_same name _ room (is_in (key nick) op name (row room.channels (key name)) idle)
idle_changes_nothing room (Part nick name text) idle =
    alter_channel_same name _ room (is_out (key nick) (row room.channels (key name)) idle)
idle_changes_nothing room (Kick by name nick text) idle =
    alter_channel_same name _ room (is_out (key nick) (row room.channels (key name)) idle)
idle_changes_nothing room other idle = absurd (false≢true idle)
