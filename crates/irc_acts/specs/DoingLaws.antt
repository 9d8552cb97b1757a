-- What is a user's own does something.
use Rattle.std.proofs.Common.{◌≡◌, ℕ, Bool, true, false, not, ◌&&◌, Some, List, refl, ◌∙◌, ap}
use Rattle.std.specs.Option.{option_map_or}
use Rattle.irc_names.specs.Fold.{key}
use Rattle.irc_names.specs.Tables.{row}
use Rattle.irc_users.specs.declared.user.User.{User}
use Rattle.irc_channels.specs.declared.channel.Channel.{Channel}
use Rattle.irc_channels.specs.Channels.{has_member}
use Rattle.irc_room.specs.effect.Effect.{Effect}
use Rattle.irc_room.specs.Room.{Room, IsWellFormed}
use Rattle.irc_room.specs.Effects.{has_user, has_channel, is_member}
use Rattle.irc_acts.specs.declared.act.Act.{Act}
use Rattle.irc_acts.specs.Acts.{effects_among}
use Rattle.irc_acts.specs.Doing.{DoesSomething, AreDoing}
use Rattle.irc_acts.specs.Own.{IsOwn, to_user, to_channel, makes, enters, parts, sets_topic, kicks}
use Rattle.irc_acts.specs.Own.{invites, changes_modes, changes_itself, AreOwn}
use Rattle.irc_acts.specs.OwnLaws.{own_in_turn}

-- whether a user is a member of a channel that was found, by the name that is stored
by_stored : (room : Room) → IsWellFormed room → (nick name : List ℕ) (channel : Channel)
    → row room.channels (key name) ≡ Some channel
    → is_member room nick channel.name ≡ has_member (key nick) channel
by_stored room well nick name channel is =
    ap (λ fold. option_map_or (has_member (key nick)) (row room.channels fold) false)
    ((well.channels_sound (key name) channel is).named)
    ∙ ap (λ found. option_map_or (has_member (key nick)) found false) is

-- a member that leaves does not leave in vain
of_member : (there member : Bool) → member ≡ true → (there && not member) ≡ false
of_member true true e = refl
of_member false true e = refl
of_member there false e = cc e

own_does : (me : User) (room : Room) (effect : Effect) → IsWellFormed room → IsOwn me room effect
    → DoesSomething room effect
own_does me room effect well (to_user name other notice words is) = refl
own_does me room effect well (to_channel name channel notice words is) = refl
own_does me room effect well (makes name named none) =
    ap (λ found. option_map_or (has_member (key me.nick)) found false) none
own_does me room effect well (enters name channel is outside) =
    by_stored room well me.nick name channel is ∙ outside
own_does me room effect well (parts name text channel is member) =
    of_member (has_channel room channel.name) (is_member room me.nick channel.name)
    (by_stored room well me.nick name channel is ∙ member)
own_does me room effect well (sets_topic name text channel is) = refl
own_does me room effect well (kicks name nick text channel other is member known) =
    of_member (has_channel room channel.name) (is_member room other.nick channel.name)
    (by_stored room well other.nick name channel is
    ∙ ap (λ fold. has_member fold channel) (well.users_named (key nick) other known)
    ∙ member)
own_does me room effect well (invites nick name other is named) = refl
own_does me room effect well (changes_modes name changes channel is) = refl
own_does me room effect well (changes_itself change) = refl

pub own_are_doing : (me : User) (room : Room) (acts : List Act) → IsWellFormed room
    → has_user room me.nick ≡ true → AreOwn me room acts → AreDoing room acts
own_are_doing me room acts =
    own_in_turn me DoesSomething (λ now effect well there own. own_does me now effect well own)
    room (effects_among acts)
