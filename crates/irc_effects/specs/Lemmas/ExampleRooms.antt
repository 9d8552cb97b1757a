-- What is asked of the room after some effects, answered by the lists that they make.
use Rattle.std.proofs.Common.{◌≡◌, ℕ, false, Option, Some, None, List, refl, ◌∙◌, ap, is_some, fold}
use Rattle.std.proofs.Common.{option_map}
use Rattle.std.specs.Option.{option_and_then, option_map_or}
use Rattle.std.specs.FinMap.Entries.{find}
use Rattle.std.proofs.lemmas.Iterator.Adapters.{option_map_id}
use Rattle.irc_names.specs.Fold.{key}
use Rattle.irc_names.specs.Tables.{fold_cmp, row}
use Rattle.irc_channels.specs.declared.channel.Channel.{Channel}
use Rattle.irc_channels.specs.Channels.{is_invited}
use Rattle.irc_effects.specs.declared.effect.Effect.{Effect}
use Rattle.irc_effects.specs.Room.{Room}
use Rattle.irc_effects.specs.Effects.{has_user, is_member}
use Rattle.irc_effects.specs.After.{titled_by}
use Rattle.irc_effects.specs.Seen.{seen}
use Rattle.irc_effects.specs.Examples.{room_after, flags_of, of_channel, invited_to}
use Rattle.irc_effects.specs.Lemmas.Listed.{row_listed}
use Rattle.irc_effects.specs.Lemmas.ListedRooms.{ListedChannel, ListedRoom, channel_of, room_of}
use Rattle.irc_effects.specs.Lemmas.ListedRooms.{list_after, list_titled, all_listed, titled_listed}
use Rattle.irc_effects.specs.Lemmas.ListedRooms.{no_list}
use Rattle.irc_effects.specs.Lemmas.ListedSeen.{IsInOrder, list_asked, list_seen, seen_listed}
use Rattle.irc_effects.specs.Lemmas.ListedSeen.{user_listed, channel_listed, member_asked}

-- the lists that some effects make
abbrev pub list_room : List Effect → ListedRoom
list_room effects = fold list_after no_list effects

made : (effects : List Effect) → room_after effects ≡ room_of (list_room effects)
made effects = all_listed no_list effects

pub user_is : (effects : List Effect) (nick : List ℕ) → has_user (room_after effects) nick
    ≡ is_some (find fold_cmp (key nick) (list_room effects).users)
user_is effects nick = ap (λ r. has_user r nick) (made effects)
    ∙ ap is_some (user_listed (list_room effects) (key nick))

pub channel_is : (effects : List Effect) (name : List ℕ) → row (room_after effects).channels
    (key name) ≡ option_map channel_of (find fold_cmp (key name) (list_room effects).channels)
channel_is effects name = ap (λ (r : Room). row r.channels (key name)) (made effects)
    ∙ channel_listed (list_room effects) (key name)

pub member_is : (effects : List Effect) (nick name : List ℕ)
    → is_member (room_after effects) nick name ≡ (list_asked (list_room effects)).member nick name
member_is effects nick name =
    ap (λ r. is_member r nick name) (made effects) ∙ member_asked (list_room effects) nick name

pub flags_is : (effects : List Effect) (nick name : List ℕ)
    → flags_of (room_after effects) nick name
    ≡ option_and_then (λ (c : ListedChannel). find fold_cmp (key nick) c.members)
    (find fold_cmp (key name) (list_room effects).channels)
flags_is effects nick name =
    ap (option_and_then (λ (c : Channel). row c.members (key nick))) (channel_is effects name)
    ∙ by_row (find fold_cmp (key name) (list_room effects).channels)
  where
    by_row : (o : Option ListedChannel)
        → option_and_then (λ (c : Channel). row c.members (key nick)) (option_map channel_of o)
        ≡ option_and_then (λ (c : ListedChannel). find fold_cmp (key nick) c.members) o
    by_row None = refl
    by_row (Some c) =
        row_listed (λ f. f) c.members (key nick)
        ∙ option_map_id (find fold_cmp (key nick) c.members)

pub invited_is : (effects : List Effect) (nick name : List ℕ)
    → invited_to (room_after effects) nick name
    ≡ option_map_or (λ (c : ListedChannel). is_some (find fold_cmp (key nick) c.invited))
    (find fold_cmp (key name) (list_room effects).channels) false
invited_is effects nick name =
    ap (λ o. option_map_or (is_invited (key nick)) o false) (channel_is effects name)
    ∙ by_row (find fold_cmp (key name) (list_room effects).channels)
  where
    by_row : (o : Option ListedChannel)
        → option_map_or (is_invited (key nick)) (option_map channel_of o) false
        ≡ option_map_or
        (λ (c : ListedChannel). is_some (find fold_cmp (key nick) c.invited)) o false
    by_row None = refl
    by_row (Some c) = ap is_some (row_listed (λ u. u) c.invited (key nick)
        ∙ option_map_id (find fold_cmp (key nick) c.invited))

pub part_is : {X : Type 0} (part : Channel → X) (effects : List Effect) (name : List ℕ)
    → of_channel part (room_after effects) name ≡ option_map part
    (option_map channel_of (find fold_cmp (key name) (list_room effects).channels))
part_is part effects name = ap (option_map part) (channel_is effects name)

-- the same once a channel's name was spelled in the greater of two ways
pub titled_part_is : {X : Type 0} (part : Channel → X) (effects : List Effect)
    (given name : List ℕ) → let room = list_titled given (list_room effects) in
    of_channel part (titled_by given (room_after effects)) name
    ≡ option_map part (option_map channel_of (find fold_cmp (key name) room.channels))
titled_part_is part effects given name =
    ap (λ r. of_channel part r name)
    (ap (titled_by given) (made effects) ∙ titled_listed given (list_room effects))
    ∙ ap (option_map part) (channel_listed (list_titled given (list_room effects)) (key name))

pub seen_is : (effects : List Effect) (effect : Effect) → IsInOrder (list_room effects)
    → seen (room_after effects) effect ≡ list_seen (list_room effects) effect
seen_is effects effect order =
    ap (λ r. seen r effect) (made effects) ∙ seen_listed (list_room effects) effect order
