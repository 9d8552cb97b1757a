-- What is made of rooms that are alike but for who is invited: of the row of a channel, and of all
-- channels in folded order.
use Rattle.std.proofs.Common.{◌≡◌, ℕ, Option, List, map, filter, refl, sym, ◌∙◌, ap}
use Rattle.std.specs.Option.{option_map}
use Rattle.std.specs.FinMap.{values}
use Rattle.irc_names.specs.Fold.{key}
use Rattle.irc_names.specs.Tables.{Table, row}
use Rattle.irc_users.specs.declared.user.User.{User}
use Rattle.irc_channels.specs.declared.channel.Channel.{Channel}
use Rattle.irc_channels.specs.Channels.{has_member}
use Rattle.irc_room.specs.Room.{Room}
use Rattle.irc_acts.specs.AlikeRows.{values_alike, filter_changed, same_of_both}
use Rattle.irc_acts.specs.Moves.{own_channels}
use Rattle.irc_acts.specs.OtherInvitations.{uninviting, AreAlike}

-- what is made of the users and of the row of a channel, without a look at invitations
pub row_alike : {Z : Type 0} (made : Table User → Option Channel → Z)
    → ((users : Table User) (found : Option Channel)
    → made users found ≡ made users (option_map uninviting found))
    → (room other : Room) → AreAlike room other → (fold : List ℕ)
    → made room.users (row room.channels fold) ≡ made other.users (row other.channels fold)
row_alike made aside room other alike fold =
    aside room.users (row room.channels fold)
    ∙ ap (made room.users) (alike.channels fold)
    ∙ sym (aside room.users (row other.channels fold))
    ∙ ap (λ users. made users (row other.channels fold)) alike.users

pub channels_alike : (room other : Room) → AreAlike room other
    → map uninviting (values room.channels) ≡ map uninviting (values other.channels)
channels_alike room other alike =
    values_alike uninviting room.channels other.channels alike.channels

-- of the users and of all channels
pub listing_alike : {Z : Type 0} (made : Table User → List Channel → Z)
    → ((users : Table User) (channels : List Channel)
    → made users (map uninviting channels) ≡ made users channels)
    → (room other : Room) → AreAlike room other
    → made room.users (values room.channels) ≡ made other.users (values other.channels)
listing_alike made aside room other alike =
    same_of_both uninviting (made room.users) (aside room.users) (values room.channels)
    (values other.channels) (channels_alike room other alike)
    ∙ ap (λ users. made users (values other.channels)) alike.users

-- of those that a user is in
pub own_alike : {Z : Type 0} (made : List Channel → Z)
    → ((channels : List Channel) → made (map uninviting channels) ≡ made channels)
    → (room other : Room) → AreAlike room other → (me : User)
    → made (own_channels room me) ≡ made (own_channels other me)
own_alike made aside room other alike me =
    let is_in = has_member (key me.nick) in
    same_of_both uninviting made aside (own_channels room me) (own_channels other me)
    (sym (filter_changed uninviting is_in (λ channel. refl) (values room.channels))
    ∙ ap (filter is_in) (channels_alike room other alike)
    ∙ filter_changed uninviting is_in (λ channel. refl) (values other.channels))
