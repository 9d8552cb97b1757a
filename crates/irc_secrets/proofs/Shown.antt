-- What an effect in a channel shows to one who is no member, from what it shows to users as they
-- are stored.
use Rattle.std.proofs.Common.{◌≡◌, ℕ, Bool, true, false, not, ◌&&◌, ◌||◌, Option, Some, None, List}
use Rattle.std.proofs.Common.{[], ◌∷◌, codes, nat_eq, refl, sym, ◌∙◌, ap, if◌then◌else◌, option_map}
use Rattle.std.proofs.Math.Bool.{and-false}
use Rattle.std.specs.Option.{option_and_then, option_map_or}
use Rattle.std.specs.Cmp.Lexicographic.{pointwise}
use Rattle.irc_names.specs.Fold.{key, same}
use Rattle.irc_names.specs.FoldLaws.{same-tells}
use Rattle.irc_names.specs.Tables.{row}
use Rattle.irc_users.specs.declared.user.User.{User}
use Rattle.irc_channels.specs.Channels.{has_member}
use Rattle.irc_effects.specs.declared.effect.Effect.{Effect}
use Rattle.irc_effects.specs.declared.effect.Effect.TheVariants.{Join, Part, Kick}
use Rattle.irc_effects.specs.declared.effect.Effect.TheVariants.{ChangeModes, SetTopic, Say, Invite}
use Rattle.irc_effects.specs.declared.effect.Target.TheVariants as target
use Rattle.irc_effects.specs.Room.{Room, IsWellFormed}
use Rattle.irc_effects.specs.Effects.{is_member, is_idle}
use Rattle.irc_effects.specs.Seen.{sees, shown_line, line_from, full_sender, stored_channel}
use Rattle.irc_effects.specs.Viewers.{line_for, shows_to}
use Rattle.irc_secrets.specs.ButForOne.{IsNoMember}
use Rattle.irc_secrets.specs.Outside.{is_in, is_for}
use Rattle.irc_secrets.specs.Laws.{ChannelShowsNothing, InvitedIsShown, JoinerIsShown}

-- a member of a channel is one under each spelling of the two
pub member_here : (room : Room) (viewer stored channel name : List ℕ) → key stored ≡ key viewer
    → same channel name ≡ true → is_member room stored name ≡ is_member room viewer channel
member_here room viewer stored channel name named here = λ i. option_map_or
    (has_member (named i)) (row room.channels (sym ((same-tells channel name).0 here) i)) false

same_stored : (nick viewer stored : List ℕ) → key stored ≡ key viewer
    → same nick stored ≡ same nick viewer
same_stored nick viewer stored named = ap (pointwise nat_eq (key nick)) named

-- one who does not see an effect is shown nothing
nothing_shown : (room : Room) (effect : Effect) (viewer : List ℕ) → IsWellFormed room
    → ((stored : List ℕ) → key stored ≡ key viewer → sees room effect stored ≡ false)
    → shows_to room effect viewer ≡ None
unfolding shows_to
nothing_shown room effect viewer well unseen =
    by (is_idle room effect) (row room.users (key viewer)) refl
  where
    by : (idle : Bool) (found : Option User) → row room.users (key viewer) ≡ found
        → (if idle then None else option_and_then (line_for room effect) found) ≡ None
    by true found at = refl
    by false None at = refl
    by false (Some user) at = ap (λ b. if b then shown_line room effect user else None)
        (unseen user.nick (well.users_named (key viewer) user at))

unseen_in : (channel viewer : List ℕ) (room : Room) (effect : Effect)
    → IsNoMember viewer channel room → is_in channel effect ≡ true → is_for viewer effect ≡ false
    → (stored : List ℕ) → key stored ≡ key viewer → sees room effect stored ≡ false
unseen_in channel viewer room (Join nick name op) out here not_own stored named = λ i.
    (same_stored nick viewer stored named ∙ not_own) i
    || (member_here room viewer stored channel name named here ∙ out) i
unseen_in channel viewer room (Part nick name text) out here not_own stored named =
    member_here room viewer stored channel name named here ∙ out
unseen_in channel viewer room (Kick by name nick text) out here not_own stored named =
    member_here room viewer stored channel name named here ∙ out
unseen_in channel viewer room (ChangeModes by name changes) out here not_own stored named =
    member_here room viewer stored channel name named here ∙ out
unseen_in channel viewer room (SetTopic by name text) out here not_own stored named =
    member_here room viewer stored channel name named here ∙ out
unseen_in channel viewer room (Say by notice (target.Channel name) text) out here not_own stored
    named =
    ap (λ b. not (same by stored) && b)
    (member_here room viewer stored channel name named here ∙ out)
    ∙ and-false (not (same by stored))
unseen_in channel viewer room (Invite by nick name) out here not_own stored named =
    same_stored nick viewer stored named ∙ not_own
unseen_in channel viewer room other out here not_own stored named = cc

pub channel_shows_nothing : ChannelShowsNothing
channel_shows_nothing channel viewer room effect well out here not_own =
    nothing_shown room effect viewer well
    (unseen_in channel viewer room effect out here not_own)

-- who is named by an effect sees it, however it spelled the nickname
own_seen : (nick stored : List ℕ) → key stored ≡ key nick → same nick stored ≡ true
own_seen nick stored named = (same-tells nick stored).1 (sym named)

pub invited_is_shown : InvitedIsShown
unfolding shows_to
invited_is_shown room by nick channel sender invited well from to =
    ap (option_and_then (line_for room (Invite by nick channel))) to
    ∙ ap (λ b. if b then shown_line room (Invite by nick channel) invited else None)
    (own_seen nick invited.nick (well.users_named (key nick) invited to))
    ∙ (λ i. line_from (codes "INVITE")
    (option_map_or (λ (user : User). user.nick) (to i) nick ∷ stored_channel room channel ∷ []) None
    (option_map full_sender (from i)))

pub joiner_is_shown : JoinerIsShown
unfolding shows_to
joiner_is_shown room nick channel op joiner well out is =
    ap (λ b. if b then None
    else option_and_then (line_for room (Join nick channel op)) (row room.users (key nick))) out
    ∙ ap (option_and_then (line_for room (Join nick channel op))) is
    ∙ ap (λ b. if b || is_member room joiner.nick channel
    then shown_line room (Join nick channel op) joiner else None)
    (own_seen nick joiner.nick (well.users_named (key nick) joiner is))
    ∙ (λ i. line_from (codes "JOIN") (stored_channel room channel ∷ []) None
    (option_map full_sender (is i)))
