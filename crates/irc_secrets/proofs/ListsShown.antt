-- What effects show, one after another, to one who stays outside of a channel, is what those that
-- are not in it show in the room without it.
use Rattle.std.proofs.Common.{◌≡◌, ℕ, Bool, true, false, cond, not, None, List, [], ◌∷◌}
use Rattle.std.proofs.Common.{◌++◌, refl, sym, ◌∙◌, ap, if◌then◌else◌, option_to_list}
use Rattle.std.specs.Prelude.{◌≢◌}
use Rattle.std.specs.Option.{option_map_or}
use Rattle.irc_names.specs.Fold.{key}
use Rattle.irc_names.specs.Tables.{row, alter}
use Rattle.irc_names.specs.TableLaws.{same_fold, same_fold-refl, same_table, row-alter}
use Rattle.irc_names.specs.TableLaws.{row-alter_same}
use Rattle.irc_channels.specs.Channels.{has_member}
use Rattle.irc_effects.specs.declared.effect.Effect.{Effect}
use Rattle.irc_effects.specs.declared.effect.Effect.TheVariants.{Rename}
use Rattle.irc_effects.specs.Room.{Room, IsWellFormed}
use Rattle.irc_effects.specs.After.{after}
use Rattle.irc_effects.specs.Laws.{AfterIsWellFormed}
use Rattle.irc_secrets.specs.ButForOne.{AreAlikeButFor, without}
use Rattle.irc_secrets.specs.Outside.{is_in, nick_after, lines_to, StaysOutside, others_than}
use Rattle.irc_secrets.specs.Laws.{ListsShowAlike}
use Rattle.irc_secrets.proofs.Unlike.{not_both}
use Rattle.irc_secrets.proofs.StayAlike.{but_for_is_equivalence, both_stay_alike, one_stays_alike}
use Rattle.irc_secrets.proofs.Shown.{channel_shows_nothing}
use Rattle.irc_secrets.proofs.OthersShown.{others_show_alike}
use Rattle.irc_secrets.proofs.RowAfter.{gone_stays}

name_stays : (channel viewer : List ℕ) (effect : Effect) → is_in channel effect ≡ true
    → nick_after viewer effect ≡ viewer
name_stays channel viewer (Rename nick new) here = cc here
name_stays channel viewer other here = refl

-- what is to be shown of effects, in any two rooms of which the second lacks the channel
abbrev ShowsOthers : List ℕ → List Effect → Type 0
ShowsOthers channel effects = (viewer : List ℕ) (room bare : Room) → IsWellFormed room
    → AreAlikeButFor channel room bare → row bare.channels (key channel) ≡ None
    → StaysOutside viewer channel room effects
    → lines_to viewer room effects ≡ lines_to viewer bare (others_than channel effects)

one_more : AfterIsWellFormed → (channel : List ℕ) (effect : Effect) (effects : List Effect)
    → ShowsOthers channel effects → (viewer : List ℕ) (room bare : Room) → IsWellFormed room
    → AreAlikeButFor channel room bare → row bare.channels (key channel) ≡ None
    → StaysOutside viewer channel room (effect ∷ effects) → (b : Bool) → is_in channel effect ≡ b
    → lines_to viewer room (effect ∷ effects) ≡ lines_to viewer bare
    (if not b then effect ∷ others_than channel effects else others_than channel effects)
one_more keeps channel effect effects rest viewer room bare well alike gone outside true here =
    ap (λ o. option_to_list o
    ++ lines_to (nick_after viewer effect) (after room effect) effects)
    (channel_shows_nothing channel viewer room effect well outside.now.no_member here
    (outside.now.not_for_it here))
    ∙ rest (nick_after viewer effect) (after room effect) bare
    (keeps room effect well outside.now.possible)
    (one_stays_alike channel room bare effect alike here) gone outside.later
    ∙ ap (λ nick. lines_to nick bare (others_than channel effects))
    (name_stays channel viewer effect here)
one_more keeps channel effect effects rest viewer room bare well alike gone outside false two =
    λ i. option_to_list ((others_show_alike channel viewer room bare effect well alike
    outside.now.no_member (ap (λ found. option_map_or (has_member (key viewer)) found false) gone)
    two).shows i)
    ++ rest (nick_after viewer effect) (after room effect) (after bare effect)
    (keeps room effect well outside.now.possible)
    (both_stay_alike channel room bare effect alike)
    (gone_stays channel bare effect gone two) outside.later i

shows_others : AfterIsWellFormed → (channel : List ℕ) (effects : List Effect)
    → ShowsOthers channel effects
shows_others keeps channel [] viewer room bare well alike gone outside = refl
shows_others keeps channel (effect ∷ effects) viewer room bare well alike gone outside =
    one_more keeps channel effect effects (shows_others keeps channel effects) viewer room bare
    well alike gone outside (is_in channel effect) refl

none_there : (channel : List ℕ) (room : Room)
    → row (without channel room).channels (key channel) ≡ None
none_there channel room = row-alter_same (key channel) (λ _. None) room.channels

-- without the channel, the two rooms are one
one_room : (channel : List ℕ) (one other : Room) → AreAlikeButFor channel one other
    → without channel one ≡ without channel other
one_room channel one other alike =
    let channels : alter (key channel) (λ _. None) one.channels
    ≡ alter (key channel) (λ _. None) other.channels =
    same_table (alter (key channel) (λ _. None) one.channels)
    (alter (key channel) (λ _. None) other.channels) (λ q.
    row-alter (key channel) (λ _. None) one.channels q ∙ by q (same_fold q (key channel)) refl
    ∙ sym (row-alter (key channel) (λ _. None) other.channels q)) in
    λ i. record { users = alike.users i; channels = channels i }
  where
    apart : (q : List ℕ) → same_fold q (key channel) ≡ false → q ≢ key channel
    apart q two equal = not_both (same_fold q (key channel))
        (ap (λ fold. same_fold fold (key channel)) equal ∙ same_fold-refl (key channel)) two

    by : (q : List ℕ) (b : Bool) → same_fold q (key channel) ≡ b
        → cond b None (row one.channels q) ≡ cond b None (row other.channels q)
    by q true here = refl
    by q false two = alike.channels q (apart q two)

pub lists_show_alike : AfterIsWellFormed → ListsShowAlike
lists_show_alike keeps channel viewer one other effects others well other_well alike outside
    other_outside left =
    shows_others keeps channel effects viewer one (without channel one) well
    (but_for_is_equivalence.taken_out channel one) (none_there channel one) outside
    ∙ (λ i. lines_to viewer (one_room channel one other alike i) (left i))
    ∙ sym (shows_others keeps channel others viewer other (without channel other) other_well
    (but_for_is_equivalence.taken_out channel other) (none_there channel other) other_outside)
