-- One who shares channels with a user that quits is shown the Quit once.
use Rattle.std.proofs.Common.{◌≡◌, ℕ, Bool, true, false, ◌&&◌, not, Some, List, [], ◌∷◌, ◌∙◌, ap}
use Rattle.std.proofs.Common.{filter, filter_map, option_map, option_to_list, codes, nat_eq}
use Rattle.std.specs.Cmp.Lexicographic.{pointwise}
use Rattle.std.specs.List.{list_any}
use Rattle.std.specs.Option.{option_and_then}
use Rattle.std.specs.FinMap.{values}
use Rattle.std.proofs.lemmas.Bool.{cond-true}
use Rattle.irc_names.specs.Fold.{key, same}
use Rattle.irc_names.specs.Tables.{row}
use Rattle.irc_users.specs.declared.user.User.{User}
use Rattle.irc_channels.specs.Channels.{has_member}
use Rattle.irc_effects.specs.declared.effect.Effect.{Effect}
use Rattle.irc_effects.specs.declared.effect.Effect.TheVariants.{Quit}
use Rattle.irc_effects.specs.Room.{Room, IsWellFormed}
use Rattle.irc_effects.specs.Seen.{Showing, seen, shown_to, sees, share_channel, full_sender}
use Rattle.irc_effects.specs.Seen.{line_from}
use Rattle.irc_effects.specs.Laws.{quit_line, QuitSeenOnce}
use Rattle.irc_effects.specs.Lemmas.OneViewer.{shown_to_one}

-- in a well-formed room, what is shown to a user is all that it is shown
pub shown_alone : (room : Room) (effect : Effect) (viewer : List ℕ) (other : User) (s : Showing)
    → IsWellFormed room → row room.users (key viewer) ≡ Some other
    → shown_to room effect other ≡ Some s → filter (λ (s : Showing). same viewer s.viewer)
    (filter_map (shown_to room effect) (values room.users)) ≡ s ∷ []
shown_alone room effect viewer other s well at is =
    shown_to_one room effect viewer well
    ∙ ap (λ o. option_to_list (option_and_then (shown_to room effect) o)) at
    ∙ ap option_to_list is

-- whether one with this fold sees the Quit of a user
quit_seen_by : Room → List ℕ → List ℕ → Bool
quit_seen_by room nick fold =
    not (pointwise nat_eq (key nick) fold) && list_any
    (λ channel. has_member (key nick) channel && has_member fold channel) (values room.channels)

both : (b c : Bool) → b ≡ false → c ≡ true → (not b && c) ≡ true
both true c apart share = cc
both false c apart share = share

quit_shown : (room : Room) (nick reason viewer : List ℕ) (user other : User)
    → row room.users (key nick) ≡ Some user → key other.nick ≡ key viewer → same nick viewer ≡ false
    → share_channel room nick viewer ≡ true → shown_to room (Quit nick reason) other
    ≡ Some (record { viewer = other.nick; line = quit_line user reason })
unfolding quit_seen_by
quit_shown room nick reason viewer user other at named apart share =
    cond-true (sees room (Quit nick reason) other.nick) _ _
    (ap (quit_seen_by room nick) named
    ∙ both (same nick viewer) (share_channel room nick viewer) apart share)
    ∙ ap (λ o. option_map (λ l. record { viewer = other.nick; line = l })
    (line_from (codes "QUIT") [] (Some reason) (option_map full_sender o))) at

pub quit_seen_once : QuitSeenOnce
unfolding seen
quit_seen_once room nick reason viewer user other well at there apart share =
    shown_alone room (Quit nick reason) viewer other _ well there
    (quit_shown room nick reason viewer user other at
    (well.users_named (key viewer) other there) apart share)
