-- A user outside of a channel stays so by what is not in it.
use Rattle.std.proofs.Common.{◌≡◌, ℕ, Bool, true, false, cond, not, ◌&&◌, ◌||◌, Option, Some, None}
use Rattle.std.proofs.Common.{List, refl, sym, ◌∙◌, ap, is_some, if◌then◌else◌}
use Rattle.std.proofs.Math.Bool.{and-false}
use Rattle.std.specs.Option.{option_and_then, option_map_or}
use Rattle.std.specs.FinMap.{keys}
use Rattle.irc_names.specs.Fold.{key, same}
use Rattle.irc_names.specs.FoldLaws.{same-tells}
use Rattle.irc_names.specs.Tables.{row, alter}
use Rattle.irc_names.specs.TableLaws.{same_fold, one_fold, same_fold-refl}
use Rattle.irc_modes.specs.Modes.{is_nil}
use Rattle.irc_modes.specs.Raised.{is_secret}
use Rattle.irc_channels.specs.declared.channel.Channel.{Channel}
use Rattle.irc_channels.specs.Channels.{has_member, without_user, renamed}
use Rattle.irc_effects.specs.declared.effect.Effect.{Effect}
use Rattle.irc_effects.specs.declared.effect.Effect.TheVariants.{Rename, Quit}
use Rattle.irc_effects.specs.Room.{Room, IsWellFormed}
use Rattle.irc_effects.specs.Effects.{IsPossible, has_user}
use Rattle.irc_effects.specs.After.{after}
use Rattle.irc_effects.specs.Lemmas.Members.{is_member_of, member_while, taken_out, moved_row}
use Rattle.irc_secrets.specs.ButForOne.{IsNoMember}
use Rattle.irc_secrets.specs.Outside.{is_in, nick_after}
use Rattle.irc_secrets.specs.Laws.{OutsiderStaysOutside}
use Rattle.irc_secrets.proofs.Unlike.{not_both}
use Rattle.irc_secrets.proofs.RowAfter.{row_change, row_after}

abbrev hides : Option Channel → Bool
hides found = option_map_or (λ (c : Channel). is_secret c.modes.privacy) found true

hides_while : (channel : Channel) (nil : Bool) → hides (Some channel) ≡ true
    → hides (if nil then None else Some channel) ≡ true
hides_while channel true hidden = refl
hides_while channel false hidden = hidden

still_hidden : (effect : Effect) (found : Option Channel) → hides found ≡ true
    → hides (option_and_then (row_change effect) found) ≡ true
still_hidden effect None hidden = refl
still_hidden (Rename nick new) (Some channel) hidden = hidden
still_hidden (Quit nick text) (Some channel) hidden =
    hides_while (record channel {
      members = alter (key nick) (λ _. None) channel.members;
      invited = alter (key nick) (λ _. None) channel.invited;
    }) (is_nil (keys (alter (key nick) (λ _. None) channel.members))) hidden
still_hidden other (Some channel) hidden = hidden

-- nobody has the new nickname but who takes it
only_own : (room : Room) (nick new : List ℕ) → (not (has_user room new) || same nick new) ≡ true
    → has_user room new ≡ true → key new ≡ key nick
only_own room nick new free there =
    sym ((same-tells nick new).0 (by (has_user room new) (same nick new) free there))
  where
    by : (a b : Bool) → (not a || b) ≡ true → a ≡ true → b ≡ true
    by true b either is = either
    by false b either is = cc is

by_quit : (fold nick : List ℕ) (channel : Channel) → has_member fold channel ≡ false
    → is_member_of fold (without_user nick channel) ≡ false
by_quit fold nick channel out =
    member_while (record channel {
      members = alter nick (λ _. None) channel.members;
      invited = alter nick (λ _. None) channel.invited;
    }) fold
    ∙ taken_out nick channel.members fold
    ∙ ap (λ b. not (same_fold fold nick) && b) out ∙ and-false (not (same_fold fold nick))

-- who has another nickname is no more a member for that, and nobody else is by it
by_rename : (nick new viewer : List ℕ) (channel : Channel)
    → (is_some (row channel.members (key new)) ≡ true → key new ≡ key nick)
    → (key viewer ≡ key new → key new ≡ key nick) → has_member (key viewer) channel ≡ false
    → (b : Bool) → same nick viewer ≡ b
    → has_member (key (if b then new else viewer)) (renamed (key nick) (key new) channel) ≡ false
by_rename nick new viewer channel free other out true own =
    moved_row (key nick) (key new) channel.members (key new) free
    ∙ ap (λ b. cond b (is_some (row channel.members (key nick)))
    (cond (same_fold (key new) (key nick)) false (is_some (row channel.members (key new)))))
    (same_fold-refl (key new))
    ∙ ap (λ fold. is_some (row channel.members fold)) ((same-tells nick viewer).0 own) ∙ out
by_rename nick new viewer channel free other out false two =
    moved_row (key nick) (key new) channel.members (key viewer) free
    ∙ by (same_fold (key viewer) (key new)) refl (same_fold (key viewer) (key nick)) out
  where
    by : (b : Bool) → same_fold (key viewer) (key new) ≡ b → (c : Bool)
        → is_some (row channel.members (key viewer)) ≡ false
        → cond b (is_some (row channel.members (key nick)))
        (cond c false (is_some (row channel.members (key viewer)))) ≡ false
    by true new_one c out = absurd (not_both (same nick viewer) ((same-tells nick viewer).1
        (sym (one_fold (key viewer) (key new) new_one
        ∙ other (one_fold (key viewer) (key new) new_one)))) two)
    by false apart true out = refl
    by false apart false out = out

-- of the row that an effect makes of a channel's row
no_member_of : (viewer channel : List ℕ) (room : Room) (effect : Effect) → IsWellFormed room
    → IsPossible room effect → has_user room viewer ≡ true → (found : Option Channel)
    → row room.channels (key channel) ≡ found → is_member_of (key viewer) found ≡ false
    → is_member_of (key (nick_after viewer effect)) (option_and_then (row_change effect) found)
    ≡ false
no_member_of viewer channel room effect well possible there None at out = refl
no_member_of viewer channel room (Rename nick new) well possible there (Some c) at out =
    by_rename nick new viewer c
    (λ member. only_own room nick new possible.nick_free
    ((well.channels_sound (key channel) c at).members_known (key new) member))
    (λ equal. only_own room nick new possible.nick_free
    (ap (λ fold. is_some (row room.users fold)) (sym equal) ∙ there))
    out (same nick viewer) refl
no_member_of viewer channel room (Quit nick text) well possible there (Some c) at out =
    by_quit (key viewer) (key nick) c out
no_member_of viewer channel room other well possible there (Some c) at out = out

pub still_no_member : (viewer channel : List ℕ) (room : Room) (effect : Effect) → IsWellFormed room
    → IsPossible room effect → has_user room viewer ≡ true → IsNoMember viewer channel room
    → is_in channel effect ≡ false
    → IsNoMember (nick_after viewer effect) channel (after room effect)
still_no_member viewer channel room effect well possible there out two =
    ap (is_member_of (key (nick_after viewer effect))) (row_after channel room effect two)
    ∙ no_member_of viewer channel room effect well possible there
    (row room.channels (key channel)) refl out

pub outsider_stays_outside : OutsiderStaysOutside
outsider_stays_outside viewer channel room effect well possible there outsider two = record {
  hidden = ap hides (row_after channel room effect two)
      ∙ still_hidden effect (row room.channels (key channel)) outsider.hidden;
  no_member =
      still_no_member viewer channel room effect well possible there outsider.no_member two;
}
