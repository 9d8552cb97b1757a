-- Who is no member of a channel stays none while it does not join: the other effects in a channel
-- make nobody a member.
use Rattle.std.proofs.Common.{◌≡◌, ℕ, Bool, true, false, cond, not, ◌&&◌, ◌||◌, Option, Some, None}
use Rattle.std.proofs.Common.{List, [], ◌∷◌, refl, sym, ◌∙◌, ap, is_some, if◌then◌else◌, option_map}
use Rattle.std.proofs.Common.{unwrap_or}
use Rattle.std.proofs.Math.Bool.{and-false}
use Rattle.std.specs.Cmp.{first_so}
use Rattle.std.specs.Option.{option_and_then}
use Rattle.irc_names.specs.Fold.{key, same}
use Rattle.irc_names.specs.FoldLaws.{same-tells}
use Rattle.irc_names.specs.Tables.{row, alter, moved}
use Rattle.irc_names.specs.TableLaws.{same_fold, one_fold, same_fold-refl, row-alter}
use Rattle.irc_names.specs.TableLaws.{row-alter_same, row-moved}
use Rattle.irc_users.specs.declared.user.User.{User}
use Rattle.irc_users.specs.UserTable.{with_nick, with_change}
use Rattle.irc_channels.specs.declared.channel.Channel.{Channel}
use Rattle.irc_channels.specs.Channels.{new_channel, joined, left, invited_too, with_topic}
use Rattle.irc_channels.specs.Channels.{all_changed}
use Rattle.irc_effects.specs.declared.effect.Effect.{Effect}
use Rattle.irc_effects.specs.declared.effect.Effect.TheVariants.{AddUser, Rename, Quit, Join, Part}
use Rattle.irc_effects.specs.declared.effect.Effect.TheVariants.{Kick, ChangeModes, SetTopic, Say}
use Rattle.irc_effects.specs.declared.effect.Effect.TheVariants.{Invite, ChangeUser}
use Rattle.irc_effects.specs.declared.effect.Target.TheVariants as target
use Rattle.irc_effects.specs.Room.{Room, IsWellFormed}
use Rattle.irc_effects.specs.Effects.{IsPossible, has_user}
use Rattle.irc_effects.specs.After.{after}
use Rattle.irc_effects.specs.Laws.{AfterIsWellFormed}
use Rattle.irc_effects.specs.Lemmas.Members.{is_member_of, joined_said, left_said}
use Rattle.irc_effects.specs.Lemmas.Members.{member_changed_modes}
use Rattle.irc_secrets.specs.ButForOne.{IsNoMember}
use Rattle.irc_secrets.specs.Outside.{is_in, is_for, nick_after, ends}
use Rattle.irc_secrets.specs.Laws.{OutsideFromTheStart}
use Rattle.irc_secrets.proofs.Unlike.{not_both}
use Rattle.irc_secrets.proofs.StillOutside.{still_no_member}

not_one : (nick viewer : List ℕ) → same nick viewer ≡ false
    → same_fold (key viewer) (key nick) ≡ false
not_one nick viewer two = by (same_fold (key viewer) (key nick)) refl
  where
    by : (b : Bool) → same_fold (key viewer) (key nick) ≡ b → b ≡ false
    by true one = absurd (not_both (same nick viewer)
        ((same-tells nick viewer).1 (sym (one_fold (key viewer) (key nick) one))) two)
    by false apart = refl

-- a change of the channel's row that makes one no member
module _ (viewer channel : List ℕ) (room : Room) where
  altered : (name : List ℕ) (change : Option Channel → Option Channel)
      → same channel name ≡ true
      → ((found : Option Channel) → is_member_of (key viewer) found ≡ false
      → is_member_of (key viewer) (change found) ≡ false) → IsNoMember viewer channel room
      → is_member_of (key viewer) (row (alter (key name) change room.channels) (key channel))
      ≡ false
  altered name change here makes_none out =
      ap (λ fold. is_member_of (key viewer) (row (alter (key name) change room.channels) fold))
      ((same-tells channel name).0 here)
      ∙ ap (is_member_of (key viewer)) (row-alter_same (key name) change room.channels)
      ∙ makes_none (row room.channels (key name))
      (ap (λ fold. is_member_of (key viewer) (row room.channels fold))
      (sym ((same-tells channel name).0 here)) ∙ out)

  none_left : (nick : List ℕ) (found : Option Channel) → is_member_of (key viewer) found ≡ false
      → is_member_of (key viewer) (option_and_then (left (key nick)) found) ≡ false
  none_left nick found out =
      left_said (key nick) found (key viewer)
      ∙ ap (λ b. not (same_fold (key viewer) (key nick)) && b) out
      ∙ and-false (not (same_fold (key viewer) (key nick)))

  -- a change that leaves the members as they are
  none_kept : (change : Channel → Channel)
      → ((c : Channel) → is_member_of (key viewer) (Some (change c))
      ≡ is_member_of (key viewer) (Some c)) → (found : Option Channel)
      → is_member_of (key viewer) found ≡ false
      → is_member_of (key viewer) (option_map change found) ≡ false
  none_kept change kept None out = refl
  none_kept change kept (Some c) out = kept c ∙ out

  no_member_in : (effect : Effect) → is_in channel effect ≡ true → is_for viewer effect ≡ false
      → IsNoMember viewer channel room
      → IsNoMember (nick_after viewer effect) channel (after room effect)
  unfolding after
  no_member_in (Join nick name op) here not_own out = altered name
      (λ c. Some (joined (key nick) op (unwrap_or c (new_channel name)))) here (λ found none.
      joined_said (key nick) name op found (key viewer)
      ∙ (λ i. not_one nick viewer not_own i || none i)) out
  no_member_in (Part nick name text) here not_own out =
      altered name (option_and_then (left (key nick))) here (none_left nick) out
  no_member_in (Kick by name nick text) here not_own out =
      altered name (option_and_then (left (key nick))) here (none_left nick) out
  no_member_in (ChangeModes by name changes) here not_own out =
      altered name (option_map (all_changed changes)) here
      (none_kept (all_changed changes) (member_changed_modes changes (key viewer))) out
  no_member_in (SetTopic by name text) here not_own out =
      altered name (option_map (with_topic text)) here (none_kept (with_topic text) (λ c. refl)) out
  no_member_in (Say by notice (target.Channel name) text) here not_own out = out
  no_member_in (Invite by nick name) here not_own out =
      altered name (option_map (invited_too (key nick))) here
      (none_kept (invited_too (key nick)) (λ c. refl)) out
  no_member_in other here not_own out = cc

-- one of the users is one after an effect by which it does not leave
row_changed : (b : Bool) (new old : Option User) → is_some new ≡ true → is_some old ≡ true
    → is_some (cond b new old) ≡ true
row_changed true new old new_there there = new_there
row_changed false new old new_there there = there

changed_there : (change : User → User) (found : Option User) → is_some found ≡ true
    → is_some (option_map change found) ≡ true
changed_there change None there = cc there
changed_there change (Some user) there = refl

renamed_there : (room : Room) (nick new viewer : List ℕ) (user : User)
    → row room.users (key nick) ≡ Some user → has_user room viewer ≡ true → (b : Bool)
    → same nick viewer ≡ b
    → is_some (row (moved (key nick) (key new) (with_nick new) room.users)
    (key (if b then new else viewer))) ≡ true
renamed_there room nick new viewer user at there true own =
    ap is_some (row-moved (key nick) (key new) (with_nick new) room.users user at (key new))
    ∙ ap (λ b. is_some (cond b (Some (with_nick new user))
    (cond (same_fold (key new) (key nick)) None (row room.users (key new)))))
    (same_fold-refl (key new))
renamed_there room nick new viewer user at there false two =
    ap is_some (row-moved (key nick) (key new) (with_nick new) room.users user at (key viewer))
    ∙ row_changed (same_fold (key viewer) (key new)) (Some (with_nick new user))
    (cond (same_fold (key viewer) (key nick)) None (row room.users (key viewer))) refl
    (ap (λ b. is_some (cond b None (row room.users (key viewer)))) (not_one nick viewer two)
    ∙ there)

still_there : (viewer : List ℕ) (room : Room) (effect : Effect) → IsPossible room effect
    → ends viewer effect ≡ false → has_user room viewer ≡ true
    → has_user (after room effect) (nick_after viewer effect) ≡ true
unfolding after
still_there viewer room (AddUser user) possible stays there =
    ap is_some (row-alter (key user.nick) (λ _. Some user) room.users (key viewer))
    ∙ row_changed (same_fold (key viewer) (key user.nick)) (Some user)
    (row room.users (key viewer)) refl there
still_there viewer room (Rename nick new) possible stays there =
    by (row room.users (key nick)) refl (first_so (has_user room nick) true possible.users_there)
  where
    by : (found : Option User) → row room.users (key nick) ≡ found → is_some found ≡ true
        → is_some (row (moved (key nick) (key new) (with_nick new) room.users)
        (key (nick_after viewer (Rename nick new)))) ≡ true
    by None at known = cc known
    by (Some user) at known =
        renamed_there room nick new viewer user at there (same nick viewer) refl
still_there viewer room (Quit nick text) possible stays there =
    ap is_some (row-alter (key nick) (λ _. None) room.users (key viewer))
    ∙ ap (λ b. is_some (cond b None (row room.users (key viewer)))) (not_one nick viewer stays)
    ∙ there
still_there viewer room (ChangeUser nick change) possible stays there =
    ap is_some (row-alter (key nick) (option_map (with_change change)) room.users (key viewer))
    ∙ by (same_fold (key viewer) (key nick)) refl
  where
    by : (b : Bool) → same_fold (key viewer) (key nick) ≡ b
        → is_some (cond b (option_map (with_change change) (row room.users (key nick)))
        (row room.users (key viewer))) ≡ true
    by true one = changed_there (with_change change) (row room.users (key nick))
        (ap (λ fold. is_some (row room.users fold)) (sym (one_fold (key viewer) (key nick) one))
        ∙ there)
    by false apart = there
still_there viewer room other possible stays there = there

still_none : (viewer channel : List ℕ) (room : Room) (effect : Effect) → IsWellFormed room
    → IsPossible room effect → (is_in channel effect ≡ true → is_for viewer effect ≡ false)
    → has_user room viewer ≡ true → IsNoMember viewer channel room → (b : Bool)
    → is_in channel effect ≡ b
    → IsNoMember (nick_after viewer effect) channel (after room effect)
still_none viewer channel room effect well possible not_for_it there out true here =
    no_member_in viewer channel room effect here (not_for_it here) out
still_none viewer channel room effect well possible not_for_it there out false two =
    still_no_member viewer channel room effect well possible there out two

pub outside_from_the_start : AfterIsWellFormed → OutsideFromTheStart
outside_from_the_start keeps viewer channel room [] well there out along = tt
outside_from_the_start keeps viewer channel room (effect ∷ effects) well there out along = record {
  now = record {
    possible = along.now.possible;
    no_member = out;
    not_for_it = along.now.not_for_it;
  };
  later = outside_from_the_start keeps (nick_after viewer effect) channel (after room effect)
      effects (keeps room effect well along.now.possible)
      (still_there viewer room effect along.now.possible along.now.not_its_end there)
      (still_none viewer channel room effect well along.now.possible along.now.not_for_it there out
      (is_in channel effect) refl) along.later;
}
