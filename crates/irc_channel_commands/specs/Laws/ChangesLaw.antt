-- What a MODE does is never nothing: each change that it makes leaves another channel than it
-- found, and a user's own mode is another.
use Rattle.std.proofs.Common.{◌≡◌, ◌≢◌, ℕ, Bool, true, false, cond, ◌||◌, ◌++◌, nat_eq, find}
use Rattle.std.proofs.Common.{filter, is_some, unwrap_or, option_map, Option, Some, None, List, []}
use Rattle.std.proofs.Common.{◌∷◌, refl, sym, ◌∙◌, ap, subst, true≢false}
use Rattle.std.specs.Prelude.{⊤}
use Rattle.std.specs.List.{list_any}
use Rattle.std.specs.Option.{option_map_or}
use Rattle.std.specs.Ordering.{is_lt}
use Rattle.std.proofs.lemmas.List.Folds.{list_any-append}
use Rattle.std.proofs.lemmas.Option.{same_Some}
use Rattle.std.proofs.lemmas.Bool.{or_left, or_right, eq-eqb}
use Rattle.irc_names.specs.Fold.{key, same, name_cmp}
use Rattle.irc_names.specs.FoldLaws.{same-equivalence}
use Rattle.irc_names.specs.Names.{is_key, is_ban_mask}
use Rattle.irc_names.specs.Tables.{Table, row, alter}
use Rattle.irc_names.specs.TableLaws.{row-alter_same}
use Rattle.irc_users.specs.declared.user.User.{User}
use Rattle.irc_users.specs.UserTable.{with_change}
use Rattle.irc_channels.specs.declared.channel.Channel.{Channel}
use Rattle.irc_channels.specs.declared.flags.Flags.{Flags}
use Rattle.irc_modes.specs.declared.modes.ModeChange.{ModeChange}
use Rattle.irc_modes.specs.declared.modes.ModeLetter.{ModeLetter}
use Rattle.irc_modes.specs.declared.modes.Privacy.{Privacy}
use Rattle.irc_modes.specs.declared.modes.Privacy.TheVariants.{Public, Private, Secret}
use Rattle.irc_names.specs.Digits.{number_of}
use Rattle.irc_modes.specs.Modes.{is_limit, private_changed, secret_changed, with_ban, without_ban}
use Rattle.irc_modes.specs.Lemmas.BanPlaces.{taken_gone}
use Rattle.irc_channels.specs.Channels.{changed, all_changed}
use Rattle.irc_modes.specs.ModeWords.{Asked, change, list, no_word, unknown, modes_read}
use Rattle.irc_room.specs.effect.Effect.{Effect}
use Rattle.irc_room.specs.effect.Effect.TheVariants.{ChangeModes, ChangeUser}
use Rattle.irc_room.specs.Room.{Room, IsWellFormed}
use Rattle.irc_room.specs.InTurn.{IsSoFirst, EachInTurn}
use Rattle.irc_acts.specs.Acts.{effects_among}
use Rattle.irc_channel_commands.specs.declared.verdict.Verdict.{Verdict}
use Rattle.irc_channel_commands.specs.declared.verdict.Verdict.TheVariants.{Says, Keeps, Nothing}
use Rattle.irc_channel_commands.specs.Judging.{without_zeros, turns_private, turns_secret, judge}
use Rattle.irc_channel_commands.specs.Judging.{differs}
use Rattle.irc_channel_commands.specs.ChannelMode.{outcome_of, one_served, served}
use Rattle.irc_channel_commands.specs.Mode.{mode_steps}
use Rattle.irc_channel_commands.specs.Laws.BansFound.{find_any, find_passes, any_alike}
use Rattle.irc_channel_commands.specs.Laws.BansFound.{stored_is_mask}
use Rattle.irc_channel_commands.specs.Laws.JudgedWalk.{IsSo, judged_so}
use Rattle.irc_channel_commands.specs.Laws.LimitsWritten.{limit_still, number_still}
use Rattle.irc_channel_commands.specs.Laws.ModeWalk.{changed_by, mode_so}

-- each of some changes leaves another channel than those before it have left
abbrev pub EachChanges : Channel → List ModeChange → Type 0
EachChanges channel [] = ⊤
EachChanges channel (first ∷ changes) =
    IsSoFirst (changed first channel ≢ channel) (EachChanges (changed first channel) changes)

-- the effect makes what it names another than it is
abbrev pub IsDoing : Room → Effect → Type 0
IsDoing room (ChangeModes by name changes) =
    (channel : Channel) → row room.channels (key name) ≡ Some channel → EachChanges channel changes
IsDoing room (ChangeUser nick made) =
    (user : User) → row room.users (key nick) ≡ Some user → with_change made user ≢ user
IsDoing room other = ⊤

abbrev pub ModeDoesSomething : Type 0
ModeDoesSomething = (me : User) (room : Room) (name : List ℕ) (words : List (List ℕ))
    → IsWellFormed room → row room.users (key me.nick) ≡ Some me
    → EachInTurn IsDoing room (effects_among (mode_steps room me name words))

-- ---- what is another

apart : (a b : Bool) → differs a b ≡ true → a ≢ b
apart true true h e = cc
apart true false h e = cc
apart false true h e = cc
apart false false h e = cc

private_apart : (plus : Bool) (before : Privacy) → turns_private plus before ≡ true
    → private_changed plus before ≢ before
private_apart true Public h e = cc
private_apart true Private h e = cc
private_apart true Secret h e = cc
private_apart false Public h e = cc
private_apart false Private h e = cc
private_apart false Secret h e = cc

secret_apart : (plus : Bool) (before : Privacy) → turns_secret plus before ≡ true
    → secret_changed plus before ≢ before
secret_apart true Public h e = cc
secret_apart true Private h e = cc
secret_apart true Secret h e = cc
secret_apart false Public h e = cc
secret_apart false Private h e = cc
secret_apart false Secret h e = cc

key_apart : (word : List ℕ) (before : Option (List ℕ)) → is_key word ≡ true → before ≡ None
    → cond (is_key word) (Some word) before ≢ before
key_apart word before is none e = never (sym (ap (λ b. cond b (Some word) before) is) ∙ e ∙ none)
  where
    never : {A : Type 0} → Some word ≡ None → A
    never h = cc

limit_apart : (word : List ℕ) (before : Option ℕ) → is_limit word ≡ true
    → option_map_or (nat_eq (number_of word)) before false ≡ false
    → cond (is_limit (without_zeros word)) (Some (number_of (without_zeros word))) before ≢ before
limit_apart word before is other e =
    let set : Some (number_of word) ≡ before =
    ap Some (sym (number_still word)) ∙ sym (ap
    (λ b. cond b (Some (number_of (without_zeros word))) before) (limit_still word is)) ∙ e in
    absurd (true≢false (sym (eq-eqb (number_of word) (number_of word) refl)
    ∙ ap (λ o. option_map_or (nat_eq (number_of word)) o false) set ∙ other))

some_apart : {X : Type 0} (before : Option X) → is_some before ≡ true → None ≢ before
some_apart None there e = cc
some_apart (Some x) there e = cc

-- a mask that is set is there
set_there : (mask : List ℕ) (bans : List (List ℕ))
    → list_any (same mask) (with_ban mask bans) ≡ true
set_there mask bans =
    let front = filter (λ ban. is_lt (name_cmp ban mask)) bans in
    let back = filter (λ ban. is_lt (name_cmp mask ban)) bans in
    list_any-append (same mask) front (mask ∷ back)
    ∙ or_right (list_any (same mask) front) (same mask mask || list_any (same mask) back)
    (or_left (same mask mask) (list_any (same mask) back) (same-equivalence.refl mask))

set_apart : (mask : List ℕ) (bans : List (List ℕ)) → is_ban_mask mask ≡ true
    → find (same mask) bans ≡ None → cond (is_ban_mask mask) (with_ban mask bans) bans ≢ bans
set_apart mask bans is none e =
    absurd (true≢false (sym (set_there mask bans)
    ∙ ap (list_any (same mask)) (sym (ap (λ b. cond b (with_ban mask bans) bans) is) ∙ e)
    ∙ sym (find_any (same mask) bans) ∙ ap is_some none))

taken_apart : (mask there : List ℕ) (bans : List (List ℕ)) → is_ban_mask mask ≡ true → find
    (same mask) bans ≡ Some there → cond (is_ban_mask there) (without_ban there bans) bans ≢ bans
taken_apart mask there bans is found e =
    absurd (true≢false (sym (ap is_some found) ∙ find_any (same mask) bans
    ∙ any_alike mask there (find_passes (same mask) bans there found) bans
    ∙ ap (list_any (same there)) (sym e ∙ ap (λ b. cond b (without_ban there bans) bans)
    (stored_is_mask mask there bans is found)) ∙ taken_gone there bans))

-- a member's flag that is another makes its row another
flag_apart : (members : Table Flags) (nick word : List ℕ) (flags : Flags) (f : Flags → Flags)
    (flag : Flags → Bool) → key nick ≡ key word → row members (key word) ≡ Some flags → differs
    (flag (f flags)) (flag flags) ≡ true → alter (key nick) (option_map f) members ≢ members
flag_apart members nick word flags f flag named at other e =
    let stands : row members (key nick) ≡ Some flags = ap (row members) named ∙ at in
    apart (flag (f flags)) (flag flags) other
    (ap (λ o. flag (unwrap_or o flags))
    (sym (ap (option_map f) stands) ∙ sym (row-alter_same (key nick) (option_map f) members)
    ∙ ap (λ m. row m (key nick)) e ∙ stands))

-- ---- each change that is made

abbrev AreNamed : Table User → Type 0
AreNamed users = (nick : List ℕ) (user : User) → row users nick ≡ Some user → key user.nick ≡ nick

made_changes : (users : Table User) (now : Channel) → AreNamed users
    → (plus : Bool) (which : ModeLetter) (word : Option (List ℕ))
    → IsSo (λ made. changed made now ≢ now) (judge users now plus which word)
made_changes users now named plus which word =
    judged_so (λ made. changed made now ≢ now) users now plus which word (record {
      invite_only = λ sign other e. apart sign now.modes.invite_only other
          (ap (λ (c : Channel). c.modes.invite_only) e);
      moderated = λ sign other e. apart sign now.modes.moderated other
          (ap (λ (c : Channel). c.modes.moderated) e);
      no_outside = λ sign other e. apart sign now.modes.no_outside other
          (ap (λ (c : Channel). c.modes.no_outside) e);
      topic_locked = λ sign other e. apart sign now.modes.topic_locked other
          (ap (λ (c : Channel). c.modes.topic_locked) e);
      private = λ sign turns e. private_apart sign now.modes.privacy turns
          (ap (λ (c : Channel). c.modes.privacy) e);
      secret = λ sign turns e. secret_apart sign now.modes.privacy turns
          (ap (λ (c : Channel). c.modes.privacy) e);
      key_set = λ given is none e. key_apart given now.modes.key is none
          (ap (λ (c : Channel). c.modes.key) e);
      key_cleared =
          λ there is e. some_apart now.modes.key (ap is_some is)
          (ap (λ (c : Channel). c.modes.key) e);
      limit_set = λ digits is other e. limit_apart digits now.modes.limit is other
          (ap (λ (c : Channel). c.modes.limit) e);
      limit_cleared =
          λ there e. some_apart now.modes.limit there (ap (λ (c : Channel). c.modes.limit) e);
      ban_set = λ mask given is none e. set_apart mask now.modes.bans is none
          (ap (λ (c : Channel). c.modes.bans) e);
      ban_taken = λ mask there is found e. taken_apart mask there now.modes.bans is found
          (ap (λ (c : Channel). c.modes.bans) e);
      operator = λ sign name user flags is at other e.
          flag_apart now.members user.nick name flags (λ f. record f { op = sign }) (λ f. f.op)
          (named (key name) user is) at other (ap (λ (c : Channel). c.members) e);
      voice = λ sign name user flags is at other e.
          flag_apart now.members user.nick name flags (λ f. record f { voice = sign })
          (λ f. f.voice)
          (named (key name) user is) at other (ap (λ (c : Channel). c.members) e);
    })

verdict_changes : (now : Channel) (verdict : Verdict)
    → IsSo (λ made. changed made now ≢ now) verdict → EachChanges now (outcome_of verdict).changes
verdict_changes now (Says reply) so = tt
verdict_changes now (Keeps made) so = record { now = so; later = tt }
verdict_changes now Nothing so = tt

one_changes : (users : Table User) (start now : Channel) → AreNamed users → (item : Asked)
    → EachChanges now (one_served users start now item).changes
one_changes users start now named (change plus which word) =
    verdict_changes now (judge users now plus which word)
    (made_changes users now named plus which word)
one_changes users start now named list = tt
one_changes users start now named no_word = tt
one_changes users start now named (unknown byte) = tt

both_change : (now : Channel) (a b : List ModeChange) → EachChanges now a
    → EachChanges (all_changed a now) b → EachChanges now (a ++ b)
both_change now [] b one other = other
both_change now (first ∷ a) b one other =
    record { now = one.now; later = both_change (changed first now) a b one.later other }

served_changes : (users : Table User) (start now : Channel) → AreNamed users → (items : List Asked)
    → EachChanges now (served users start now items).changes
served_changes users start now named [] = tt
served_changes users start now named (item ∷ items) =
    let first = one_served users start now item in
    both_change now first.changes (served users start (all_changed first.changes now) items).changes
    (one_changes users start now named item)
    (served_changes users start (all_changed first.changes now) named items)

pub mode_does_something : ModeDoesSomething
mode_does_something me room name words well mine = mode_so IsDoing me room name words (record {
  changes_it = λ channel is operator some found at.
      subst (λ (c : Channel). EachChanges c (changed_by room channel words))
      (same_Some channel found (sym is ∙ ap (row room.channels)
      (sym ((well.channels_sound (key name) channel is).named)) ∙ at))
      (served_changes room.users channel channel well.users_named (modes_read words));
  sets_own = λ invisible other user at e. apart me.invisible invisible other
      (ap (λ (u : User). u.invisible) (same_Some me user (sym mine ∙ at) ∙ sym e));
})
