-- A room that comes of others has their users, and channels that are alike to theirs but for who is
-- in them.
use Rattle.std.proofs.Common.{◌≡◌, ℕ, Bool, true, false, cond, not, Option, Some, None, List, refl}
use Rattle.std.proofs.Common.{sym, ◌∙◌, ap, ◌⊎◌, inl, inr, is_some}
use Rattle.std.specs.Option.{option_and_then, option_map_or}
use Rattle.std.specs.FinMap.{keys, retain_keys}
use Rattle.std.proofs.Math.Bool.{false≢true}
use Rattle.std.proofs.lemmas.Option.{none-some, same_Some}
use Rattle.irc_names.specs.Greater.{bytes_cmp, greater}
use Rattle.irc_names.specs.Tables.{row}
use Rattle.irc_users.specs.declared.user.User.{User}
use Rattle.irc_channels.specs.declared.channel.Channel.{Channel}
use Rattle.irc_channels.specs.declared.flags.Flags.{Flags}
use Rattle.irc_channels.specs.Channels.{is_invited}
use Rattle.irc_modes.specs.Joined.{joined_modes}
use Rattle.irc_modes.specs.Modes.{is_nil}
use Rattle.irc_room.specs.Room.{Room, IsWellFormed}
use Rattle.irc_room.specs.InTurn.{after_all}
use Rattle.irc_room.specs.Readers.{flags_at, is_invited_at}
use Rattle.irc_merge.specs.Quits.{quits_of, collision_text}
use Rattle.irc_merge.specs.Merge.{AreAlike, clash, room_without, either, one_channel}
use Rattle.irc_merge.specs.Merge.{joined_channel, merge}
use Rattle.irc_merge.specs.Split.{split, lost_users}
use Rattle.irc_merge.specs.Laws.{ComesOf, IsOfBoth, of_one, of_other, of_both, MergeHasNothingNew}
use Rattle.irc_merge.specs.Laws.{SplitHasNothingNew}
use Rattle.irc_merge.specs.Lemmas.Quitting.{among, thinned, users_left, channels_left}
use Rattle.irc_merge.specs.Lemmas.Joining.{row-either, row-joined}
use Rattle.irc_merge.specs.Lemmas.TableWords.{row-kept}

kept_user : (b : Bool) (o : Option User) (user : User) → cond b None o ≡ Some user → o ≡ Some user
kept_user true o user is = absurd (none-some user is)
kept_user false o user is = is

-- a channel that is left has its name, its modes and its topic
kept_channel : (gone : List ℕ → Bool) (o : Option Channel) (channel : Channel)
    → option_and_then (thinned gone) o ≡ Some channel
    → (before : Channel) × ((o ≡ Some before) × AreAlike channel before)
kept_channel gone None channel is = absurd (none-some channel is)
kept_channel gone (Some before) channel is =
    (before, (refl, by_test (is_nil (keys (retain_keys before.members (λ q. not (gone q))))) is))
  where
    by_test : (b : Bool) → cond b None (Some (record before {
      members = retain_keys before.members
          (λ q. not (gone q));
      invited = retain_keys before.invited (λ q. not (gone q));
    }))
        ≡ Some channel → AreAlike channel before
    by_test true is = absurd (none-some channel is)
    by_test false is =
        let same = sym (same_Some _ channel is) in
        record {
          name = ap (λ (c : Channel). c.name) same;
          modes = ap
              (λ (c : Channel). c.modes) same;
          topic = ap (λ (c : Channel). c.topic) same;
        }

-- so has each member its flags, and whoever is invited was
abbrev flags_in : List ℕ → Channel → Option Flags
flags_in nick channel = row channel.members nick

kept_some : {X : Type 0} (b : Bool) (o : Option X) (x : X) → cond b o None ≡ Some x → o ≡ Some x
kept_some true o x is = is
kept_some false o x is = absurd (none-some x is)

kept_flags : (gone : List ℕ → Bool) (nick : List ℕ) (flags : Flags) (o : Option Channel)
    → option_and_then (flags_in nick) (option_and_then (thinned gone) o) ≡ Some flags
    → option_and_then (flags_in nick) o ≡ Some flags
kept_flags gone nick flags None is = absurd (none-some flags is)
kept_flags gone nick flags (Some before) is =
    by_test (is_nil (keys (retain_keys before.members (λ q. not (gone q))))) is
  where
    by_test : (b : Bool)
        → option_and_then (flags_in nick)
        (cond b None (Some (record before {
          members = retain_keys before.members (λ q.
              not (gone q));
          invited = retain_keys before.invited (λ q. not (gone q));
        })))
        ≡ Some flags → row before.members nick ≡ Some flags
    by_test true is = absurd (none-some flags is)
    by_test false is = kept_some (not (gone nick)) (row before.members nick) flags
        (sym (row-kept before.members (λ q. not (gone q)) nick) ∙ is)

kept_there : {X : Type 0} (b : Bool) (o : Option X) → is_some (cond b o None) ≡ true
    → is_some o ≡ true
kept_there true o there = there
kept_there false o there = absurd (false≢true there)

kept_invited : (gone : List ℕ → Bool) (nick : List ℕ) (o : Option Channel)
    → option_map_or (is_invited nick) (option_and_then (thinned gone) o) false ≡ true
    → option_map_or (is_invited nick) o false ≡ true
kept_invited gone nick None is = is
kept_invited gone nick (Some before) is =
    by_test (is_nil (keys (retain_keys before.members (λ q. not (gone q))))) is
  where
    by_test : (b : Bool)
        → option_map_or (is_invited nick)
        (cond b None
        (Some (record before {
          members = retain_keys before.members (λ q. not (gone q));
          invited = retain_keys before.invited (λ q. not (gone q));
        }))) false
        ≡ true → is_some (row before.invited nick) ≡ true
    by_test true is = absurd (false≢true is)
    by_test false is = kept_there (not (gone nick)) (row before.invited nick)
        (sym (ap is_some (row-kept before.invited (λ q. not (gone q)) nick)) ∙ is)

pub quits_come : (room : Room) (text : List ℕ) (users : List User) → IsWellFormed room
    → ComesOf room (after_all room (quits_of text users))
quits_come room text users well = record {
  users = λ fold user is. kept_user (among users fold) (row room.users fold) user
      (sym (users_left room text users fold) ∙ is);
  channels = λ fold channel is.
      kept_channel (among users) (row room.channels fold) channel
      (sym (channels_left room text users well fold) ∙ is);
  members = λ nick fold flags is.
      kept_flags (among users) nick flags (row room.channels fold)
      (sym (ap (option_and_then (flags_in nick)) (channels_left room text users well fold)) ∙ is);
  invited = λ nick fold is.
      kept_invited (among users) nick (row room.channels fold)
      (sym (ap (λ o. option_map_or (is_invited nick) o false)
      (channels_left room text users well fold)) ∙ is);
}

pub split_has_nothing_new : SplitHasNothingNew
unfolding split
split_has_nothing_new text homes room well = quits_come room text (lost_users homes room) well

pub without_comes : (room other : Room) → IsWellFormed room → ComesOf room (room_without room other)
unfolding room_without
without_comes room other well = quits_come room collision_text (clash room other) well

pub merge_has_nothing_new : MergeHasNothingNew
unfolding merge
merge_has_nothing_new one other well_one well_other = record {
  users = λ fold user is. user_of fold user (row (room_without one other).users fold) refl
      (sym (row-either (room_without one other).users (room_without other one).users fold) ∙ is);
  channels = λ fold channel is.
      channel_of fold channel (row (room_without one other).channels fold) refl
      (row (room_without other one).channels fold) refl
      (sym (row-joined (room_without one other).channels (room_without other one).channels fold)
      ∙ is);
  members = λ nick fold flags is.
      member_of nick fold flags (row (room_without one other).channels fold) refl
      (row (room_without other one).channels fold) refl
      (sym (ap (option_and_then (flags_in nick)) (row-joined (room_without one other).channels
      (room_without other one).channels fold)) ∙ is);
  invited = λ nick fold is.
      invited_of nick fold (row (room_without one other).channels fold) refl
      (row (room_without other one).channels fold) refl
      (sym (ap (λ o. option_map_or (is_invited nick) o false) (row-joined
      (room_without one other).channels (room_without other one).channels fold)) ∙ is);
}
  where
    first : ComesOf one (room_without one other)
    first = without_comes one other well_one

    second : ComesOf other (room_without other one)
    second = without_comes other one well_other

    user_of : (fold : List ℕ) (user : User) (o : Option User)
        → row (room_without one other).users fold ≡ o
        → either o (row (room_without other one).users fold) ≡ Some user
        → (row one.users fold ≡ Some user) ⊎ (row other.users fold ≡ Some user)
    user_of fold user None at is = inr (second.users fold user is)
    user_of fold user (Some u) at is = inl (first.users fold user (at ∙ is))

    channel_of : (fold : List ℕ) (channel : Channel) (o : Option Channel)
        → row (room_without one other).channels fold ≡ o → (p : Option Channel)
        → row (room_without other one).channels fold ≡ p → joined_channel o p ≡ Some channel
        → IsOfBoth one other fold channel
    channel_of fold channel None at p that is =
        let found = second.channels fold channel (that ∙ is) in
        of_other found.0 found.1.0 found.1.1
    channel_of fold channel (Some c) at None that is =
        let found = first.channels fold channel (at ∙ is) in
        of_one found.0 found.1.0 found.1.1
    channel_of fold channel (Some c) at (Some d) that is =
        let ours = first.channels fold c at in
        let theirs = second.channels fold d that in
        let same = sym (same_Some (one_channel c d) channel is) in
        of_both ours.0 theirs.0 ours.1.0 theirs.1.0 (record {
          name = ap (λ (c : Channel). c.name) same
              ∙ (λ i. greater bytes_cmp ((ours.1.1).name i) ((theirs.1.1).name i));
          modes = ap (λ (c : Channel). c.modes) same
              ∙ (λ i. joined_modes ((ours.1.1).modes i) ((theirs.1.1).modes i));
          topic = ap (λ (c : Channel). c.topic) same
              ∙ (λ i. greater bytes_cmp ((ours.1.1).topic i) ((theirs.1.1).topic i));
        })

    of_first : (nick fold : List ℕ) (flags : Flags) (c : Channel)
        → row (room_without one other).channels fold ≡ Some c → row c.members nick ≡ Some flags
        → (flags_at one nick fold ≡ Some flags) ⊎ (flags_at other nick fold ≡ Some flags)
    of_first nick fold flags c at is =
        inl (first.members nick fold flags (ap (option_and_then (flags_in nick)) at ∙ is))

    of_second : (nick fold : List ℕ) (flags : Flags) (d : Channel)
        → row (room_without other one).channels fold ≡ Some d → row d.members nick ≡ Some flags
        → (flags_at one nick fold ≡ Some flags) ⊎ (flags_at other nick fold ≡ Some flags)
    of_second nick fold flags d that is =
        inr (second.members nick fold flags (ap (option_and_then (flags_in nick)) that ∙ is))

    one_of : (nick fold : List ℕ) (flags : Flags) (c d : Channel)
        → row (room_without one other).channels fold ≡ Some c
        → row (room_without other one).channels fold ≡ Some d → (x : Option Flags)
        → row c.members nick ≡ x → either x (row d.members nick) ≡ Some flags
        → (flags_at one nick fold ≡ Some flags) ⊎ (flags_at other nick fold ≡ Some flags)
    one_of nick fold flags c d at that None x_is is = of_second nick fold flags d that is
    one_of nick fold flags c d at that (Some x) x_is is = of_first nick fold flags c at (x_is ∙ is)

    member_of : (nick fold : List ℕ) (flags : Flags) (o : Option Channel)
        → row (room_without one other).channels fold ≡ o
        → (p : Option Channel) → row (room_without other one).channels fold ≡ p
        → option_and_then (flags_in nick) (joined_channel o p) ≡ Some flags
        → (flags_at one nick fold ≡ Some flags) ⊎ (flags_at other nick fold ≡ Some flags)
    member_of nick fold flags None at None that is = absurd (none-some flags is)
    member_of nick fold flags None at (Some d) that is = of_second nick fold flags d that is
    member_of nick fold flags (Some c) at None that is = of_first nick fold flags c at is
    member_of nick fold flags (Some c) at (Some d) that is =
        one_of nick fold flags c d at that (row c.members nick) refl
        (sym (row-either c.members d.members nick) ∙ is)

    invited_first : (nick fold : List ℕ) (c : Channel)
        → row (room_without one other).channels fold ≡ Some c → is_some (row c.invited nick) ≡ true
        → (is_invited_at one nick fold ≡ true) ⊎ (is_invited_at other nick fold ≡ true)
    invited_first nick fold c at is =
        inl (first.invited nick fold (ap (λ o. option_map_or (is_invited nick) o false) at ∙ is))

    invited_second : (nick fold : List ℕ) (d : Channel)
        → row (room_without other one).channels fold ≡ Some d → is_some (row d.invited nick) ≡ true
        → (is_invited_at one nick fold ≡ true) ⊎ (is_invited_at other nick fold ≡ true)
    invited_second nick fold d that is =
        inr (second.invited nick fold (ap (λ o. option_map_or (is_invited nick) o false) that ∙ is))

    one_invited : (nick fold : List ℕ) (c d : Channel) → row (room_without one other).channels fold
        ≡ Some c → row (room_without other one).channels fold ≡ Some d → (x : Option (Unit {0}))
        → row c.invited nick ≡ x → is_some (either x (row d.invited nick)) ≡ true
        → (is_invited_at one nick fold ≡ true) ⊎ (is_invited_at other nick fold ≡ true)
    one_invited nick fold c d at that None x_is is = invited_second nick fold d that is
    one_invited nick fold c d at that (Some x) x_is is =
        invited_first nick fold c at (ap is_some x_is)

    invited_of : (nick fold : List ℕ) (o : Option Channel)
        → row (room_without one other).channels fold ≡ o
        → (p : Option Channel) → row (room_without other one).channels fold ≡ p
        → option_map_or (is_invited nick) (joined_channel o p) false ≡ true
        → (is_invited_at one nick fold ≡ true) ⊎ (is_invited_at other nick fold ≡ true)
    invited_of nick fold None at None that is = absurd (false≢true is)
    invited_of nick fold None at (Some d) that is = invited_second nick fold d that is
    invited_of nick fold (Some c) at None that is = invited_first nick fold c at is
    invited_of nick fold (Some c) at (Some d) that is =
        one_invited nick fold c d at that (row c.invited nick) refl
        (ap is_some (sym (row-either c.invited d.invited nick)) ∙ is)
