-- Two rooms become one: the rows of it, and that it is well formed.
use Rattle.std.proofs.Common.{◌≡◌, ℕ, Bool, true, false, cond, Option, Some, None, List, refl, sym}
use Rattle.std.proofs.Common.{◌∙◌, ap, subst, is_some}
use Rattle.std.specs.Ordering.{is_lt}
use Rattle.std.proofs.Math.Bool.{false≢true}
use Rattle.std.proofs.lemmas.Option.{same_Some}
use Rattle.irc_names.specs.Fold.{key}
use Rattle.irc_names.specs.Greater.{bytes_cmp, greater}
use Rattle.irc_names.specs.Tables.{Table, row, both}
use Rattle.irc_names.specs.TableLaws.{row-both}
use Rattle.irc_users.specs.declared.user.User.{User}
use Rattle.irc_channels.specs.declared.channel.Channel.{Channel}
use Rattle.irc_room.specs.Room.{Room, IsWellFormed, IsSoundRow}
use Rattle.irc_room.specs.Lemmas.Rows.{some_row, some_key}
use Rattle.irc_room.specs.Lemmas.SoundRows.{IsWithin, sound_more}
use Rattle.irc_merge.specs.Merge.{either, one_channel, joined_channel, union, merge, room_without}
use Rattle.irc_merge.specs.Laws.{MergeIsWellFormed}
use Rattle.irc_merge.specs.Lemmas.Clashing.{without_well}

-- ---- rows of one table or another

pub row-either : {X : Type 0} (one other : Table X) (q : List ℕ)
    → row (both either one other) q ≡ either (row one q) (row other q)
row-either one other q = row-both either one other refl q

pub row-joined : (one other : Table Channel) (q : List ℕ)
    → row (both joined_channel one other) q ≡ joined_channel (row one q) (row other q)
row-joined one other q = row-both joined_channel one other refl q

pub either_first : {X : Type 0} (x y : Option X) → is_some x ≡ true → is_some (either x y) ≡ true
either_first None y there = absurd (false≢true there)
either_first (Some x) y there = refl

pub either_second : {X : Type 0} (x y : Option X) → is_some y ≡ true → is_some (either x y) ≡ true
either_second None y there = there
either_second (Some x) y there = refl

-- ---- the union is well formed

first_within : {X : Type 0} (one other : Table X) → IsWithin one (both either one other)
first_within one other = record {
  at = λ q there. ap is_some (row-either one other q)
      ∙ either_first (row one q) (row other q) there;
}

second_within : {X : Type 0} (one other : Table X) → IsWithin other (both either one other)
second_within one other = record {
  at = λ q there. ap is_some (row-either one other q)
      ∙ either_second (row one q) (row other q) there;
}

-- what is within two tables, is within what both are
either_within : {X Y : Type 0} (small more : Table X) (one other : Table Y) → IsWithin small one
    → IsWithin more other → IsWithin (both either small more) (both either one other)
either_within {X} small more one other first second = record {
  at = λ q there. by_row q (row small q) refl (sym (ap is_some (row-either small more q)) ∙ there);
}
  where
    by_row : (q : List ℕ) (o : Option X) → row small q ≡ o → is_some (either o (row more q)) ≡ true
        → is_some (row (both either one other) q) ≡ true
    by_row q None at there = (second_within one other).at q (second.at q there)
    by_row q (Some x) at there = (first_within one other).at q (first.at q (ap is_some at))

-- what is so of two texts is so of the greater
pub greater_so : (P : List ℕ → Type 0) (one other : List ℕ) → P one → P other
    → P (greater bytes_cmp one other)
greater_so P one other so so_too = by (is_lt (bytes_cmp one other))
  where
    by : (b : Bool) → P (cond b other one)
    by true = so_too
    by false = so

both_sound : (one other : Table User) (fold : List ℕ) (c d : Channel) → IsSoundRow one fold c
    → IsSoundRow other fold d → IsSoundRow (both either one other) fold (one_channel c d)
both_sound one other fold c d sound_c sound_d = record {
  named = greater_so (λ name. key name ≡ fold) c.name d.name sound_c.named sound_d.named;
  members_known = (either_within c.members d.members one other
      (record { at = sound_c.members_known }) (record { at = sound_d.members_known })).at;
  invited_known = (either_within c.invited d.invited one other
      (record { at = sound_c.invited_known }) (record { at = sound_d.invited_known })).at;
  some_member =
      let found = some_row c.members sound_c.some_member in
      some_key (both either c.members d.members) found.0
      ((first_within c.members d.members).at found.0 found.1);
}

pub union_well : (one other : Room) → IsWellFormed one → IsWellFormed other
    → IsWellFormed (union one other)
union_well one other well_one well_other = record {
  users_named = λ q user is. user_named q user (row one.users q) refl
      (sym (row-either one.users other.users q) ∙ is);
  channels_sound = λ fold channel is.
      channel_sound fold channel (row one.channels fold) refl (row other.channels fold) refl
      (sym (row-joined one.channels other.channels fold) ∙ is);
}
  where
    user_named : (q : List ℕ) (user : User) (o : Option User) → row one.users q ≡ o
        → either o (row other.users q) ≡ Some user → key user.nick ≡ q
    user_named q user None at is = well_other.users_named q user is
    user_named q user (Some u) at is = well_one.users_named q user (at ∙ is)

    channel_sound : (fold : List ℕ) (channel : Channel) (o : Option Channel) → row one.channels fold
        ≡ o → (p : Option Channel) → row other.channels fold ≡ p → joined_channel o p ≡ Some channel
        → IsSoundRow (both either one.users other.users) fold channel
    channel_sound fold channel None at p that is =
        sound_more other.users (both either one.users other.users) fold channel
        (second_within one.users other.users)
        (well_other.channels_sound fold channel (that ∙ is))
    channel_sound fold channel (Some c) at None that is =
        sound_more one.users (both either one.users other.users) fold channel
        (first_within one.users other.users)
        (well_one.channels_sound fold channel (at ∙ is))
    channel_sound fold channel (Some c) at (Some d) that is =
        subst (IsSoundRow (both either one.users other.users) fold)
        (same_Some (one_channel c d) channel is)
        (both_sound one.users other.users fold c d (well_one.channels_sound fold c at)
        (well_other.channels_sound fold d that))

pub merge_is_well_formed : MergeIsWellFormed
unfolding merge
merge_is_well_formed one other well_one well_other =
    union_well (room_without one other) (room_without other one) (without_well one other well_one)
    (without_well other one well_other)
