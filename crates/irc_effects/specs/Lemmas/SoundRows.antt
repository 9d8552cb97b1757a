-- What keeps a channel's row sound: fewer members and invitations, more users, and one user more in
-- either.
use Rattle.std.proofs.Common.{◌≡◌, ℕ, Bool, true, false, cond, Option, Some, None, List, refl, sym}
use Rattle.std.proofs.Common.{◌∙◌, ap, subst, is_some, if◌then◌else◌}
use Rattle.std.specs.FinMap.{empty, keys, get-empty}
use Rattle.std.proofs.lemmas.Option.{same_Some, none-some}
use Rattle.std.proofs.Math.Bool.{false≢true}
use Rattle.irc_names.specs.Fold.{key}
use Rattle.irc_names.specs.Tables.{Table, fold_cmp, row, alter, moved}
use Rattle.irc_names.specs.TableLaws.{same_fold, same_fold-refl, one_fold, row-alter}
use Rattle.irc_names.specs.TableLaws.{row-alter_same, row-moved, row-moved_none}
use Rattle.irc_users.specs.declared.user.User.{User}
use Rattle.irc_channels.specs.declared.channel.Channel.{Channel}
use Rattle.irc_channels.specs.Channels.{has_member, new_channel, joined, left, without_user}
use Rattle.irc_channels.specs.Channels.{while_members, invited_too, with_topic, renamed}
use Rattle.irc_modes.specs.Modes.{is_nil}
use Rattle.irc_effects.specs.Room.{IsSoundRow}
use Rattle.irc_effects.specs.Lemmas.Rows.{some_key, some_row}

-- each fold that stands in one table stands in another
pub record IsWithin {X Y : Type 0} (small : Table X) (large : Table Y) : Type 0 where
  pub at : (q : List ℕ) → is_some (row small q) ≡ true → is_some (row large q) ≡ true

pub empty_within : {X Y : Type 0} (table : Table Y) → IsWithin (empty {X = X} {R = fold_cmp}) table
empty_within {X} table =
    record {
      at = λ q there.
          absurd (false≢true (sym (ap is_some (get-empty {X = X} fold_cmp q)) ∙ there));
    }

-- a change of one row that keeps the table within another
pub alter_within : {X Y : Type 0} (fold : List ℕ) (change : Option X → Option X) (small : Table X)
    (large : Table Y) → IsWithin small large → (is_some (change (row small fold)) ≡ true
    → is_some (row large fold) ≡ true) → IsWithin (alter fold change small) large
alter_within fold change small large within here =
    record {
      at = λ q there. by_fold q (same_fold q fold) refl
          (sym (ap is_some (row-alter fold change small q)) ∙ there);
    }
  where
    by_fold : (q : List ℕ) (b : Bool) → same_fold q fold ≡ b
        → is_some (cond b (change (row small fold)) (row small q)) ≡ true
        → is_some (row large q) ≡ true
    by_fold q true one there =
        subst (λ p. is_some (row large p) ≡ true) (sym (one_fold q fold one)) (here there)
    by_fold q false two there = within.at q there

-- one user is gone from both tables
pub both_without : {X Y : Type 0} (fold : List ℕ) (small : Table X) (large : Table Y)
    → IsWithin small large → IsWithin (alter fold (λ _. None) small) (alter fold (λ _. None) large)
both_without fold small large within =
    record {
      at = λ q there.
          ap is_some (row-alter fold (λ _. None) large q)
          ∙ by_fold q (same_fold q fold)
          (sym (ap is_some (row-alter fold (λ _. None) small q)) ∙ there);
    }
  where
    by_fold : (q : List ℕ) (b : Bool) → is_some (cond b None (row small q)) ≡ true
        → is_some (cond b None (row large q)) ≡ true
    by_fold q true there = there
    by_fold q false there = within.at q there

-- one user is moved in both tables; in the small one it need not be
pub both_moved : {X Y : Type 0} (old new : List ℕ) (f : X → X) (g : Y → Y) (small : Table X)
    (large : Table Y) → IsWithin small large → is_some (row large old) ≡ true
    → IsWithin (moved old new f small) (moved old new g large)
both_moved {X} {Y} old new f g small large within there = by_large (row large old) refl there
  where
    by_folds : (q : List ℕ) (x : X) (y : Y) (b c : Bool)
        → is_some (cond b (Some (f x)) (cond c None (row small q))) ≡ true
        → is_some (cond b (Some (g y)) (cond c None (row large q))) ≡ true
    by_folds q x y true c there = refl
    by_folds q x y false true there = there
    by_folds q x y false false there = within.at q there

    absent_there : (q : List ℕ) (y : Y) (b c : Bool) → row small old ≡ None
        → same_fold q old ≡ c → is_some (row small q) ≡ true
        → is_some (cond b (Some (g y)) (cond c None (row large q))) ≡ true
    absent_there q y true c none one there = refl
    absent_there q y false true none one there =
        sym (ap is_some (ap (row small) (one_fold q old one) ∙ none)) ∙ there
    absent_there q y false false none one there = within.at q there

    by_small : (y : Y) → row large old ≡ Some y → (o : Option X) → row small old ≡ o
        → IsWithin (moved old new f small) (moved old new g large)
    by_small y here (Some x) is = record {
      at = λ q there.
          ap is_some (row-moved old new g large y here q)
          ∙ by_folds q x y (same_fold q new) (same_fold q old)
          (sym (ap is_some (row-moved old new f small x is q)) ∙ there);
    }
    by_small y here None is = record {
      at = λ q there.
          ap is_some (row-moved old new g large y here q)
          ∙ absent_there q y (same_fold q new) (same_fold q old) is refl
          (sym (ap is_some (row-moved_none old new f small is q)) ∙ there);
    }

    by_large : (o : Option Y) → row large old ≡ o → is_some o ≡ true
        → IsWithin (moved old new f small) (moved old new g large)
    by_large None is there = cc
    by_large (Some y) is there = by_small y is (row small old) refl

-- a table that is moved keeps a key
pub moved_some : {X : Type 0} (old new : List ℕ) (f : X → X) (table : Table X)
    → is_nil (keys table) ≡ false → is_nil (keys (moved old new f table)) ≡ false
moved_some {X} old new f table some = by_row (row table old) refl
  where
    by_row : (o : Option X) → row table old ≡ o → is_nil (keys (moved old new f table)) ≡ false
    by_row (Some x) is = some_key (moved old new f table) new
        (ap is_some
        (row-moved old new f table x is new
        ∙ ap (λ b. cond b (Some (f x)) (cond (same_fold new old) None (row table new)))
        (same_fold-refl new)))
    by_row None is =
        let found = some_row table some in
        some_key (moved old new f table) found.0
        (ap is_some (row-moved_none old new f table is found.0) ∙ found.1)

-- a row that is sound but for its having a member
pub record IsKnown (users : Table User) (fold : List ℕ) (channel : Channel) : Type 0 where
  pub named : key channel.name ≡ fold
  pub members : IsWithin channel.members users
  pub invited : IsWithin channel.invited users

pub known : (users : Table User) (fold : List ℕ) (channel : Channel) → IsSoundRow users fold channel
    → IsKnown users fold channel
known users fold channel sound = record {
  named = sound.named;
  members = record { at = sound.members_known };
  invited = record { at = sound.invited_known };
}

pub sound : (users : Table User) (fold : List ℕ) (channel : Channel) → IsKnown users fold channel
    → is_nil (keys channel.members) ≡ false → IsSoundRow users fold channel
sound users fold channel known some = record {
  named = known.named;
  members_known = known.members.at;
  invited_known = known.invited.at;
  some_member = some;
}

-- a row stays sound while users come
pub sound_more : (users more : Table User) (fold : List ℕ) (channel : Channel)
    → IsWithin users more → IsSoundRow users fold channel → IsSoundRow more fold channel
sound_more users more fold channel within sound = record {
  named = sound.named;
  members_known = λ q there. within.at q (sound.members_known q there);
  invited_known = λ q there. within.at q (sound.invited_known q there);
  some_member = sound.some_member;
}

-- what is left of a channel while it has members is sound
pub while_sound : (users : Table User) (fold : List ℕ) (channel after : Channel)
    → IsKnown users fold channel → while_members channel ≡ Some after → IsSoundRow users fold after
while_sound users fold channel after names = by_test (is_nil (keys channel.members)) refl
  where
    by_test : (b : Bool) → is_nil (keys channel.members) ≡ b
        → (if b then None else Some channel) ≡ Some after → IsSoundRow users fold after
    by_test true some is = absurd (none-some after is)
    by_test false some is = subst (IsSoundRow users fold) (same_Some channel after is)
        (sound users fold channel names some)

-- a row whose member leaves
pub left_sound : (users : Table User) (fold nick : List ℕ) (channel after : Channel)
    → IsSoundRow users fold channel → left nick channel ≡ Some after → IsSoundRow users fold after
left_sound users fold nick channel after row_sound = by_test (has_member nick channel)
  where
    by_test : (b : Bool) → (if b
        then while_members (record channel { members = alter nick (λ _. None) channel.members })
        else Some channel) ≡ Some after → IsSoundRow users fold after
    by_test true is = while_sound users fold
        (record channel { members = alter nick (λ _. None) channel.members }) after (record {
          named = row_sound.named;
          members = alter_within nick (λ _. None) channel.members users
              (record { at = row_sound.members_known }) (λ e. absurd (false≢true e));
          invited = record { at = row_sound.invited_known };
        }) is
    by_test false is = subst (IsSoundRow users fold) (same_Some channel after is) row_sound

-- a row when a user is gone
pub without_sound : (users : Table User) (fold nick : List ℕ) (channel after : Channel)
    → IsSoundRow users fold channel → without_user nick channel ≡ Some after
    → IsSoundRow (alter nick (λ _. None) users) fold after
without_sound users fold nick channel after row_sound is =
    while_sound (alter nick (λ _. None) users) fold
    (record channel {
      members = alter nick (λ _. None) channel.members;
      invited = alter nick (λ _. None) channel.invited;
    }) after
    (record {
      named = row_sound.named;
      members = both_without nick channel.members users (record { at = row_sound.members_known });
      invited = both_without nick channel.invited users (record { at = row_sound.invited_known });
    }) is

-- a row when a user has another nickname
pub renamed_sound : (users : Table User) (fold old new : List ℕ) (f : User → User)
    (channel : Channel) → IsSoundRow users fold channel → is_some (row users old) ≡ true
    → IsSoundRow (moved old new f users) fold (renamed old new channel)
renamed_sound users fold old new f channel row_sound there = record {
  named = row_sound.named;
  members_known = (both_moved old new (λ flags. flags) f channel.members users
      (record { at = row_sound.members_known }) there).at;
  invited_known = (both_moved old new (λ u. u) f channel.invited users
      (record { at = row_sound.invited_known }) there).at;
  some_member = moved_some old new (λ flags. flags) channel.members row_sound.some_member;
}

-- a row that a user joins, which need not have a member before
pub joined_sound : (users : Table User) (fold nick : List ℕ) (op : Bool) (channel : Channel)
    → IsKnown users fold channel → is_some (row users nick) ≡ true
    → IsSoundRow users fold (joined nick op channel)
joined_sound users fold nick op channel names there = by_test (has_member nick channel) refl
  where
    by_test : (b : Bool) → has_member nick channel ≡ b
        → IsSoundRow users fold
        (if b then channel else record channel {
          members =
              alter nick (λ _. Some (record { op = op; voice = false })) channel.members;
          invited = alter nick (λ _. None) channel.invited;
        })
    by_test true is = sound users fold channel names (some_key channel.members nick is)
    by_test false is = record {
      named = names.named;
      members_known = (alter_within nick (λ _. Some (record { op = op; voice = false }))
          channel.members users names.members (λ e. there)).at;
      invited_known =
          (alter_within nick (λ _. None) channel.invited users names.invited
          (λ e. absurd (false≢true e))).at;
      some_member = some_key _ nick (ap is_some
          (row-alter_same nick (λ _. Some (record { op = op; voice = false })) channel.members));
    }

pub new_known : (users : Table User) (name : List ℕ) → IsKnown users (key name) (new_channel name)
new_known users name =
    record { named = refl; members = empty_within users; invited = empty_within users }

pub invited_sound : (users : Table User) (fold nick : List ℕ) (channel : Channel)
    → IsSoundRow users fold channel → is_some (row users nick) ≡ true
    → IsSoundRow users fold (invited_too nick channel)
invited_sound users fold nick channel row_sound there = record {
  named = row_sound.named;
  members_known = row_sound.members_known;
  invited_known = (alter_within nick (λ _. Some tt) channel.invited users
      (record { at = row_sound.invited_known }) (λ e. there)).at;
  some_member = row_sound.some_member;
}

pub topic_sound : (users : Table User) (fold topic : List ℕ) (channel : Channel)
    → IsSoundRow users fold channel → IsSoundRow users fold (with_topic topic channel)
topic_sound users fold topic channel row_sound = record {
  named = row_sound.named;
  members_known = row_sound.members_known;
  invited_known = row_sound.invited_known;
  some_member = row_sound.some_member;
}
