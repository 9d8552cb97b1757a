-- What becomes of an update that writes in no channel and brings nobody to one, row by row.
use Rattle.std.proofs.Common.{◌≡◌, Bool, true, false, Option, Some, None, List}
use Rattle.std.proofs.Common.{refl, sym, ap, subst, ◌∙◌, is_some, true≢false}
use Rattle.std.proofs.Math.Bool.{false≢true}
use Rattle.irc_edited_rooms.specs.Alike.{AlikeFates, AlikeUpdates, IsIdle, idle}
use Rattle.irc_edited_rooms.specs.Writes.{Row, Writes, no_writes}
use Rattle.irc_edited_rooms.specs.Fates.{Fate, stays, goes, comes, untouched, is_coming, is_going}
use Rattle.irc_edited_rooms.specs.Fates.{after_fate, both_go, is_one, member_behind, user_behind}
use Rattle.irc_edited_rooms.specs.Documents.{ChannelName, Document, Nick, Update, lives}
use Rattle.irc_edited_rooms.specs.Documents.{members_after, renamed, updated}
use Rattle.irc_edited_rooms.specs.Crossing.{lives_by, member_left, members_behind, set_left}
use Rattle.irc_edited_rooms.specs.Crossing.{update_behind, update_followed, users_behind}
use Rattle.irc_edited_rooms.specs.Lemmas.AlikeCrossings.{idle_behind}
use Rattle.irc_edited_rooms.specs.Lemmas.Living.{more_live}
use Rattle.irc_edited_rooms.specs.Lemmas.MayStay.{left_comes, member_comes}
use Rattle.irc_edited_rooms.specs.Lemmas.NothingCrosses.{still_idle}

module _ {Place : Type 0} where
  -- ---- one row

  -- of a user, where theirs leaves it
  pub user_idle : (user : Option (Row Place)) (theirs ours target : Fate Place)
      → theirs ≡ untouched → target ≡ untouched
      → AlikeFates (after_fate ours user) (user_behind (is_some user) theirs ours) target
  user_idle user theirs ours target is is_too = idle
      (subst (λ fate. IsIdle (after_fate ours user) (user_behind (is_some user) fate ours))
      (sym is) (idle_behind both_go user untouched ours (still_idle user)))
      (subst (IsIdle (after_fate ours user)) (sym is_too) (still_idle (after_fate ours user)))

  left_so : (row : Option (Row Place)) (theirs_left ours left : Fate Place)
      → is_going theirs_left ≡ false → IsIdle row left
      → IsIdle row (member_left theirs_left ours left)
  left_so row goes ours left other is = absurd (true≢false other)
  left_so row (stays v) (stays w) left other is = is
  left_so row (stays v) goes left other is = still_idle row
  left_so row (stays v) (comes w) left other is = is
  left_so row (comes v) (stays w) left other is = is
  left_so row (comes v) goes left other is = still_idle row
  left_so row (comes v) (comes w) left other is = is

  -- of a member, where theirs leaves it and its user does not go
  pub member_idle : (member : Option (Row Place))
      (theirs_left our_user theirs ours target : Fate Place) → is_going theirs_left ≡ false
      → theirs ≡ untouched → target ≡ untouched → AlikeFates (after_fate ours member)
      (member_left theirs_left our_user (member_behind (is_some member) theirs ours)) target
  member_idle member theirs_left our_user theirs ours target other is is_too = idle
      (left_so (after_fate ours member) theirs_left our_user
      (member_behind (is_some member) theirs ours) other
      (subst (λ fate. IsIdle (after_fate ours member) (member_behind (is_some member) fate ours))
      (sym is) (idle_behind is_one member untouched ours (still_idle member))))
      (subst (IsIdle (after_fate ours member)) (sym is_too) (still_idle (after_fate ours member)))

  -- who is left where theirs leaves a user does not go
  pub none_goes : (is_there : Bool) (theirs ours : Fate Place) → theirs ≡ untouched
      → is_going (user_behind is_there theirs ours) ≡ false
  none_goes is_there theirs ours is =
      ap (λ fate. is_going (user_behind is_there fate ours)) is ∙ by is_there ours
    where
      by : (is_there : Bool) (ours : Fate Place)
          → is_going (user_behind is_there untouched ours) ≡ false
      by is_there (stays w) = refl
      by is_there goes = refl
      by true (comes w) = refl
      by false (comes w) = refl

  -- ---- all rows

  still_there : (fate : Fate Place) (row : Option (Row Place)) → is_coming fate ≡ false
      → is_some (after_fate fate row) ≡ true → is_some row ≡ true
  still_there (stays v) None other there = there
  still_there (stays v) (Some row) other there = refl
  still_there goes row other there = absurd (false≢true there)
  still_there (comes v) row other there = absurd (true≢false other)

  none_left : (was lives_theirs lives_ours : Bool) (row : Row Place) (theirs ours : Writes Place)
      → theirs ≡ no_writes → lives_ours ≡ true
      → set_left was lives_theirs lives_ours row theirs ours ≡ no_writes
  none_left true true true row theirs ours none there =
      ap (λ it. set_left true true true row it ours) none
  none_left false true true row theirs ours none there =
      ap (λ it. set_left false true true row it ours) none
  none_left true false c row theirs ours none there = refl
  none_left false false c row theirs ours none there = refl
  none_left true true false row theirs ours none there = absurd (false≢true there)
  none_left false true false row theirs ours none there = none

  module _ (names : List Nick) (room : Document Place) (theirs ours target : Update Place)
      (brings_nobody : (name : ChannelName) (nick : Nick)
      → is_coming (theirs.member name nick) ≡ false)
      (sets_nothing : (name : ChannelName) → theirs.set name ≡ no_writes)
      (nor_target : (name : ChannelName) → target.set name ≡ no_writes) where
    not_true : (b : Bool) → (b ≡ true → ⊥) → b ≡ false
    not_true true never = absurd (never refl)
    not_true false never = refl

    none_comes : (name : ChannelName) (nick : Nick)
        → is_coming (members_behind room theirs ours name nick) ≡ false
    none_comes name nick = not_true (is_coming (members_behind room theirs ours name nick))
        (λ is. true≢false (sym (member_comes (is_some (room.member name nick))
        (theirs.member name nick) (ours.member name nick)
        (left_comes (users_behind room theirs ours nick) (ours.user nick)
        (member_behind (is_some (room.member name nick)) (theirs.member name nick)
        (ours.member name nick)) is).comes_left) ∙ brings_nobody name nick))

    lives_ours : (name : ChannelName)
        → lives_by names (updated names room ours) (update_behind names room theirs ours) name
        ≡ true → lives_by names room ours name ≡ true
    lives_ours name there = more_live names
        (members_after (members_behind room theirs ours name)
        ((updated names room ours).member name))
        ((updated names room ours).member name)
        (λ nick. still_there (members_behind room theirs ours name nick)
        ((updated names room ours).member name nick) (none_comes name nick)) there

    -- an update behind an update
    pub behind_update : ((nick : Nick) → AlikeFates ((updated names room ours).user nick)
        (users_behind room theirs ours nick) (target.user nick))
        → ((name : ChannelName) (nick : Nick)
        → AlikeFates ((updated names room ours).member name nick)
        (members_behind room theirs ours name nick) (target.member name nick))
        → AlikeUpdates names (updated names room ours) (update_behind names room theirs ours)
        target
    behind_update users members = record {
      users = users;
      members = members;
      sets = λ name there. none_left (lives names (room.member name))
          (lives_by names room theirs name) (lives_by names room ours name) (room.channel name)
          (theirs.set name) (ours.set name) (sets_nothing name) (lives_ours name there)
          ∙ sym (nor_target name);
    }

    -- and behind a nickname for another
    pub behind_rename : (is_met : Bool) (old new : Nick) (v : Writes Place)
        → ((nick : Nick) → AlikeFates ((renamed names room old new v).user nick)
        ((update_followed is_met theirs old new v).user nick) (target.user nick))
        → ((name : ChannelName) (nick : Nick)
        → AlikeFates ((renamed names room old new v).member name nick)
        ((update_followed is_met theirs old new v).member name nick) (target.member name nick))
        → AlikeUpdates names (renamed names room old new v)
        (update_followed is_met theirs old new v) target
    behind_rename is_met old new v users members = record {
      users = users;
      members = members;
      sets = λ name there. sets_nothing name ∙ sym (nor_target name);
    }
