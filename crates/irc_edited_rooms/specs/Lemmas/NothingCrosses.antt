-- Nothing behind any edit is nothing, and any edit behind nothing is what it was.
use Rattle.std.proofs.Common.{◌≡◌, ℕ, Bool, true, false, Option, Some, None, List}
use Rattle.std.proofs.Common.{refl, sym, ap, ◌∙◌, is_some, true≢false}
use Rattle.std.proofs.Math.Bool.{false≢true}
use Rattle.irc_names.specs.TableLaws.{same_fold}
use Rattle.irc_edited_rooms.specs.Alike.{AlikeEdits, AlikeFates, AlikeUpdates, IsIdle, equal, idle}
use Rattle.irc_edited_rooms.specs.Writes.{Row, Writes, less, no_writes, writes_behind}
use Rattle.irc_edited_rooms.specs.Fates.{Fate, stays, goes, comes, untouched, is_going, after_fate}
use Rattle.irc_edited_rooms.specs.Fates.{both_go, fate_behind, is_one, member_behind, user_behind}
use Rattle.irc_edited_rooms.specs.Documents.{ChannelName, Document, Edit, Nick, Update, edited}
use Rattle.irc_edited_rooms.specs.Documents.{lives}
use Rattle.irc_edited_rooms.specs.Documents.{members_after, pick, rename, update, updated}
use Rattle.irc_edited_rooms.specs.Crossing.{IsFitting, MayBeMade, crossed, lives_by, member_left}
use Rattle.irc_edited_rooms.specs.Crossing.{nothing, set_left, update_behind}
use Rattle.irc_edited_rooms.specs.Lemmas.AlikeCrossings.{fates_lead, idle_behind}
use Rattle.irc_edited_rooms.specs.Lemmas.FatesMeet.{untouched_stays}

module _ {Place : Type 0} where
  pub still_idle : (row : Option (Row Place)) → IsIdle row untouched
  still_idle None = refl
  still_idle (Some row) = refl

  -- ---- nothing behind an edit

  pub left_idle : (row : Option (Row Place)) (user : Option (Row Place))
      (ours left : Fate Place) → IsIdle row left
      → IsIdle row (member_left (user_behind (is_some user) untouched ours) ours left)
  left_idle row user (stays w) left is = is
  left_idle row user goes left is = still_idle row
  left_idle row None (comes w) left is = is
  left_idle row (Some user) (comes w) left is = is

  module _ (names : List Nick) (room : Document Place) where
    no_change : (name : ChannelName)
        → members_after (nothing.member name) (room.member name) ≡ room.member name
    no_change name i nick = untouched_stays (room.member name nick) i

    nothing_lives : (name : ChannelName)
        → lives_by names room nothing name ≡ lives names (room.member name)
    nothing_lives name = ap (lives names) (no_change name)

    member_nothing : (ours : Update Place) (name : ChannelName) (nick : Nick)
        → AlikeFates ((updated names room ours).member name nick)
        ((update_behind names room nothing ours).member name nick) untouched
    member_nothing ours name nick = idle
        (left_idle ((updated names room ours).member name nick) (room.user nick)
        (ours.user nick)
        (member_behind (is_some (room.member name nick)) untouched (ours.member name nick))
        (idle_behind is_one (room.member name nick) untouched (ours.member name nick)
        (still_idle (room.member name nick))))
        (still_idle ((updated names room ours).member name nick))

    -- who is there behind ours is there behind nothing of it too
    same_lives : (ours : Update Place) (name : ChannelName)
        → lives_by names (updated names room ours) (update_behind names room nothing ours) name
        ≡ lives_by names room ours name
    same_lives ours name = ap (lives names) (λ i nick. (fates_lead
        ((updated names room ours).member name nick)
        ((update_behind names room nothing ours).member name nick) untouched
        (member_nothing ours name nick)
        ∙ untouched_stays ((updated names room ours).member name nick)) i)

    none_set : (was lives_nothing lives_ours : Bool) (row : Row Place) (ours : Writes Place)
        → lives_nothing ≡ was → lives_ours ≡ true
        → set_left was lives_nothing lives_ours row no_writes ours ≡ no_writes
    none_set true true true row ours same there = refl
    none_set true true false row ours same there = absurd (false≢true there)
    none_set true false c row ours same there = refl
    none_set false true c row ours same there = absurd (true≢false same)
    none_set false false c row ours same there = refl

    nothing_behind : (ours : Update Place)
        → AlikeUpdates names (updated names room ours) (update_behind names room nothing ours)
        nothing
    nothing_behind ours = record {
      users = λ nick. idle (idle_behind both_go (room.user nick) untouched (ours.user nick)
          (still_idle (room.user nick))) (still_idle ((updated names room ours).user nick));
      members = member_nothing ours;
      sets = λ name there. none_set (lives names (room.member name))
          (lives_by names room nothing name) (lives_by names room ours name) (room.channel name)
          (ours.set name) (nothing_lives name) (sym (same_lives ours name) ∙ there);
    }

    pick_nothing : (b c : Bool)
        → pick b c untouched untouched untouched ≡ untouched {Place = Place}
    pick_nothing true c = refl
    pick_nothing false true = refl
    pick_nothing false false = refl

    pub nothing_stays : (ours : Edit Place)
        → AlikeEdits names (edited names room ours) (crossed names room (update nothing) ours)
        (update nothing)
    nothing_stays (update ours) = nothing_behind ours
    nothing_stays (rename old new v) = record {
      users = λ nick. equal (pick_nothing (same_fold nick new) (same_fold nick old));
      members = λ name nick. equal (pick_nothing (same_fold nick new) (same_fold nick old));
      sets = λ name there. refl;
    }

  -- ---- an edit behind nothing

  no_less : (writes : Writes Place) → writes_behind writes no_writes ≡ writes
  no_less writes i place = by (writes place) i
    where
      by : (write : Option (List ℕ)) → less write None ≡ write
      by None = refl
      by (Some value) = refl

  fate_same : (meeting : Writes Place → Writes Place → Fate Place) (there : Bool)
      (fate : Fate Place) → fate_behind meeting there fate untouched ≡ fate
  fate_same meeting there (stays w) = ap stays (no_less w)
  fate_same meeting there goes = refl
  fate_same meeting true (comes w) = ap comes (no_less w)
  fate_same meeting false (comes w) = refl

  left_same : (of_user left : Fate Place) → (is_going of_user ≡ true → is_going left ≡ true)
      → member_left of_user untouched left ≡ left
  left_same (stays v) left leaver = refl
  left_same (comes v) left leaver = refl
  left_same goes (stays w) leaver = absurd (false≢true (leaver refl))
  left_same goes goes leaver = refl
  left_same goes (comes w) leaver = absurd (false≢true (leaver refl))

  module _ (names : List Nick) (room : Document Place) where
    member_same : (theirs : Update Place) → IsFitting names room theirs → (name : ChannelName)
        (nick : Nick) → (update_behind names room theirs nothing).member name nick
        ≡ theirs.member name nick
    member_same theirs may name nick =
        ap (λ it. member_left it untouched (member_behind (is_some (room.member name nick))
        (theirs.member name nick) untouched))
        (fate_same both_go (is_some (room.user nick)) (theirs.user nick))
        ∙ ap (member_left (theirs.user nick) untouched)
        (fate_same is_one (is_some (room.member name nick)) (theirs.member name nick))
        ∙ left_same (theirs.user nick) (theirs.member name nick) (may.leavers name nick)

    set_same : (was lives_theirs lives_nothing : Bool) (row : Row Place) (theirs : Writes Place)
        → lives_nothing ≡ was → lives_theirs ≡ true
        → set_left was lives_theirs lives_nothing row theirs no_writes ≡ theirs
    set_same true true true row theirs same there = no_less theirs
    set_same true true false row theirs same there = absurd (false≢true same)
    set_same false true true row theirs same there = absurd (true≢false same)
    set_same false true false row theirs same there = refl
    set_same was false c row theirs same there = absurd (false≢true there)

    pub stays_same : (theirs : Edit Place) → MayBeMade names room theirs
        → AlikeEdits names room (crossed names room theirs (update nothing)) theirs
    stays_same (update theirs) may = record {
      users = λ nick. equal (fate_same both_go (is_some (room.user nick)) (theirs.user nick));
      members = λ name nick. equal (member_same theirs may name nick);
      sets = λ name there. set_same (lives names (room.member name))
          (lives_by names room theirs name) (lives_by names room nothing name)
          (room.channel name) (theirs.set name) (nothing_lives names room name)
          (sym (ap (lives names) (λ i nick. after_fate (member_same theirs may name nick i)
          (room.member name nick))) ∙ there);
    }
    stays_same (rename old new v) may = ap (rename old new) (no_less v)
