-- What is left of an edit behind another one can be made there.
use Rattle.std.proofs.Common.{◌≡◌, Bool, true, false, ◌||◌, Option, None, List}
use Rattle.std.proofs.Common.{refl, sym, ap, ◌∙◌, is_some, true≢false}
use Rattle.std.proofs.Common.{if◌then◌else◌}
use Rattle.std.proofs.Math.Bool.{false≢true}
use Rattle.irc_names.specs.TableLaws.{same_fold}
use Rattle.irc_edited_rooms.specs.Writes.{Row, Writes, written}
use Rattle.irc_edited_rooms.specs.Fates.{Fate, stays, goes, comes, untouched, is_going, is_coming}
use Rattle.irc_edited_rooms.specs.Fates.{after_fate, user_behind, member_behind}
use Rattle.irc_edited_rooms.specs.Documents.{Nick, ChannelName, Document, Update}
use Rattle.irc_edited_rooms.specs.Documents.{is_name, pick, updated, renamed}
use Rattle.irc_edited_rooms.specs.Documents.{written_at, IsSound}
use Rattle.irc_edited_rooms.specs.Crossing.{IsFitting, MayBeRenamed, MayBeMade, both_going}
use Rattle.irc_edited_rooms.specs.Crossing.{going_if, member_followed, member_left, nothing}
use Rattle.irc_edited_rooms.specs.Crossing.{rename_left, rename_behind_rename, update_behind}
use Rattle.irc_edited_rooms.specs.Crossing.{update_followed, user_followed, users_behind}
use Rattle.irc_edited_rooms.specs.Lemmas.FatesMeet.{none_stays, there_by_map}
use Rattle.irc_edited_rooms.specs.Lemmas.Living.{two_folds}
use Rattle.irc_edited_rooms.specs.Lemmas.StaySound.{updated_sound, renamed_sound}
use Rattle.irc_edited_rooms.specs.Lemmas.TwoRenames.{elsewhere, there_apart}

none_comes : (Place : Type 0) (b : Bool) → is_coming (going_if {Place = Place} b) ≡ true → ⊥
none_comes Place true is = false≢true is
none_comes Place false is = false≢true is

module _ {Place : Type 0} where
  -- ---- who comes, goes or stays behind another fate

  pub user_comes : (is_there : Bool) (theirs ours : Fate Place)
      → is_coming (user_behind is_there theirs ours) ≡ true
      → (is_coming theirs ≡ true) × (is_coming ours ≡ false)
  user_comes is_there (stays v) (stays w) is = absurd (false≢true is)
  user_comes is_there (stays v) goes is = absurd (false≢true is)
  user_comes true (stays v) (comes w) is = absurd (false≢true is)
  user_comes false (stays v) (comes w) is = absurd (false≢true is)
  user_comes is_there goes (stays w) is = absurd (false≢true is)
  user_comes is_there goes goes is = absurd (false≢true is)
  user_comes true goes (comes w) is = absurd (false≢true is)
  user_comes false goes (comes w) is = absurd (false≢true is)
  user_comes is_there (comes v) (stays w) is = (refl, refl)
  user_comes is_there (comes v) goes is = (refl, refl)
  user_comes is_there (comes v) (comes w) is = absurd (false≢true is)

  pub member_comes : (is_there : Bool) (theirs ours : Fate Place)
      → is_coming (member_behind is_there theirs ours) ≡ true → is_coming theirs ≡ true
  member_comes is_there (stays v) (stays w) is = is
  member_comes is_there (stays v) goes is = is
  member_comes true (stays v) (comes w) is = is
  member_comes false (stays v) (comes w) is = is
  member_comes is_there goes (stays w) is = is
  member_comes is_there goes goes is = is
  member_comes true goes (comes w) is = is
  member_comes false goes (comes w) is = is
  member_comes is_there (comes v) ours is = refl

  pub record Left (theirs_left ours left : Fate Place) : Type 0 where
    pub they_stay : is_going theirs_left ≡ false
    pub ours_stay : is_going ours ≡ false
    pub comes_left : is_coming left ≡ true

  pub left_comes : (theirs_left ours left : Fate Place)
      → is_coming (member_left theirs_left ours left) ≡ true → Left theirs_left ours left
  left_comes goes ours left is = absurd (false≢true is)
  left_comes (stays v) goes left is = absurd (false≢true is)
  left_comes (comes v) goes left is = absurd (false≢true is)
  left_comes (stays v) (stays w) left is =
      record { they_stay = refl; ours_stay = refl; comes_left = is }
  left_comes (stays v) (comes w) left is =
      record { they_stay = refl; ours_stay = refl; comes_left = is }
  left_comes (comes v) (stays w) left is =
      record { they_stay = refl; ours_stay = refl; comes_left = is }
  left_comes (comes v) (comes w) left is =
      record { they_stay = refl; ours_stay = refl; comes_left = is }

  pub stays_there : (fate : Fate Place) (row : Option (Row Place)) → is_going fate ≡ false
      → is_some row ≡ true → is_some (after_fate fate row) ≡ true
  stays_there (stays v) row other there = there_by_map (written v) row ∙ there
  stays_there goes row other there = absurd (true≢false other)
  stays_there (comes v) row other there = refl

  -- ---- an update behind an update

  pub update_behind_fits : (names : List Nick) (room : Document Place) (ours theirs : Update Place)
      → IsFitting names room ours → IsFitting names room theirs
      → IsFitting names (updated names room ours) (update_behind names room theirs ours)
  update_behind_fits names room ours theirs our_may their_may = record {
    sound = updated_sound names room ours our_may;
    newcomers = λ nick is.
        let parts = user_comes (is_some (room.user nick)) (theirs.user nick) (ours.user nick) is in
        let free = their_may.newcomers nick parts.0 in
        (ap (after_fate (ours.user nick)) free.0 ∙ none_stays (ours.user nick) parts.1, free.1);
    joiners = λ name nick is.
        let left = left_comes (users_behind room theirs ours nick) (ours.user nick)
        (member_behind (is_some (room.member name nick)) (theirs.member name nick)
        (ours.member name nick)) is in
        let joins = their_may.joiners name nick (member_comes (is_some (room.member name nick))
        (theirs.member name nick) (ours.member name nick) left.comes_left) in
        (stays_there (ours.user nick) (room.user nick) left.ours_stay joins.0, left.they_stay);
    leavers = λ name nick is.
        ap (λ b. is_going (if b then goes else (if is_going (ours.user nick) then untouched
        else member_behind (is_some (room.member name nick)) (theirs.member name nick)
        (ours.member name nick)))) is;
  }

  -- ---- an update behind a nickname for another

  going_from : (theirs : Fate Place) (v : Writes Place)
      → is_going (user_behind true theirs (stays v)) ≡ true → is_going theirs ≡ true
  going_from (stays w) v is = is
  going_from goes v is = refl
  going_from (comes w) v is = is

  staying_from : (theirs : Fate Place) (v : Writes Place) → is_going theirs ≡ false
      → is_going (user_behind true theirs (stays v)) ≡ false
  staying_from (stays w) v is = refl
  staying_from goes v is = is
  staying_from (comes w) v is = refl

  module _ (names : List Nick) (room : Document Place) (theirs : Update Place) (old new : Nick)
      (v : Writes Place) (their_may : IsFitting names room theirs)
      (our_may : MayBeRenamed names room old new) where
    newcomer_at : (q b c : Bool) (nick : Nick)
        → is_coming (pick b c (user_followed q v (theirs.user old)) untouched (theirs.user nick))
        ≡ true
        → (written_at b v (room.user (pick b c old new nick)) ≡ None)
        × (is_name names nick ≡ true)
    newcomer_at true true c nick is = absurd (false≢true is)
    newcomer_at false true c nick is =
        absurd (false≢true (sym (ap is_some (their_may.newcomers old
        (user_comes true (theirs.user old) (stays v) is).0).0) ∙ our_may.there))
    newcomer_at q false true nick is = absurd (false≢true is)
    newcomer_at q false false nick is = their_may.newcomers nick is

    joiner_at : (q b c : Bool) (name : ChannelName) (nick : Nick)
        → is_coming (pick b c (member_followed q (theirs.member name old)) untouched
        (theirs.member name nick)) ≡ true
        → (is_some (written_at b v (room.user (pick b c old new nick))) ≡ true)
        × (is_going (pick b c (user_followed q v (theirs.user old)) untouched
        (theirs.user nick)) ≡ false)
    joiner_at true true c name nick is = absurd (false≢true is)
    joiner_at false true c name nick is =
        let joins = their_may.joiners name old is in (
          there_by_map (written v) (room.user old) ∙ joins.0,
          staying_from (theirs.user old) v joins.1,
        )
    joiner_at q false true name nick is = absurd (false≢true is)
    joiner_at q false false name nick is = their_may.joiners name nick is

    leaver_at : (q b c : Bool) (name : ChannelName) (nick : Nick)
        → is_going (pick b c (user_followed q v (theirs.user old)) untouched (theirs.user nick))
        ≡ true
        → is_going (pick b c (member_followed q (theirs.member name old)) untouched
        (theirs.member name nick)) ≡ true
    leaver_at true true c name nick is = refl
    leaver_at false true c name nick is =
        their_may.leavers name old (going_from (theirs.user old) v is)
    leaver_at q false true name nick is = absurd (false≢true is)
    leaver_at q false false name nick is = their_may.leavers name nick is

    pub followed_fits : (is_met : Bool)
        → IsFitting names (renamed names room old new v) (update_followed is_met theirs old new v)
    followed_fits is_met = record {
      sound = renamed_sound names room old new v our_may;
      newcomers = λ nick. newcomer_at is_met (same_fold nick new) (same_fold nick old) nick;
      joiners = λ name nick. joiner_at is_met (same_fold nick new) (same_fold nick old) name nick;
      leavers = λ name nick. leaver_at is_met (same_fold nick new) (same_fold nick old) name nick;
    }

  -- ---- who goes

  pub going_fits : (names : List Nick) (room : Document Place) (one other : Nick)
      → IsSound names room → IsFitting names room (both_going one other)
  going_fits names room one other sound = record {
    sound = sound;
    newcomers =
        λ nick is. absurd (none_comes Place (same_fold nick one || same_fold nick other) is);
    joiners = λ name nick is.
        absurd (none_comes Place (same_fold nick one || same_fold nick other) is);
    leavers = λ name nick is. is;
  }

  nothing_fits : (names : List Nick) (room : Document Place) → IsSound names room
      → IsFitting names room nothing
  nothing_fits names room sound = record {
    sound = sound;
    newcomers = λ nick is. absurd (false≢true is);
    joiners = λ name nick is. absurd (false≢true is);
    leavers = λ name nick is. absurd (false≢true is);
  }

  -- ---- a nickname for another

  pub rename_left_may : (names : List Nick) (room : Document Place) (ours : Update Place)
      (old new : Nick) (v : Writes Place) → MayBeRenamed names room old new
      → IsFitting names room ours → (is_met : Bool) → is_coming (ours.user new) ≡ is_met
      → (fate : Fate Place) → ours.user old ≡ fate
      → MayBeMade names (updated names room ours) (rename_left is_met old new v fate)
  rename_left_may names room ours old new v may our_may true is fate at =
      going_fits names (updated names room ours) old new (updated_sound names room ours our_may)
  rename_left_may names room ours old new v may our_may false is (stays w) at = record {
    sound = updated_sound names room ours our_may;
    there = stays_there (ours.user old) (room.user old) (ap is_going at) may.there;
    free = ap (after_fate (ours.user new)) may.free ∙ none_stays (ours.user new) is;
    named = may.named;
  }
  rename_left_may names room ours old new v may our_may false is goes at =
      nothing_fits names (updated names room ours) (updated_sound names room ours our_may)
  rename_left_may names room ours old new v may our_may false is (comes w) at =
      absurd (false≢true (sym (ap is_some (our_may.newcomers old (ap is_coming at)).0)
      ∙ may.there))

  pub two_renames_may : (names : List Nick) (room : Document Place) (o n : Nick)
      (w : Writes Place) (p q : Nick) (v : Writes Place) → MayBeRenamed names room o n
      → MayBeRenamed names room p q → (is_one is_met : Bool) → same_fold o p ≡ is_one
      → same_fold n q ≡ is_met
      → MayBeMade names (renamed names room p q v) (rename_behind_rename is_one is_met o n w q)
  two_renames_may names room o n w p q v may our_may true is_met op nq =
      going_fits names (renamed names room p q v) q q (renamed_sound names room p q v our_may)
  two_renames_may names room o n w p q v may our_may false true op nq =
      going_fits names (renamed names room p q v) o n (renamed_sound names room p q v our_may)
  two_renames_may names room o n w p q v may our_may false false op nq = record {
    sound = renamed_sound names room p q v our_may;
    there = ap is_some (elsewhere room.user p q o v
        (there_apart names room o n w p q v may our_may o q may.there our_may.free) op)
        ∙ may.there;
    free = elsewhere room.user p q n v nq (two_folds n p
        ∙ there_apart names room o n w p q v may our_may p n our_may.there may.free) ∙ may.free;
    named = may.named;
  }
