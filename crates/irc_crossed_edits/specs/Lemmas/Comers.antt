-- Somebody who comes by theirs.
use Rattle.std.proofs.Common.{◌≡◌, Bool, true, false, ◌||◌, None, List}
use Rattle.std.proofs.Common.{refl, sym, ap, ◌∙◌, is_some, true≢false}
use Rattle.std.proofs.Math.Bool.{false≢true}
use Rattle.irc_names.specs.TableLaws.{same_fold, one_fold}
use Rattle.irc_edited_rooms.specs.Alike.{AlikeFates, AlikeUpdates, equal}
use Rattle.irc_edited_rooms.specs.Writes.{Writes}
use Rattle.irc_edited_rooms.specs.Fates.{Fate, stays, goes, comes, untouched, is_coming, is_going}
use Rattle.irc_edited_rooms.specs.Fates.{member_behind, user_behind}
use Rattle.irc_edited_rooms.specs.Documents.{ChannelName, Document, Nick, Update, pick, renamed}
use Rattle.irc_edited_rooms.specs.Documents.{updated}
use Rattle.irc_edited_rooms.specs.Crossing.{both_going, going_if, member_left, update_behind}
use Rattle.irc_edited_rooms.specs.Crossing.{update_followed, users_behind}
use Rattle.irc_room_edits.specs.Edits.{fate_if, of_one_user}
use Rattle.irc_room_edits.specs.Places.{Place}
use Rattle.irc_crossed_edits.specs.Lemmas.Sparse.{behind_rename, behind_update, member_idle}
use Rattle.irc_crossed_edits.specs.Lemmas.Sparse.{none_goes, user_idle}

pub there_apart : (room : Document Place) (nick other : Nick) → is_some (room.user nick) ≡ true
    → room.user other ≡ None → same_fold nick other ≡ false
there_apart room nick other there free = by (same_fold nick other) refl
  where
    by : (b : Bool) → same_fold nick other ≡ b → b ≡ false
    by true is = absurd (false≢true (sym (ap is_some (ap room.user (one_fold nick other is) ∙ free))
        ∙ there))
    by false is = refl

comes_still : (is_there : Bool) (writes : Writes Place) (ours : Fate Place) → is_there ≡ false
    → is_coming ours ≡ false → user_behind is_there (comes writes) ours ≡ comes writes
comes_still true writes ours free other = absurd (true≢false free)
comes_still false writes (stays v) free other = refl
comes_still false writes goes free other = refl
comes_still false writes (comes v) free other = absurd (true≢false other)

comes_met : (is_there : Bool) (writes : Writes Place) (ours : Fate Place) → is_coming ours ≡ true
    → user_behind is_there (comes writes) ours ≡ goes
comes_met is_there writes (stays v) is = absurd (false≢true is)
comes_met is_there writes goes is = absurd (false≢true is)
comes_met is_there writes (comes v) is = refl

module _ (names : List Nick) (room : Document Place) (nick : Nick) (writes : Writes Place)
    (free : room.user nick ≡ None) where
  abbrev comer : Update Place
  comer = of_one_user nick (comes writes)

  -- where nobody else comes to the nickname
  module _ (ours : Update Place) (other : is_coming (ours.user nick) ≡ false) where
    left_at : (k : Nick) (b : Bool) → same_fold k nick ≡ b → b ≡ true
        → users_behind room comer ours k ≡ comes writes
    left_at k b is on =
        ap (λ it. user_behind (is_some (room.user k)) (fate_if it (comes writes)) (ours.user k))
        (is ∙ on)
        ∙ comes_still (is_some (room.user k)) writes (ours.user k)
        (ap (λ it. is_some (room.user it)) (one_fold k nick (is ∙ on)) ∙ ap is_some free)
        (ap (λ it. is_coming (ours.user it)) (one_fold k nick (is ∙ on)) ∙ other)

    user_left : (k : Nick) → AlikeFates ((updated names room ours).user k)
        (users_behind room comer ours k) (comer.user k)
    user_left k = by (same_fold k nick) refl
      where
        by : (b : Bool) → same_fold k nick ≡ b → AlikeFates ((updated names room ours).user k)
            (users_behind room comer ours k) (comer.user k)
        by true is = equal (left_at k true is refl
            ∙ sym (ap (λ it. fate_if it (comes writes)) is))
        by false is = user_idle (room.user k) (comer.user k) (ours.user k) (comer.user k)
            (ap (λ it. fate_if it (comes writes)) is) (ap (λ it. fate_if it (comes writes)) is)

    stays_left : (k : Nick) → is_going (users_behind room comer ours k) ≡ false
    stays_left k = by (same_fold k nick) refl
      where
        by : (b : Bool) → same_fold k nick ≡ b
            → is_going (users_behind room comer ours k) ≡ false
        by true is = ap is_going (left_at k true is refl)
        by false is = none_goes (is_some (room.user k)) (comer.user k) (ours.user k)
            (ap (λ it. fate_if it (comes writes)) is)

    pub come_left : AlikeUpdates names (updated names room ours)
        (update_behind names room comer ours) comer
    come_left = behind_update names room comer ours comer (λ name k. refl) (λ name. refl)
        (λ name. refl) user_left
        (λ name k. member_idle (room.member name k) (users_behind room comer ours k) (ours.user k)
        untouched (ours.member name k) untouched (stays_left k) refl refl)

  -- where somebody else does
  module _ (ours : Update Place) (too : is_coming (ours.user nick) ≡ true) where
    met_at : (k : Nick) → same_fold k nick ≡ true → users_behind room comer ours k ≡ goes
    met_at k is =
        ap (λ it. user_behind (is_some (room.user k)) (fate_if it (comes writes)) (ours.user k)) is
        ∙ comes_met (is_some (room.user k)) writes (ours.user k)
        (ap (λ it. is_coming (ours.user it)) (one_fold k nick is) ∙ too)

    user_met : (k : Nick) → AlikeFates ((updated names room ours).user k)
        (users_behind room comer ours k) ((both_going nick nick).user k)
    user_met k = by (same_fold k nick) refl
      where
        by : (b : Bool) → same_fold k nick ≡ b → AlikeFates ((updated names room ours).user k)
            (users_behind room comer ours k) ((both_going nick nick).user k)
        by true is = equal (met_at k is ∙ sym (ap (λ it. going_if (it || it)) is))
        by false is = user_idle (room.user k) (comer.user k) (ours.user k)
            ((both_going nick nick).user k)
            (ap (λ it. fate_if it (comes writes)) is) (ap (λ it. going_if (it || it)) is)

    member_met : (name : ChannelName) (k : Nick)
        → AlikeFates ((updated names room ours).member name k)
        ((update_behind names room comer ours).member name k)
        ((both_going nick nick).member name k)
    member_met name k = by (same_fold k nick) refl
      where
        by : (b : Bool) → same_fold k nick ≡ b
            → AlikeFates ((updated names room ours).member name k)
            ((update_behind names room comer ours).member name k)
            ((both_going nick nick).member name k)
        by true is = equal (ap (λ it. member_left it (ours.user k)
            (member_behind (is_some (room.member name k)) untouched (ours.member name k)))
            (met_at k is) ∙ sym (ap (λ it. going_if (it || it)) is))
        by false is = member_idle (room.member name k) (users_behind room comer ours k)
            (ours.user k) untouched (ours.member name k) ((both_going nick nick).member name k)
            (none_goes (is_some (room.user k)) (comer.user k) (ours.user k)
            (ap (λ it. fate_if it (comes writes)) is)) refl (ap (λ it. going_if (it || it)) is)

    pub come_met : AlikeUpdates names (updated names room ours)
        (update_behind names room comer ours) (both_going nick nick)
    come_met = behind_update names room comer ours (both_going nick nick) (λ name k. refl)
        (λ name. refl) (λ name. refl) user_met member_met

  -- behind a nickname for another
  module _ (old new : Nick) (v : Writes Place) (apart_old : same_fold old nick ≡ false)
      (apart_new : same_fold new nick ≡ false) where
    followed_user : (k : Nick) (b c : Bool) → same_fold k new ≡ b → same_fold k old ≡ c
        → pick b c (user_behind true (comer.user old) (stays v)) untouched (comer.user k)
        ≡ comer.user k
    followed_user k true c is_new is_old =
        ap (λ it. user_behind true (fate_if it (comes writes)) (stays v)) apart_old
        ∙ sym (ap (λ it. fate_if it (comes writes))
        (ap (λ it. same_fold it nick) (one_fold k new is_new) ∙ apart_new))
    followed_user k false true is_new is_old = sym (ap (λ it. fate_if it (comes writes))
        (ap (λ it. same_fold it nick) (one_fold k old is_old) ∙ apart_old))
    followed_user k false false is_new is_old = refl

    followed_member : (b c : Bool)
        → pick b c untouched untouched untouched ≡ untouched {Place = Place}
    followed_member true c = refl
    followed_member false true = refl
    followed_member false false = refl

    pub come_followed : AlikeUpdates names (renamed names room old new v)
        (update_followed false comer old new v) comer
    come_followed = behind_rename names room comer comer comer (λ name k. refl) (λ name. refl)
        (λ name. refl) false old new v
        (λ k. equal (followed_user k (same_fold k new) (same_fold k old) refl refl))
        (λ name k. equal (followed_member (same_fold k new) (same_fold k old)))

  -- to which a nickname is changed at once
  module _ (old : Nick) (v : Writes Place) where
    taken_user : (b c : Bool) → pick b c goes untouched (fate_if b (comes writes))
        ≡ going_if (b || b)
    taken_user true c = refl
    taken_user false true = refl
    taken_user false false = refl

    taken_member : (b c : Bool)
        → pick b c goes untouched untouched ≡ going_if {Place = Place} (b || b)
    taken_member true c = refl
    taken_member false true = refl
    taken_member false false = refl

    pub come_taken : AlikeUpdates names (renamed names room old nick v)
        (update_followed true comer old nick v) (both_going nick nick)
    come_taken = behind_rename names room comer comer (both_going nick nick) (λ name k. refl)
        (λ name. refl) (λ name. refl) true old nick v
        (λ k. equal (taken_user (same_fold k nick) (same_fold k old)))
        (λ name k. equal (taken_member (same_fold k nick) (same_fold k old)))
