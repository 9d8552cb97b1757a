-- Users who go by theirs: those of them go behind ours who are still there.
use Rattle.std.proofs.Common.{◌≡◌, Bool, true, false, Option, None, List}
use Rattle.std.proofs.Common.{refl, sym, ap, subst, ◌∙◌, is_some}
use Rattle.std.proofs.Math.Bool.{false≢true}
use Rattle.irc_names.specs.TableLaws.{same_fold}
use Rattle.irc_edited_rooms.specs.Alike.{AlikeFates, AlikeUpdates, equal, idle}
use Rattle.irc_edited_rooms.specs.Writes.{Row, Writes, no_writes}
use Rattle.irc_edited_rooms.specs.Fates.{Fate, stays, goes, comes, untouched, is_coming}
use Rattle.irc_edited_rooms.specs.Fates.{member_behind, user_behind}
use Rattle.irc_edited_rooms.specs.Documents.{ChannelName, Document, Nick, Update, IsSound, pick}
use Rattle.irc_edited_rooms.specs.Documents.{renamed, updated}
use Rattle.irc_edited_rooms.specs.Crossing.{going_if, member_left, update_behind}
use Rattle.irc_edited_rooms.specs.Crossing.{update_followed, users_behind}
use Rattle.irc_edited_rooms.specs.Lemmas.LogsStayAlike.{fates_join}
use Rattle.irc_edited_rooms.specs.Lemmas.RenamesMeet.{nobody_at}
use Rattle.irc_room_edits.specs.Places.{Place}
use Rattle.irc_crossed_edits.specs.Lemmas.Sparse.{behind_rename, behind_update, member_idle}
use Rattle.irc_crossed_edits.specs.Lemmas.Sparse.{none_goes, user_idle}

-- all these users go, and from each channel
abbrev pub goers : (Nick → Bool) → Update Place
goers these = record {
  user = λ nick. going_if (these nick);
  member = λ name nick. going_if (these nick);
  set = λ name. no_writes;
}

never_comes : (b : Bool) → is_coming (going_if {Place = Place} b) ≡ false
never_comes true = refl
never_comes false = refl

goes_there : (ours : Fate Place) → user_behind true goes ours ≡ goes
goes_there (stays v) = refl
goes_there goes = refl
goes_there (comes v) = refl

-- fewer of them, where the others are not there
fewer_alike : (row : Option (Row Place)) (b c : Bool) → (c ≡ true → b ≡ true)
    → (b ≡ true → c ≡ false → row ≡ None) → AlikeFates row (going_if b) (going_if c)
fewer_alike row true true few gone = equal refl
fewer_alike row false false few gone = equal refl
fewer_alike row false true few gone = absurd (false≢true (few refl))
fewer_alike row true false few gone =
    subst (λ it. AlikeFates it goes untouched) (sym (gone refl refl)) (idle refl refl)

module _ (names : List Nick) (room : Document Place) (these : Nick → Bool)
    (there : (nick : Nick) → these nick ≡ true → is_some (room.user nick) ≡ true) where
  module _ (ours : Update Place) (sound : IsSound names (updated names room ours))
      (left : Nick → Bool) (few : (nick : Nick) → left nick ≡ true → these nick ≡ true)
      (gone : (nick : Nick) → these nick ≡ true → left nick ≡ false
      → (updated names room ours).user nick ≡ None) where
    going : (k : Nick) → these k ≡ true → users_behind room (goers these) ours k ≡ goes
    going k is =
        ap (λ it. user_behind (is_some (room.user k)) (going_if it) (ours.user k)) is
        ∙ ap (λ it. user_behind it goes (ours.user k)) (there k is) ∙ goes_there (ours.user k)

    users_as : (k : Nick) → AlikeFates ((updated names room ours).user k)
        (users_behind room (goers these) ours k) (going_if (these k))
    users_as k = by (these k) refl
      where
        by : (b : Bool) → these k ≡ b → AlikeFates ((updated names room ours).user k)
            (users_behind room (goers these) ours k) (going_if (these k))
        by true is = equal (going k is ∙ sym (ap going_if is))
        by false is = user_idle (room.user k) (going_if (these k)) (ours.user k)
            (going_if (these k)) (ap going_if is) (ap going_if is)

    members_as : (name : ChannelName) (k : Nick)
        → AlikeFates ((updated names room ours).member name k)
        ((update_behind names room (goers these) ours).member name k) (going_if (these k))
    members_as name k = by (these k) refl
      where
        by : (b : Bool) → these k ≡ b → AlikeFates ((updated names room ours).member name k)
            ((update_behind names room (goers these) ours).member name k) (going_if (these k))
        by true is = equal (ap (λ it. member_left it (ours.user k)
            (member_behind (is_some (room.member name k)) (going_if (these k))
            (ours.member name k))) (going k is) ∙ sym (ap going_if is))
        by false is = member_idle (room.member name k)
            (users_behind room (goers these) ours k) (ours.user k) (going_if (these k))
            (ours.member name k) (going_if (these k))
            (none_goes (is_some (room.user k)) (going_if (these k)) (ours.user k)
            (ap going_if is)) (ap going_if is) (ap going_if is)

    pub go_behind : AlikeUpdates names (updated names room ours)
        (update_behind names room (goers these) ours) (goers left)
    go_behind = behind_update names room (goers these) ours (goers left)
        (λ name k. never_comes (these k)) (λ name. refl) (λ name. refl)
        (λ k. fates_join ((updated names room ours).user k)
        (users_behind room (goers these) ours k) (going_if (these k)) (going_if (left k))
        (users_as k) (fewer_alike ((updated names room ours).user k) (these k) (left k) (few k)
        (gone k)))
        (λ name k. fates_join ((updated names room ours).member name k)
        ((update_behind names room (goers these) ours).member name k) (going_if (these k))
        (going_if (left k)) (members_as name k)
        (fewer_alike ((updated names room ours).member name k) (these k) (left k) (few k)
        (λ is other. nobody_at names (updated names room ours) sound name k (gone k is other))))

  -- behind a nickname for another, under those that they have then
  module _ (old new : Nick) (v : Writes Place) (now : Nick → Bool)
      (is_now : (k : Nick) → pick (same_fold k new) (same_fold k old) (these old) false (these k)
      ≡ now k) where
    followed : (b : Bool) → user_behind true (going_if b) (stays v) ≡ going_if b
    followed true = refl
    followed false = refl

    picked_user : (k : Nick) (b c : Bool)
        → pick b c (user_behind true (going_if (these old)) (stays v)) untouched
        (going_if (these k)) ≡ going_if (pick b c (these old) false (these k))
    picked_user k true c = followed (these old)
    picked_user k false true = refl
    picked_user k false false = refl

    picked_member : (k : Nick) (b c : Bool)
        → pick b c (going_if (these old)) untouched (going_if (these k))
        ≡ going_if {Place = Place} (pick b c (these old) false (these k))
    picked_member k true c = refl
    picked_member k false true = refl
    picked_member k false false = refl

    pub go_followed : AlikeUpdates names (renamed names room old new v)
        (update_followed false (goers these) old new v) (goers now)
    go_followed = behind_rename names room (goers these) (goers these) (goers now)
        (λ name k. never_comes (these k)) (λ name. refl) (λ name. refl) false old new v
        (λ k. equal (picked_user k (same_fold k new) (same_fold k old)
        ∙ ap going_if (is_now k)))
        (λ name k. equal (picked_member k (same_fold k new) (same_fold k old)
        ∙ ap going_if (is_now k)))
