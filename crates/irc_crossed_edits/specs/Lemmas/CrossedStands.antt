-- What becomes of a change stands for what becomes of the edit.
use Rattle.std.proofs.Common.{◌≡◌, ℕ, Bool, true, false, ◌||◌, Option, Some, None, List}
use Rattle.std.proofs.Common.{refl, sym, ap, subst, ◌∙◌, is_some, unwrap_or}
use Rattle.irc_names.specs.Fold.{key, same}
use Rattle.irc_names.specs.TableLaws.{same_fold, same_fold-refl}
use Rattle.irc_crossing.specs.Changes.{crossed}
use Rattle.irc_crossing.specs.Laws.{AreOfTwo}
use Rattle.irc_crossing.specs.declared.change.Change.{Change}
use Rattle.irc_crossing.specs.declared.change.Change.TheVariants.{Come, Rename, Go, Out, Join, Set}
use Rattle.irc_edited_rooms.specs.Alike.{AlikeEdits}
use Rattle.irc_edited_rooms.specs.Writes.{Writes, no_writes}
use Rattle.irc_edited_rooms.specs.Fates.{comes, goes, stays, is_coming}
use Rattle.irc_edited_rooms.specs.Documents.{Document, Edit, IsSound, Nick, Update, edited, is_name}
use Rattle.irc_edited_rooms.specs.Documents.{rename, renamed, update, updated}
use Rattle.irc_edited_rooms.specs.Crossing.{IsFitting, MayBeMade, MayBeRenamed, both_going}
use Rattle.irc_edited_rooms.specs.Crossing.{going_if, nothing, update_followed}
use Rattle.irc_edited_rooms.specs.Crossing as edits
use Rattle.irc_edited_rooms.specs.Lemmas.AlikeEditsStay.{alike_lead, comes_both}
use Rattle.irc_edited_rooms.specs.Lemmas.LogsStayAlike.{crossed_alike, edits_join}
use Rattle.irc_edited_rooms.specs.Lemmas.MayStay.{going_fits}
use Rattle.irc_room_edits.specs.Edits.{fate_if, of_one_member, of_one_user}
use Rattle.irc_room_edits.specs.Lemmas.Fitting.{comer_fits, member_fits, user_fits}
use Rattle.irc_room_edits.specs.Places.{Place}
use Rattle.irc_crossed_edits.specs.Laws.{CrossedStands}
use Rattle.irc_crossed_edits.specs.Standing.{IsOfRoom, Stands, StandsFor, edit_of, renaming_to}
use Rattle.irc_crossed_edits.specs.Lemmas.BehindRenames as renames
use Rattle.irc_crossed_edits.specs.Lemmas.BehindUpdates as updates
use Rattle.irc_crossed_edits.specs.Lemmas.OurUpdates.{Ours, of_come, of_go, of_out, of_respelling}

never_comes : (b : Bool) → is_coming (going_if {Place = Place} b) ≡ false
never_comes true = refl
never_comes false = refl

stays_so : (b : Bool) (writes : Writes Place) → is_coming (fate_if b (stays writes)) ≡ false
stays_so true writes = refl
stays_so false writes = refl

-- ---- the edits that changes stand for can be made

IsUpdate : Edit Place → Type 0
IsUpdate (update what) = Unit
IsUpdate (rename old new writes) = ⊥

sound_of : (names : List Nick) (room : Document Place) (edit : Edit Place)
    → MayBeMade names room edit → IsSound names room
sound_of names room (update what) may = may.sound
sound_of names room (rename old new writes) may = may.sound

module _ (names : List Nick) (room : Document Place) where
  named_by : (nick : List ℕ) (writes : Writes Place) (edit : Edit Place)
      → MayBeMade names room edit → room.user (key nick) ≡ None
      → AlikeEdits names room edit (update (of_one_user (key nick) (comes writes)))
      → is_name names (key nick) ≡ true
  unfolding IsUpdate
  named_by nick writes (update what) may free alike =
      (may.newcomers (key nick)
      (comes_both (room.user (key nick)) (what.user (key nick))
      ((of_one_user (key nick) (comes writes)).user (key nick)) (alike.users (key nick)) free
      ∙ ap (λ b. is_coming (fate_if b (comes writes))) (same_fold-refl (key nick)))).1
  named_by nick writes (rename old new v) may free alike =
      absurd (subst IsUpdate (sym alike) tt)

  renaming_may : (nick new : List ℕ) (writes : Writes Place) (edit : Edit Place)
      → MayBeMade names room edit → (b : Bool)
      → AlikeEdits names room edit (renaming_to b nick new writes)
      → MayBeMade names room (renaming_to b nick new writes)
  renaming_may nick new writes edit may true alike =
      user_fits names room (sound_of names room edit may) (key nick) writes
  renaming_may nick new writes (update what) may false alike = absurd alike
  renaming_may nick new writes (rename old other v) may false alike =
      subst (MayBeMade names room) alike may

  edit_may : (change : Change) (edit : Edit Place) → MayBeMade names room edit
      → (is : StandsFor names room change edit) → MayBeMade names room (edit_of change is.writes)
  edit_may (Come nick) edit may is =
      comer_fits names room (sound_of names room edit may) (key nick) is.writes is.of_room
      (named_by nick is.writes edit may is.of_room is.alike)
  edit_may (Rename nick new) edit may is =
      renaming_may nick new is.writes edit may (same nick new) is.alike
  edit_may (Go nick other) edit may is =
      going_fits names room (key nick) (key (unwrap_or other nick))
      (sound_of names room edit may)
  edit_may (Out nick channel) edit may is =
      member_fits names room (sound_of names room edit may) (key channel) (key nick) goes
      no_writes refl
  edit_may (Join channel begins) edit may is = absurd is.of_room
  edit_may (Set setting) edit may is = absurd is.of_room

  -- ---- behind an update

  renaming_behind : (nick new : List ℕ) (writes : Writes Place) (ours_is : Change)
      (ours : Update Place) → IsFitting names room ours → Ours room ours_is ours
      → is_some (room.user (key nick)) ≡ true → (b : Bool) → same nick new ≡ b
      → MayBeMade names room (renaming_to b nick new writes)
      → Stands names (updated names room ours) (crossed (Rename nick new) ours_is)
      (edits.crossed names room (renaming_to b nick new writes) (update ours))
  renaming_behind nick new writes ours_is ours fitting facts there true is may =
      updates.spelling_stands names room ours_is ours fitting facts nick writes there new is
  renaming_behind nick new writes ours_is ours fitting facts there false is may =
      updates.rename_stands names room ours_is ours fitting facts nick new writes is there may.free

  behind_update : (change : Change) (writes : Writes Place) (ours_is : Change)
      (ours : Update Place) → MayBeMade names room (edit_of change writes)
      → IsOfRoom room change → IsFitting names room ours → Ours room ours_is ours
      → Stands names (updated names room ours) (crossed change ours_is)
      (edits.crossed names room (edit_of change writes) (update ours))
  behind_update (Come nick) writes ours_is ours may of_room fitting facts =
      updates.come_stands names room ours_is ours fitting facts nick writes of_room
  behind_update (Rename nick new) writes ours_is ours may of_room fitting facts =
      renaming_behind nick new writes ours_is ours fitting facts of_room (same nick new) refl may
  behind_update (Go nick other) writes ours_is ours may of_room fitting facts =
      updates.go_stands names room ours_is ours fitting facts nick other of_room.0 of_room.1
  behind_update (Out nick channel) writes ours_is ours may of_room fitting facts =
      updates.out_stands names room ours_is ours fitting facts nick channel of_room
  behind_update (Join channel begins) writes ours_is ours may of_room fitting facts =
      absurd of_room
  behind_update (Set setting) writes ours_is ours may of_room fitting facts = absurd of_room

  -- ---- behind a nickname for another

  module _ (old new : List ℕ) (v : Writes Place) (two : same old new ≡ false)
      (ours_may : MayBeRenamed names room (key old) (key new)) where
    renaming_followed : (nick other : List ℕ) (writes : Writes Place)
        → is_some (room.user (key nick)) ≡ true → same nick old ≡ false → (b : Bool)
        → same nick other ≡ b
        → Stands names (renamed names room (key old) (key new) v)
        (crossed (Rename nick other) (Rename old new))
        (edits.crossed names room (renaming_to b nick other writes)
        (rename (key old) (key new) v))
    renaming_followed nick other writes there apart true is = subst (λ q. Stands names
        (renamed names room (key old) (key new) v) (crossed (Rename nick other) (Rename old new))
        (update (update_followed q (of_one_user (key nick) (stays writes)) (key old) (key new) v)))
        (sym (stays_so (same_fold (key new) (key nick)) writes))
        (renames.spelling_stands names room old new v two ours_may nick other writes is there
        apart)
    renaming_followed nick other writes there apart false is =
        renames.rename_stands names room old new v two ours_may nick other writes is there apart

    behind_rename : (change : Change) (writes : Writes Place) → IsOfRoom room change
        → AreOfTwo change (Rename old new)
        → Stands names (renamed names room (key old) (key new) v) (crossed change (Rename old new))
        (edits.crossed names room (edit_of change writes) (rename (key old) (key new) v))
    behind_rename (Come nick) writes of_room apart =
        renames.come_stands names room old new v two ours_may nick writes of_room
    behind_rename (Rename nick other) writes of_room apart =
        renaming_followed nick other writes of_room apart (same nick other) refl
    behind_rename (Go nick other) writes of_room apart = subst (λ q. Stands names
        (renamed names room (key old) (key new) v) (crossed (Go nick other) (Rename old new))
        (update (update_followed q (both_going (key nick) (key (unwrap_or other nick))) (key old)
        (key new) v)))
        (sym (never_comes (same_fold (key new) (key nick)
        || same_fold (key new) (key (unwrap_or other nick)))))
        (renames.go_stands names room old new v two ours_may nick other of_room.0 of_room.1)
    behind_rename (Out nick channel) writes of_room apart =
        renames.out_stands names room old new v two ours_may nick channel of_room
    behind_rename (Join channel begins) writes of_room apart = absurd of_room
    behind_rename (Set setting) writes of_room apart = absurd of_room

  behind_renaming : (change : Change) (writes : Writes Place) (old new : List ℕ)
      (v : Writes Place) → MayBeMade names room (edit_of change writes) → IsOfRoom room change
      → AreOfTwo change (Rename old new) → (b : Bool) → same old new ≡ b
      → MayBeMade names room (renaming_to b old new v)
      → Stands names (edited names room (renaming_to b old new v))
      (crossed change (Rename old new))
      (edits.crossed names room (edit_of change writes) (renaming_to b old new v))
  behind_renaming change writes old new v may of_room apart true is ours_may =
      behind_update change writes (Rename old new) (of_one_user (key old) (stays v)) may of_room
      ours_may (of_respelling room old new v is)
  behind_renaming change writes old new v may of_room apart false is ours_may =
      behind_rename old new v is ours_may change writes of_room apart

  -- ---- any

  plainly : (change ours_is : Change) (writes v : Writes Place)
      → MayBeMade names room (edit_of change writes) → MayBeMade names room (edit_of ours_is v)
      → IsOfRoom room change → IsOfRoom room ours_is → AreOfTwo change ours_is
      → Stands names (edited names room (edit_of ours_is v)) (crossed change ours_is)
      (edits.crossed names room (edit_of change writes) (edit_of ours_is v))
  plainly change (Come nick) writes v may ours_may of_room ours_of_room apart =
      behind_update change writes (Come nick) (of_one_user (key nick) (comes v)) may of_room
      ours_may (of_come room nick v ours_of_room)
  plainly change (Rename old new) writes v may ours_may of_room ours_of_room apart =
      behind_renaming change writes old new v may of_room apart (same old new) refl ours_may
  plainly change (Go nick other) writes v may ours_may of_room ours_of_room apart =
      behind_update change writes (Go nick other)
      (both_going (key nick) (key (unwrap_or other nick))) may of_room ours_may
      (of_go room nick other)
  plainly change (Out nick channel) writes v may ours_may of_room ours_of_room apart =
      behind_update change writes (Out nick channel)
      (of_one_member (key channel) (key nick) goes no_writes) may of_room ours_may
      (of_out room nick channel)
  plainly change (Join channel begins) writes v may ours_may of_room ours_of_room apart =
      absurd ours_of_room
  plainly change (Set setting) writes v may ours_may of_room ours_of_room apart =
      absurd ours_of_room

-- what an edit stands for it stands for as well that is alike
stands_join : (names : List Nick) (room : Document Place) (left : Option Change)
    (one other : Edit Place) → AlikeEdits names room one other → Stands names room left other
    → Stands names room left one
stands_join names room None one other alike is =
    edits_join names room one other (update nothing) alike is
stands_join names room (Some change) one other alike is = record {
  writes = is.writes;
  of_room = is.of_room;
  alike = edits_join names room one other (edit_of change is.writes) alike is.alike;
}

pub crossed_stands : CrossedStands
crossed_stands names room theirs ours their_edit our_edit may ours_may apart is ours_is =
    let b = edit_of theirs is.writes in
    let a = edit_of ours ours_is.writes in
    let b_may = edit_may names room theirs their_edit may is in
    let a_may = edit_may names room ours our_edit ours_may ours_is in
    stands_join names (edited names room our_edit) (crossed theirs ours)
    (edits.crossed names room their_edit our_edit) (edits.crossed names room b a)
    (crossed_alike names room their_edit b our_edit a may b_may ours_may a_may is.alike
    ours_is.alike)
    (subst (λ it. Stands names it (crossed theirs ours) (edits.crossed names room b a))
    (sym (alike_lead names room our_edit a ours_is.alike))
    (plainly names room theirs ours is.writes ours_is.writes b_may a_may is.of_room
    ours_is.of_room apart))
