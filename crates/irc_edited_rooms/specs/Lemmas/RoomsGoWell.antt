-- All edits have the diamond; documents stay sound; and each sound one can be told.
use Rattle.std.proofs.Common.{◌≡◌, true, Option, Some, None, List}
use Rattle.std.proofs.Common.{refl, sym, ap, ◌∙◌, is_some}
use Rattle.std.proofs.Math.Bool.{false≢true}
use Rattle.irc_names.specs.TableLaws.{same_fold}
use Rattle.irc_documents.specs.Editing.{HasDiamond}
use Rattle.irc_documents.specs.Networks.{Makes}
use Rattle.irc_edited_rooms.specs.Writes.{Row}
use Rattle.irc_edited_rooms.specs.Fates.{untouched, after_fate, is_coming, is_going}
use Rattle.irc_edited_rooms.specs.Documents.{Nick, ChannelName, Document, Edit, update}
use Rattle.irc_edited_rooms.specs.Documents.{rename, edited, updated, renamed, lives, row_while}
use Rattle.irc_edited_rooms.specs.Documents.{blank_document, IsSound}
use Rattle.irc_edited_rooms.specs.Crossing.{IsFitting, MayBeMade, crossed, rename_behind_rename}
use Rattle.irc_edited_rooms.specs.EditedRooms.{edited_rooms}
use Rattle.irc_edited_rooms.specs.Telling.{come_as, told_members, told_users, told}
use Rattle.irc_edited_rooms.specs.Lemmas.Living.{two_folds, blank_while}
use Rattle.irc_edited_rooms.specs.Lemmas.MayStay.{update_behind_fits, followed_fits}
use Rattle.irc_edited_rooms.specs.Lemmas.MayStay.{rename_left_may, two_renames_may}
use Rattle.irc_edited_rooms.specs.Lemmas.RenamesMeet.{update_meets}
use Rattle.irc_edited_rooms.specs.Lemmas.StaySound.{updated_sound}
use Rattle.irc_edited_rooms.specs.Lemmas.TwoRenames.{renames_meet}
use Rattle.irc_edited_rooms.specs.Lemmas.UpdatesMeet.{updates_meet}

module _ {Place : Type 0} (names : List Nick) where
  -- ---- the diamond

  edits_meet : (room : Document Place) (ours theirs : Edit Place) → MayBeMade names room ours
      → MayBeMade names room theirs
      → edited names (edited names room ours) (crossed names room theirs ours)
      ≡ edited names (edited names room theirs) (crossed names room ours theirs)
  edits_meet room (update ours) (update theirs) our_may their_may =
      updates_meet names room ours theirs our_may their_may
  edits_meet room (rename old new v) (update theirs) our_may their_may =
      update_meets names room theirs old new v their_may our_may (is_coming (theirs.user new)) refl
      (theirs.user old) refl
  edits_meet room (update ours) (rename old new v) our_may their_may =
      sym (update_meets names room ours old new v our_may their_may (is_coming (ours.user new))
      refl (ours.user old) refl)
  edits_meet room (rename p q v) (rename o n w) our_may their_may =
      renames_meet names room o n w p q v their_may our_may (same_fold o p) (same_fold n q) refl
      refl
      ∙ ap (λ is_one. edited names (renamed names room o n w)
      (rename_behind_rename is_one (same_fold n q) p q v n)) (two_folds o p)
      ∙ ap (λ is_met. edited names (renamed names room o n w)
      (rename_behind_rename (same_fold p o) is_met p q v n)) (two_folds n q)

  may_behind : (room : Document Place) (ours theirs : Edit Place) → MayBeMade names room ours
      → MayBeMade names room theirs
      → MayBeMade names (edited names room ours) (crossed names room theirs ours)
  may_behind room (update ours) (update theirs) our_may their_may =
      update_behind_fits names room ours theirs our_may their_may
  may_behind room (rename old new v) (update theirs) our_may their_may =
      followed_fits names room theirs old new v their_may our_may (is_coming (theirs.user new))
  may_behind room (update ours) (rename old new v) our_may their_may =
      rename_left_may names room ours old new v their_may our_may (is_coming (ours.user new)) refl
      (ours.user old) refl
  may_behind room (rename p q v) (rename o n w) our_may their_may =
      two_renames_may names room o n w p q v their_may our_may (same_fold o p) (same_fold n q) refl
      refl

  pub rooms_have_diamond : HasDiamond (edited_rooms {Place = Place} names)
  rooms_have_diamond = record { same = edits_meet; may_behind = may_behind }

  -- ---- a document is told

  none_goes : (row : Option (Row Place)) → is_going (come_as row) ≡ true → ⊥
  none_goes None is = false≢true is
  none_goes (Some row) is = false≢true is

  comes_as : (row : Option (Row Place)) → after_fate (come_as row) None ≡ row
  comes_as None = refl
  comes_as (Some row) = refl

  there_if : (row : Option (Row Place)) → is_coming (come_as row) ≡ true → is_some row ≡ true
  there_if None is = is
  there_if (Some row) is = refl

  pub blank_sound : IsSound {Place = Place} names blank_document
  blank_sound = record {
    known = λ name nick is. absurd (false≢true is);
    named = λ nick is. absurd (false≢true is);
    blank = λ name none. refl;
  }

  users_fit : (room : Document Place) → IsSound names room
      → IsFitting names blank_document (told_users room)
  users_fit room sound = record {
    sound = blank_sound;
    newcomers = λ nick is. (refl, sound.named nick (there_if (room.user nick) is));
    joiners = λ name nick is. absurd (false≢true is);
    leavers = λ name nick is. absurd (none_goes (room.user nick) is);
  }

  members_fit : (room : Document Place) → IsSound names room
      → IsFitting names (updated names blank_document (told_users room)) (told_members room)
  members_fit room sound = record {
    sound = updated_sound names blank_document (told_users room) (users_fit room sound);
    newcomers = λ nick is. absurd (false≢true is);
    joiners = λ name nick is. (
      ap is_some (comes_as (room.user nick))
          ∙ sound.known name nick (there_if (room.member name nick) is),
      refl,
    );
    leavers = λ name nick is. absurd (false≢true is);
  }

  told_member : (room : Document Place) (name : ChannelName)
      → (edited names (edited names blank_document (update (told_users room)))
      (update (told_members room))).member name ≡ room.member name
  told_member room name i nick = comes_as (room.member name nick) i

  told_whole : (room : Document Place) → IsSound names room
      → edited names (edited names blank_document (update (told_users room)))
      (update (told_members room)) ≡ room
  told_whole room sound i = record {
    user = λ nick. (untouched_told (room.user nick)) i;
    member = λ name. told_member room name i;
    channel = λ name. (ap (λ members. row_while (lives names members) (room.channel name))
        (told_member room name)
        ∙ blank_while (lives names (room.member name)) (room.channel name) (sound.blank name)) i;
  }
    where
      untouched_told : (row : Option (Row Place))
          → after_fate untouched (after_fate (come_as row) None) ≡ row
      untouched_told None = refl
      untouched_told (Some row) = refl

  pub documents_are_told : (room : Document Place) → IsSound names room
      → Makes (edited_rooms names) (told room) room
  documents_are_told room sound = record {
    may = (users_fit room sound, (members_fit room sound, tt));
    made = told_whole room sound;
  }
