-- Documents stay sound.
use Rattle.std.proofs.Common.{◌≡◌, Bool, true, false, Option, List}
use Rattle.std.proofs.Common.{refl, sym, ap, ◌∙◌, is_some}
use Rattle.std.proofs.Math.Bool.{false≢true}
use Rattle.irc_names.specs.TableLaws.{same_fold, one_fold}
use Rattle.irc_edited_rooms.specs.Writes.{Row, Writes, written}
use Rattle.irc_edited_rooms.specs.Fates.{Fate, stays, goes, comes, is_going, is_coming, after_fate}
use Rattle.irc_edited_rooms.specs.Documents.{Nick, Document, Update, Edit, update}
use Rattle.irc_edited_rooms.specs.Documents.{rename, is_name, pick, row_while}
use Rattle.irc_edited_rooms.specs.Documents.{swapped, updated, renamed, edited, written_at, IsSound}
use Rattle.irc_edited_rooms.specs.Crossing.{IsFitting, MayBeRenamed, MayBeMade}
use Rattle.irc_edited_rooms.specs.Lemmas.FatesMeet.{there_by_map}

module _ {Place : Type 0} where
  -- ---- after an update

  known_after : (of_user of_member : Fate Place) (user member : Option (Row Place))
      → (is_some member ≡ true → is_some user ≡ true)
      → (is_coming of_member ≡ true → (is_some user ≡ true) × (is_going of_user ≡ false))
      → (is_going of_user ≡ true → is_going of_member ≡ true)
      → is_some (after_fate of_member member) ≡ true → is_some (after_fate of_user user) ≡ true
  known_after (comes v) of_member user member known joiner leaver there = refl
  known_after (stays v) (stays w) user member known joiner leaver there =
      there_by_map (written v) user
      ∙ known (sym (there_by_map (written w) member) ∙ there)
  known_after (stays v) goes user member known joiner leaver there = absurd (false≢true there)
  known_after (stays v) (comes w) user member known joiner leaver there =
      there_by_map (written v) user ∙ (joiner refl).0
  known_after goes (stays w) user member known joiner leaver there =
      absurd (false≢true (leaver refl))
  known_after goes goes user member known joiner leaver there = absurd (false≢true there)
  known_after goes (comes w) user member known joiner leaver there =
      absurd (false≢true (leaver refl))

  named_after : (of_user : Fate Place) (user : Option (Row Place)) (named : Bool)
      → (is_some user ≡ true → named ≡ true) → (is_coming of_user ≡ true → named ≡ true)
      → is_some (after_fate of_user user) ≡ true → named ≡ true
  named_after (stays v) user named was comer there =
      was (sym (there_by_map (written v) user) ∙ there)
  named_after goes user named was comer there = absurd (false≢true there)
  named_after (comes v) user named was comer there = comer refl

  pub updated_sound : (names : List Nick) (room : Document Place) (what : Update Place)
      → IsFitting names room what → IsSound names (updated names room what)
  updated_sound names room what may = record {
    known = λ name nick. known_after (what.user nick) (what.member name nick) (room.user nick)
        (room.member name nick) (may.sound.known name nick) (may.joiners name nick)
        (may.leavers name nick);
    named = λ nick. named_after (what.user nick) (room.user nick) (is_name names nick)
        (may.sound.named nick) (λ coming. (may.newcomers nick coming).1);
    blank = λ name none.
        ap (λ there. row_while there (written (what.set name) (room.channel name))) none;
  }

  -- ---- after a nickname for another

  pub there_at : (b : Bool) (writes : Writes Place) (row : Option (Row Place))
      → is_some (written_at b writes row) ≡ is_some row
  there_at true writes row = there_by_map (written writes) row
  there_at false writes row = refl

  named_elsewhere : (names : List Nick) (room : Document Place) (old new nick : Nick)
      → MayBeRenamed names room old new → (b c : Bool) → (b ≡ true → nick ≡ new)
      → is_some (room.user (pick b c old new nick)) ≡ true → is_name names nick ≡ true
  named_elsewhere names room old new nick may true c is_new there =
      ap (is_name names) (is_new refl) ∙ may.named
  named_elsewhere names room old new nick may false true is_new there =
      absurd (false≢true (sym (ap is_some may.free) ∙ there))
  named_elsewhere names room old new nick may false false is_new there =
      may.sound.named nick there

  pub renamed_sound : (names : List Nick) (room : Document Place) (old new : Nick)
      (writes : Writes Place) → MayBeRenamed names room old new
      → IsSound names (renamed names room old new writes)
  renamed_sound names room old new writes may = record {
    known = λ name nick there.
        there_at (same_fold nick new) writes (room.user (swapped old new nick))
        ∙ may.sound.known name (swapped old new nick) there;
    named = λ nick there. named_elsewhere names room old new nick may (same_fold nick new)
        (same_fold nick old) (one_fold nick new)
        (sym (there_at (same_fold nick new) writes (room.user (swapped old new nick))) ∙ there);
    blank = λ name none. ap (λ there. row_while there (room.channel name)) none;
  }

  pub edited_sound : (names : List Nick) (room : Document Place) (edit : Edit Place)
      → MayBeMade names room edit → IsSound names (edited names room edit)
  edited_sound names room (update what) may = updated_sound names room what may
  edited_sound names room (rename old new writes) may =
      renamed_sound names room old new writes may
