-- Which edits of the examples may be made, and that their documents are sound.
use Rattle.std.specs.Prelude.{codes}
use Rattle.std.proofs.Common.{◌≡◌, ℕ, Bool, true, false, None, List, [], ◌∷◌, ◌++◌}
use Rattle.std.proofs.Common.{if◌then◌else◌, is_some, refl, sym, subst, ◌∙◌}
use Rattle.std.proofs.Math.Bool.{false≢true}
use Rattle.irc_names.specs.TableLaws.{same_fold, one_fold}
use Rattle.irc_relay.specs.Links.{Name, same}
use Rattle.irc_documents.specs.Examples.{a_net, c_net}
use Rattle.irc_documents.specs.Networks.{after, after_all, AllMayBe}
use Rattle.irc_documents.specs.Lemmas.FactsStay.{facts_stay}
use Rattle.irc_edited_rooms.specs.Writes.{Writes}
use Rattle.irc_edited_rooms.specs.Fates.{goes, comes, untouched, is_coming, is_going}
use Rattle.irc_edited_rooms.specs.Documents.{Nick, Document, edited, blank_document}
use Rattle.irc_edited_rooms.specs.Documents.{is_name, IsSound}
use Rattle.irc_edited_rooms.specs.Crossing.{MayBeMade}
use Rattle.irc_edited_rooms.specs.Examples.{Place, topic, key, al, ann, names, hash_c, enters}
use Rattle.irc_edited_rooms.specs.Examples.{signs_on}
use Rattle.irc_edited_rooms.specs.Examples.{makes, leaves, quits, sets, takes, rooms, RoomNet}
use Rattle.irc_edited_rooms.specs.Examples.{Steps}
use Rattle.irc_edited_rooms.specs.Examples.{spelling, operator, only, room_of_al, room_of_ann}
use Rattle.irc_edited_rooms.specs.Examples.{start_of}
use Rattle.irc_edited_rooms.specs.Lemmas.RoomsGoWell.{rooms_have_diamond, blank_sound}
use Rattle.irc_edited_rooms.specs.Lemmas.StaySound.{edited_sound}

-- ---- edits

none_comes : (here one : Bool)
    → is_coming {Place = Place} (if here then (if one then goes else untouched) else untouched)
    ≡ false
none_comes true true = refl
none_comes true false = refl
none_comes false one = refl

one_comes : (here one : Bool) (writes : Writes Place)
    → is_coming (if here then (if one then comes writes else untouched) else untouched) ≡ true
    → one ≡ true
one_comes here true writes is = refl
one_comes true false writes is = absurd (false≢true is)
one_comes false false writes is = absurd (false≢true is)

none_goes : (one : Bool) (writes : Writes Place)
    → is_going (if one then comes writes else untouched) ≡ false
none_goes true writes = refl
none_goes false writes = refl

pub signs_on_may : {room : Document Place} (nick : Nick) → IsSound names room
    → room.user nick ≡ None → is_name names nick ≡ true → MayBeMade names room (signs_on nick)
signs_on_may {room = room} nick sound free named = record {
  sound = sound;
  newcomers = λ it is. comes_free it
      (sym (one_fold it nick (one_comes true (same_fold it nick) (only spelling nick) is)));
  joiners = λ name it is. absurd (false≢true is);
  leavers = λ name it is.
      absurd (false≢true (sym (none_goes (same_fold it nick) (only spelling nick)) ∙ is));
}
  where
    comes_free : (it : Nick) → nick ≡ it → (room.user it ≡ None) × (is_name names it ≡ true)
    comes_free it is =
        subst (λ it. (room.user it ≡ None) × (is_name names it ≡ true)) is (free, named)

pub enters_may : {room : Document Place} (nick : Nick) (writes : Writes Place)
    → IsSound names room → is_some (room.user nick) ≡ true
    → MayBeMade names room (enters nick writes)
enters_may {room = room} nick writes sound there = record {
  sound = sound;
  newcomers = λ it is. absurd (false≢true is);
  joiners = λ name it is. (
    subst (λ it. is_some (room.user it) ≡ true) (sym (one_fold it nick
        (one_comes (same_fold name hash_c) (same_fold it nick) writes is))) there,
    refl,
  );
  leavers = λ name it is. absurd (false≢true is);
}

pub leaves_may : {room : Document Place} (nick : Nick) → IsSound names room
    → MayBeMade names room (leaves nick)
leaves_may nick sound = record {
  sound = sound;
  newcomers = λ it is. absurd (false≢true is);
  joiners = λ name it is. absurd (false≢true
      (sym (none_comes (same_fold name hash_c) (same_fold it nick)) ∙ is));
  leavers = λ name it is. absurd (false≢true is);
}

pub quits_may : {room : Document Place} (nick : Nick) → IsSound names room
    → MayBeMade names room (quits nick)
quits_may nick sound = record {
  sound = sound;
  newcomers = λ it is. absurd (false≢true (sym (none_comes true (same_fold it nick)) ∙ is));
  joiners = λ name it is. absurd (false≢true (sym (none_comes true (same_fold it nick)) ∙ is));
  leavers = λ name it is. is;
}

pub sets_may : {room : Document Place} (place : Place) (value : List ℕ) → IsSound names room
    → MayBeMade names room (sets place value)
sets_may place value sound = record {
  sound = sound;
  newcomers = λ it is. absurd (false≢true is);
  joiners = λ name it is. absurd (false≢true is);
  leavers = λ name it is. absurd (false≢true is);
}

pub takes_may : {room : Document Place} (old new : Nick) → IsSound names room
    → is_some (room.user old) ≡ true → room.user new ≡ None → is_name names new ≡ true
    → MayBeMade names room (takes old new)
takes_may old new sound there free named =
    record { sound = sound; there = there; free = free; named = named }

-- ---- documents

new_sound : (nick : Nick) → is_name names nick ≡ true
    → IsSound names (edited names blank_document (signs_on nick))
new_sound nick named = edited_sound names blank_document (signs_on nick)
    (signs_on_may nick (blank_sound names) refl named)

made_sound : (nick : Nick) → is_name names nick ≡ true
    → is_some ((edited names blank_document (signs_on nick)).user nick) ≡ true
    → (place : Place) (value : List ℕ)
    → IsSound names (edited names (edited names (edited names blank_document (signs_on nick))
    (makes nick)) (sets place value))
made_sound nick named there place value =
    edited_sound names (edited names (edited names blank_document (signs_on nick)) (makes nick))
    (sets place value) (sets_may place value
    (edited_sound names (edited names blank_document (signs_on nick)) (makes nick)
    (enters_may nick (only operator (codes "o")) (new_sound nick named) there)))

pub al_sound : IsSound names room_of_al
al_sound = made_sound al refl refl topic (codes "all")

pub ann_sound : IsSound names room_of_ann
ann_sound = made_sound ann refl refl key (codes "x")

start_sound : (at_a at_c : Document Place) → IsSound names at_a → IsSound names at_c
    → (s : Name) → IsSound names ((start_of at_a at_c).doc s)
start_sound at_a at_c a_sound c_sound s = by (same s a_net) (same s c_net)
  where
    by : (is_a is_c : Bool)
        → IsSound names (if is_a then at_a else if is_c then at_c else blank_document)
    by true is_c = a_sound
    by false true = c_sound
    by false false = blank_sound names

-- ---- runs

pub and_then : (net : RoomNet) (steps more : Steps) → AllMayBe rooms net steps
    → AllMayBe rooms (after_all rooms net steps) more → AllMayBe rooms net (steps ++ more)
and_then net [] more may more_may = more_may
and_then net (step ∷ steps) more may more_may =
    (may.0, and_then (after rooms net step) steps more may.1 more_may)

pub sound_at : (at_c : Document Place) → IsSound names at_c → (steps : Steps)
    → AllMayBe rooms (start_of room_of_al at_c) steps
    → (s : Name) → IsSound names ((after_all rooms (start_of room_of_al at_c) steps).doc s)
sound_at at_c c_sound steps may =
    facts_stay rooms (rooms_have_diamond names) (IsSound names)
    (λ room edit may sound. edited_sound names room edit may) (start_of room_of_al at_c) steps refl
    may (start_sound room_of_al at_c al_sound c_sound)
