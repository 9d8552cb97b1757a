-- Theirs behind a nickname for another.
use Rattle.std.proofs.Common.{◌≡◌, ℕ, Bool, true, false, ◌||◌, Option, Some, None, List}
use Rattle.std.proofs.Common.{refl, sym, ap, subst, ◌∙◌, is_some, true≢false, unwrap_or, option_map}
use Rattle.std.proofs.Common.{if◌then◌else◌}
use Rattle.irc_names.specs.Fold.{key, same}
use Rattle.irc_names.specs.TableLaws.{same_fold, same_fold-refl, one_fold}
use Rattle.irc_crossing.specs.Changes.{are_met, both_go, crossed, gone_of, nick_now}
use Rattle.irc_crossing.specs.Changes.{taken_by}
use Rattle.irc_crossing.specs.declared.change.Change.{Change}
use Rattle.irc_crossing.specs.declared.change.Change.TheVariants.{Come, Rename, Go, Out}
use Rattle.irc_edited_rooms.specs.Alike.{AlikeEdits, AlikeUpdates, equal}
use Rattle.irc_edited_rooms.specs.Writes.{Writes, no_writes}
use Rattle.irc_edited_rooms.specs.Fates.{stays, goes, comes, untouched, is_coming}
use Rattle.irc_edited_rooms.specs.Fates.{user_behind}
use Rattle.irc_edited_rooms.specs.Documents.{Document, Nick, Update, pick, rename}
use Rattle.irc_edited_rooms.specs.Documents.{renamed, swapped, update}
use Rattle.irc_edited_rooms.specs.Crossing.{MayBeRenamed, both_going, going_if}
use Rattle.irc_edited_rooms.specs.Crossing.{rename_behind_rename, update_followed}
use Rattle.irc_edited_rooms.specs.Lemmas.Living.{two_folds}
use Rattle.irc_edited_rooms.specs.Lemmas.StaySound.{there_at}
use Rattle.irc_edited_rooms.specs.Lemmas.TwoRenames.{elsewhere}
use Rattle.irc_room_edits.specs.Edits.{fate_if, of_one_member, of_one_user}
use Rattle.irc_room_edits.specs.Places.{Place}
use Rattle.irc_crossed_edits.specs.Standing.{Stands, renaming_to}
use Rattle.irc_crossed_edits.specs.Lemmas.BehindUpdates.{or_turned}
use Rattle.irc_crossed_edits.specs.Lemmas.Comers.{come_followed, come_taken, there_apart}
use Rattle.irc_crossed_edits.specs.Lemmas.Goers.{go_followed}
use Rattle.irc_crossed_edits.specs.Lemmas.Leavers.{out_followed}
use Rattle.irc_crossed_edits.specs.Lemmas.OurUpdates.{tie, tie_back}
use Rattle.irc_crossed_edits.specs.Lemmas.Sparse.{behind_rename}

if_false : {A : Type 0} (b : Bool) (x y : A) → b ≡ false → (if b then x else y) ≡ y
if_false true x y is = absurd (true≢false is)
if_false false x y is = refl

module _ (names : List Nick) (room : Document Place) (old new : List ℕ) (v : Writes Place)
    (two : same old new ≡ false) (may : MayBeRenamed names room (key old) (key new)) where
  abbrev behind : Document Place
  behind = renamed names room (key old) (key new) v

  abbrev ours_is : Change
  ours_is = Rename old new

  old_there : is_some (room.user (key old)) ≡ true
  old_there = may.there

  -- ---- who has which nickname then

  -- a user who was there has the new one if it had the old
  abbrev now : List ℕ → List ℕ
  now nick = if same old nick then new else nick

  differs : (nick : List ℕ) → is_some (room.user (key nick)) ≡ true → same new nick ≡ false
  differs nick there = tie_back new nick ∙ there_apart room (key nick) (key new) there may.free

  nick_is : (nick : List ℕ) → is_some (room.user (key nick)) ≡ true
      → nick_now ours_is nick ≡ Some (now nick)
  nick_is nick there =
      if_false (same old new) (Some nick) (if same old nick then Some new
      else (if same new nick then None else Some nick)) two
      ∙ ap (λ it. if same old nick then Some new else it)
      (if_false (same new nick) None (Some nick) (differs nick there))
      ∙ by (same old nick)
    where
      by : (b : Bool) → (if b then Some new else Some nick) ≡ Some (if b then new else nick)
      by true = refl
      by false = refl

  is_now : (nick : List ℕ) → is_some (room.user (key nick)) ≡ true → (k : Nick)
      → pick (same_fold k (key new)) (same_fold k (key old)) (same_fold (key old) (key nick))
      false (same_fold k (key nick)) ≡ same_fold k (key (now nick))
  is_now nick there k = by (same old nick) refl
    where
      one : same_fold (key old) (key nick) ≡ true → (b c : Bool) → same_fold k (key new) ≡ b
          → same_fold k (key old) ≡ c
          → pick b c (same_fold (key old) (key nick)) false (same_fold k (key nick)) ≡ b
      one is true c p q = is
      one is false true p q = refl
      one is false false p q =
          ap (same_fold k) (sym (one_fold (key old) (key nick) is)) ∙ q

      other : same_fold (key old) (key nick) ≡ false → (b c : Bool) → same_fold k (key new) ≡ b
          → same_fold k (key old) ≡ c
          → pick b c (same_fold (key old) (key nick)) false (same_fold k (key nick))
          ≡ same_fold k (key nick)
      other is true c p q =
          is ∙ sym (ap (λ it. same_fold it (key nick)) (one_fold k (key new) p)
          ∙ two_folds (key new) (key nick)
          ∙ there_apart room (key nick) (key new) there may.free)
      other is false true p q = sym (ap (λ it. same_fold it (key nick)) (one_fold k (key old) q)
          ∙ is)
      other is false false p q = refl

      by : (b : Bool) → same old nick ≡ b
          → pick (same_fold k (key new)) (same_fold k (key old)) (same_fold (key old) (key nick))
          false (same_fold k (key nick)) ≡ same_fold k (key (if b then new else nick))
      by true is = one (sym (tie old nick) ∙ is) (same_fold k (key new))
          (same_fold k (key old)) refl refl
      by false is = other (sym (tie old nick) ∙ is) (same_fold k (key new))
          (same_fold k (key old)) refl refl

  -- a row that was there is there under the nickname of then
  moved_to : {A : Type 0} (rows : Nick → A) (nick : List ℕ)
      → is_some (room.user (key nick)) ≡ true
      → rows (swapped (key old) (key new) (key (now nick))) ≡ rows (key nick)
  moved_to rows nick there = by (same old nick) refl
    where
      by : (b : Bool) → same old nick ≡ b
          → rows (swapped (key old) (key new) (key (if b then new else nick))) ≡ rows (key nick)
      by true is =
          ap (λ b. rows (pick b (same_fold (key new) (key old)) (key old) (key new) (key new)))
          (same_fold-refl (key new))
          ∙ ap rows (one_fold (key old) (key nick) (sym (tie old nick) ∙ is))
      by false is =
          ap (λ b. rows (pick b (same_fold (key nick) (key old)) (key old) (key new) (key nick)))
          (there_apart room (key nick) (key new) there may.free)
          ∙ ap (λ c. rows (pick false c (key old) (key new) (key nick)))
          (sym (tie_back old nick) ∙ is)

  user_then : (nick : List ℕ) → is_some (room.user (key nick)) ≡ true
      → is_some (behind.user (key (now nick))) ≡ true
  user_then nick there =
      there_at (same_fold (key (now nick)) (key new)) v
      (room.user (swapped (key old) (key new) (key (now nick))))
      ∙ ap is_some (moved_to room.user nick there) ∙ there

  -- ---- a member is out

  pub out_stands : (nick channel : List ℕ)
      → is_some (room.member (key channel) (key nick)) ≡ true
      → Stands names behind (crossed (Out nick channel) ours_is)
      (update (update_followed false (of_one_member (key channel) (key nick) goes no_writes)
      (key old) (key new) v))
  out_stands nick channel there =
      let user = may.sound.known (key channel) (key nick) there in
      subst (λ it. Stands names behind (option_map (λ who. Out who channel) it)
      (update (update_followed false (of_one_member (key channel) (key nick) goes no_writes)
      (key old) (key new) v))) (sym (nick_is nick user)) (record {
        writes = no_writes;
        of_room = ap is_some (moved_to (room.member (key channel)) nick user) ∙ there;
        alike = out_followed names room (key channel) (key nick) (key old) (key new)
            (key (now nick)) v (is_now nick user);
      })

  -- ---- users go

  both_now : (one two : List ℕ) → is_some (room.user (key one)) ≡ true
      → is_some (room.user (key two)) ≡ true → (k : Nick)
      → pick (same_fold k (key new)) (same_fold k (key old))
      (same_fold (key old) (key one) || same_fold (key old) (key two)) false
      (same_fold k (key one) || same_fold k (key two))
      ≡ (same_fold k (key (now one)) || same_fold k (key (now two)))
  both_now one two there too k =
      by (same_fold k (key new)) (same_fold k (key old))
      ∙ (λ i. is_now one there k i || is_now two too k i)
    where
      by : (b c : Bool)
          → pick b c (same_fold (key old) (key one) || same_fold (key old) (key two)) false
          (same_fold k (key one) || same_fold k (key two))
          ≡ (pick b c (same_fold (key old) (key one)) false (same_fold k (key one))
          || pick b c (same_fold (key old) (key two)) false (same_fold k (key two)))
      by true c = refl
      by false true = refl
      by false false = refl

  go_as : (one two : List ℕ) → is_some (room.user (key one)) ≡ true
      → is_some (room.user (key two)) ≡ true
      → AlikeUpdates names behind
      (update_followed false (both_going (key one) (key two)) (key old) (key new) v)
      (both_going (key (now one)) (key (now two)))
  go_as one two there too = go_followed names room
      (λ k. same_fold k (key one) || same_fold k (key two)) these_there (key old) (key new) v
      (λ k. same_fold k (key (now one)) || same_fold k (key (now two)))
      (both_now one two there too)
    where
      by : (k : Nick) (b : Bool) → same_fold k (key one) ≡ b
          → (b || same_fold k (key two)) ≡ true → is_some (room.user k) ≡ true
      by k true first is = ap (λ it. is_some (room.user it)) (one_fold k (key one) first) ∙ there
      by k false first is = ap (λ it. is_some (room.user it)) (one_fold k (key two) is) ∙ too

      these_there : (k : Nick) → (same_fold k (key one) || same_fold k (key two)) ≡ true
          → is_some (room.user k) ≡ true
      these_there k is = by k (same_fold k (key one)) refl is

  pub go_stands : (one : List ℕ) (other : Option (List ℕ))
      → is_some (room.user (key one)) ≡ true
      → is_some (room.user (key (unwrap_or other one))) ≡ true
      → Stands names behind (crossed (Go one other) ours_is) (update (update_followed false
      (both_going (key one) (key (unwrap_or other one))) (key old) (key new) v))
  go_stands one None there too = subst (λ it. Stands names behind (gone_of it None)
      (update (update_followed false (both_going (key one) (key one)) (key old) (key new) v)))
      (sym (nick_is one there)) (record {
        writes = no_writes;
        of_room = (user_then one there, user_then one there);
        alike = go_as one one there there;
      })
  go_stands one (Some other) there too = subst (λ it. Stands names behind
      (gone_of it (nick_now ours_is other))
      (update (update_followed false (both_going (key one) (key other)) (key old) (key new) v)))
      (sym (nick_is one there))
      (subst (λ it. Stands names behind (gone_of (Some (now one)) it)
      (update (update_followed false (both_going (key one) (key other)) (key old) (key new) v)))
      (sym (nick_is other too)) (record {
        writes = no_writes;
        of_room = (user_then one there, user_then other too);
        alike = go_as one other there too;
      }))

  -- ---- somebody comes

  taken_is : taken_by ours_is ≡ Some new
  taken_is = if_false (same old new) None (Some new) two

  come_by : (nick : List ℕ) (writes : Writes Place) → room.user (key nick) ≡ None → (b : Bool)
      → same nick new ≡ b
      → Stands names behind (if b then Some (Go nick None) else Some (Come nick))
      (update (update_followed b (of_one_user (key nick) (comes writes)) (key old) (key new) v))
  come_by nick writes free true is =
      let one : key new ≡ key nick =
      sym (one_fold (key nick) (key new) (sym (tie nick new) ∙ is)) in
      let there : is_some (behind.user (key nick)) ≡ true =
      ap (λ it. is_some (behind.user it)) (sym one)
      ∙ there_at (same_fold (key new) (key new)) v
      (room.user (swapped (key old) (key new) (key new)))
      ∙ ap (λ b. is_some (room.user (pick b (same_fold (key new) (key old)) (key old) (key new)
      (key new)))) (same_fold-refl (key new)) ∙ may.there in
      record {
        writes = no_writes;
        of_room = (there, there);
        alike = subst (λ it. AlikeUpdates names (renamed names room (key old) it v)
            (update_followed true (of_one_user (key nick) (comes writes)) (key old) it v)
            (both_going (key nick) (key nick))) (sym one)
            (come_taken names room (key nick) writes free (key old) v);
      }
  come_by nick writes free false is =
      let apart_old = there_apart room (key old) (key nick) may.there free in
      let apart_new = two_folds (key new) (key nick) ∙ sym (tie nick new) ∙ is in
      record {
        writes = writes;
        of_room = elsewhere room.user (key old) (key new) (key nick) v (sym (tie nick new) ∙ is)
            (two_folds (key nick) (key old) ∙ apart_old) ∙ free;
        alike = come_followed names room (key nick) writes free (key old) (key new) v apart_old
            apart_new;
      }

  fate_comes : (b : Bool) (writes : Writes Place) → is_coming (fate_if b (comes writes)) ≡ b
  fate_comes true writes = refl
  fate_comes false writes = refl

  pub come_stands : (nick : List ℕ) (writes : Writes Place) → room.user (key nick) ≡ None
      → Stands names behind (crossed (Come nick) ours_is)
      (update (update_followed
      (is_coming ((of_one_user (key nick) (comes writes)).user (key new)))
      (of_one_user (key nick) (comes writes)) (key old) (key new) v))
  come_stands nick writes free =
      subst (λ it. Stands names behind
      (if are_met (Some nick) it then Some (Go nick None) else Some (Come nick))
      (update (update_followed
      (is_coming ((of_one_user (key nick) (comes writes)).user (key new)))
      (of_one_user (key nick) (comes writes)) (key old) (key new) v))) (sym taken_is)
      (subst (λ b. Stands names behind
      (if same nick new then Some (Go nick None) else Some (Come nick))
      (update (update_followed b (of_one_user (key nick) (comes writes)) (key old) (key new) v)))
      (tie_back nick new ∙ sym (fate_comes (same_fold (key new) (key nick)) writes))
      (come_by nick writes free (same nick new) refl))

  -- ---- a nickname is spelled otherwise

  module _ (nick other : List ℕ) (writes : Writes Place) (one : same nick other ≡ true)
      (there : is_some (room.user (key nick)) ≡ true) (apart : same nick old ≡ false) where
    abbrev speller : Update Place
    speller = of_one_user (key nick) (stays writes)

    spelled_at : (k : Nick) (b c : Bool) → same_fold k (key new) ≡ b
        → same_fold k (key old) ≡ c
        → pick b c (user_behind true (speller.user (key old)) (stays v)) untouched
        (speller.user k) ≡ speller.user k
    spelled_at k true c is_new is_old =
        ap (λ it. user_behind true (fate_if it (stays writes)) (stays v))
        (sym (tie_back nick old) ∙ apart)
        ∙ sym (ap (λ it. fate_if it (stays writes))
        (ap (λ it. same_fold it (key nick)) (one_fold k (key new) is_new)
        ∙ two_folds (key new) (key nick)
        ∙ there_apart room (key nick) (key new) there may.free))
    spelled_at k false true is_new is_old = sym (ap (λ it. fate_if it (stays writes))
        (ap (λ it. same_fold it (key nick)) (one_fold k (key old) is_old)
        ∙ sym (tie_back nick old) ∙ apart))
    spelled_at k false false is_new is_old = refl

    spelled_member : (b c : Bool)
        → pick b c untouched untouched untouched ≡ untouched {Place = Place}
    spelled_member true c = refl
    spelled_member false true = refl
    spelled_member false false = refl

    spelled_followed : AlikeUpdates names behind
        (update_followed false speller (key old) (key new) v) speller
    spelled_followed = behind_rename names room speller speller speller (λ name k. refl)
        (λ name. refl) (λ name. refl) false (key old) (key new) v
        (λ k. equal (spelled_at k (same_fold k (key new)) (same_fold k (key old)) refl refl))
        (λ name k. equal (spelled_member (same_fold k (key new)) (same_fold k (key old))))

    same_now : now nick ≡ nick
    same_now = if_false (same old nick) new nick
        (tie_back old nick ∙ sym (tie nick old) ∙ apart)

    pub spelling_stands : Stands names behind (crossed (Rename nick other) ours_is)
        (update (update_followed false speller (key old) (key new) v))
    spelling_stands = subst (λ b. Stands names behind
        (if are_met (if b then None else Some other) (taken_by ours_is)
        then Some (both_go (Rename nick other))
        else option_map (λ it. Rename it other) (nick_now ours_is nick))
        (update (update_followed false speller (key old) (key new) v))) (sym one)
        (subst (λ it. Stands names behind (option_map (λ who. Rename who other) it)
        (update (update_followed false speller (key old) (key new) v)))
        (sym (nick_is nick there ∙ ap Some same_now)) (record {
          writes = writes;
          of_room = ap (λ it. is_some (behind.user (key it))) (sym same_now)
              ∙ user_then nick there;
          alike = subst (λ it. AlikeEdits names behind
              (update (update_followed false speller (key old) (key new) v))
              (renaming_to it nick other writes)) (sym one) spelled_followed;
        }))

  -- ---- a nickname for another

  module _ (nick other : List ℕ) (writes : Writes Place) (differ : same nick other ≡ false)
      (there : is_some (room.user (key nick)) ≡ true)
      (apart : same nick old ≡ false) where
    both_turned : AlikeUpdates names behind (both_going (key nick) (key other))
        (both_going (key other) (key nick))
    both_turned = record {
      users = λ k. equal (ap going_if
          (or_turned (same_fold k (key nick)) (same_fold k (key other))));
      members = λ name k. equal (ap going_if
          (or_turned (same_fold k (key nick)) (same_fold k (key other))));
      sets = λ name living. refl;
    }

    not_old : now nick ≡ nick
    not_old = if_false (same old nick) new nick
        (tie_back old nick ∙ sym (tie nick old) ∙ apart)

    nick_then : is_some (behind.user (key nick)) ≡ true
    nick_then = ap (λ it. is_some (behind.user (key it))) (sym not_old) ∙ user_then nick there

    new_then : same other new ≡ true → is_some (behind.user (key other)) ≡ true
    new_then is = ap (λ it. is_some (behind.user it))
        (one_fold (key other) (key new) (sym (tie other new) ∙ is))
        ∙ there_at (same_fold (key new) (key new)) v
        (room.user (swapped (key old) (key new) (key new)))
        ∙ ap (λ b. is_some (room.user (pick b (same_fold (key new) (key old)) (key old) (key new)
        (key new)))) (same_fold-refl (key new)) ∙ may.there

    rename_by : (b : Bool) → same other new ≡ b
        → Stands names behind (if b then Some (both_go (Rename nick other))
        else option_map (λ it. Rename it other) (nick_now ours_is nick))
        (rename_behind_rename false b (key nick) (key other) writes (key new))
    rename_by true is = record {
      writes = no_writes;
      of_room = (new_then is, nick_then);
      alike = both_turned;
    }
    rename_by false is = subst (λ it. Stands names behind
        (option_map (λ who. Rename who other) it) (rename (key nick) (key other) writes))
        (sym (nick_is nick there ∙ ap Some not_old)) (record {
          writes = writes;
          of_room = nick_then;
          alike = subst (λ it. AlikeEdits names behind (rename (key nick) (key other) writes)
              (renaming_to it nick other writes)) (sym differ) refl;
        })

    pub rename_stands : Stands names behind (crossed (Rename nick other) ours_is)
        (rename_behind_rename (same_fold (key nick) (key old)) (same_fold (key other) (key new))
        (key nick) (key other) writes (key new))
    rename_stands = subst (λ b. Stands names behind
        (if are_met (if b then None else Some other) (taken_by ours_is)
        then Some (both_go (Rename nick other))
        else option_map (λ it. Rename it other) (nick_now ours_is nick))
        (rename_behind_rename (same_fold (key nick) (key old)) (same_fold (key other) (key new))
        (key nick) (key other) writes (key new))) (sym differ)
        (subst (λ it. Stands names behind
        (if are_met (Some other) it then Some (both_go (Rename nick other))
        else option_map (λ who. Rename who other) (nick_now ours_is nick))
        (rename_behind_rename (same_fold (key nick) (key old)) (same_fold (key other) (key new))
        (key nick) (key other) writes (key new))) (sym taken_is)
        (subst (λ b. Stands names behind
        (if same other new then Some (both_go (Rename nick other))
        else option_map (λ who. Rename who other) (nick_now ours_is nick))
        (rename_behind_rename b (same_fold (key other) (key new)) (key nick) (key other) writes
        (key new))) (sym apart ∙ tie nick old)
        (subst (λ b. Stands names behind
        (if same other new then Some (both_go (Rename nick other))
        else option_map (λ who. Rename who other) (nick_now ours_is nick))
        (rename_behind_rename false b (key nick) (key other) writes (key new))) (tie other new)
        (rename_by (same other new) refl))))
