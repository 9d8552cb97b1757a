-- Theirs behind ours, where ours is an update.
use Rattle.std.proofs.Common.{◌≡◌, ℕ, Bool, true, false, ◌||◌, Option, Some, None, List}
use Rattle.std.proofs.Common.{refl, sym, ap, subst, ◌∙◌, is_some, true≢false, unwrap_or, option_map}
use Rattle.std.proofs.Common.{if◌then◌else◌}
use Rattle.std.proofs.Math.Bool.{false≢true}
use Rattle.irc_names.specs.Fold.{key, same}
use Rattle.irc_names.specs.TableLaws.{same_fold, one_fold}
use Rattle.irc_crossing.specs.Changes.{are_met, both_go, crossed, gone_of, member_now, nick_now}
use Rattle.irc_crossing.specs.Changes.{taken_by}
use Rattle.irc_crossing.specs.declared.change.Change.{Change}
use Rattle.irc_crossing.specs.declared.change.Change.TheVariants.{Come, Rename, Go, Out}
use Rattle.irc_edited_rooms.specs.Alike.{AlikeEdits, AlikeFates, AlikeUpdates, equal, idle}
use Rattle.irc_edited_rooms.specs.Writes.{Row, Writes, no_writes, writes_behind}
use Rattle.irc_edited_rooms.specs.Fates.{Fate, stays, goes, comes, untouched, is_coming, is_going}
use Rattle.irc_edited_rooms.specs.Fates.{after_fate, user_behind}
use Rattle.irc_edited_rooms.specs.Documents.{ChannelName, Document, Edit, Nick, Update}
use Rattle.irc_edited_rooms.specs.Documents.{rename, update, updated}
use Rattle.irc_edited_rooms.specs.Crossing.{IsFitting, both_going, going_if, nothing, rename_left}
use Rattle.irc_edited_rooms.specs.Crossing.{update_behind, users_behind}
use Rattle.irc_edited_rooms.specs.Lemmas.FatesMeet.{none_goes as none_gone, none_stays}
use Rattle.irc_edited_rooms.specs.Lemmas.FatesMeet.{there_by_map}
use Rattle.irc_edited_rooms.specs.Lemmas.MayStay.{stays_there}
use Rattle.irc_edited_rooms.specs.Lemmas.StaySound.{updated_sound}
use Rattle.irc_room_edits.specs.Edits.{fate_if, of_one_member, of_one_user}
use Rattle.irc_room_edits.specs.Places.{Place}
use Rattle.irc_crossed_edits.specs.Standing.{Stands, StandsFor, renaming_to}
use Rattle.irc_crossed_edits.specs.Lemmas.Comers.{come_left, come_met}
use Rattle.irc_crossed_edits.specs.Lemmas.Goers.{go_behind, goers}
use Rattle.irc_crossed_edits.specs.Lemmas.Leavers.{out_already, out_still}
use Rattle.irc_crossed_edits.specs.Lemmas.OurUpdates.{MemberFact, NickFact, Ours}
use Rattle.irc_crossed_edits.specs.Lemmas.Sparse.{behind_update, member_idle, none_goes, user_idle}

pub or_turned : (a b : Bool) → (a || b) ≡ (b || a)
or_turned true true = refl
or_turned true false = refl
or_turned false true = refl
or_turned false false = refl

or_right : (a b : Bool) → b ≡ true → (a || b) ≡ true
or_right true b is = refl
or_right false b is = is

either_of : (a b : Bool) → (a || b) ≡ true → (a ≡ false → b ≡ true)
either_of true b is none = absurd (true≢false none)
either_of false b is none = is

module _ (names : List Nick) (room : Document Place) (ours_is : Change) (ours : Update Place)
    (fitting : IsFitting names room ours) (facts : Ours room ours_is ours) where
  abbrev behind : Document Place
  behind = updated names room ours

  -- ---- somebody comes

  come_by : (nick : List ℕ) (writes : Writes Place) → room.user (key nick) ≡ None → (b : Bool)
      → are_met (Some nick) (taken_by ours_is) ≡ b
      → Stands names behind (if b then Some (Go nick None) else Some (Come nick))
      (update (update_behind names room (of_one_user (key nick) (comes writes)) ours))
  come_by nick writes free true is = record {
    writes = no_writes;
    of_room = (there, there);
    alike = come_met names room (key nick) writes free ours too;
  }
    where
      too : is_coming (ours.user (key nick)) ≡ true
      too = sym (facts.taken nick free) ∙ is

      comes_there : (fate : Fate Place) → is_coming fate ≡ true
          → is_some (after_fate fate (room.user (key nick))) ≡ true
      comes_there (stays v) coming = absurd (false≢true coming)
      comes_there goes coming = absurd (false≢true coming)
      comes_there (comes v) coming = refl

      there : is_some (behind.user (key nick)) ≡ true
      there = comes_there (ours.user (key nick)) too
  come_by nick writes free false is = record {
    writes = writes;
    of_room = ap (after_fate (ours.user (key nick))) free
        ∙ none_stays (ours.user (key nick)) (sym (facts.taken nick free) ∙ is);
    alike = come_left names room (key nick) writes free ours (sym (facts.taken nick free) ∙ is);
  }

  pub come_stands : (nick : List ℕ) (writes : Writes Place) → room.user (key nick) ≡ None
      → Stands names behind (crossed (Come nick) ours_is)
      (update (update_behind names room (of_one_user (key nick) (comes writes)) ours))
  come_stands nick writes free =
      come_by nick writes free (are_met (Some nick) (taken_by ours_is)) refl

  -- ---- a member is out

  out_by : (nick channel : List ℕ) → is_some (room.member (key channel) (key nick)) ≡ true
      → (now : Option (List ℕ)) → MemberFact room ours channel nick now
      → Stands names behind (option_map (λ it. Out it channel) now)
      (update (update_behind names room
      (of_one_member (key channel) (key nick) goes no_writes) ours))
  out_by nick channel there None fact =
      out_already names room (key channel) (key nick) ours fact
  out_by nick channel there (Some now) fact = subst (λ it. StandsFor names behind (Out it channel)
      (update (update_behind names room
      (of_one_member (key channel) (key nick) goes no_writes) ours))) (sym fact.is) (record {
        writes = no_writes;
        of_room = ap (λ it. is_some (after_fate it (room.member (key channel) (key nick))))
            fact.member
            ∙ there_by_map (λ row. row) (room.member (key channel) (key nick)) ∙ there;
        alike = out_still names room (key channel) (key nick) ours fact.user fact.member;
      })

  pub out_stands : (nick channel : List ℕ)
      → is_some (room.member (key channel) (key nick)) ≡ true
      → Stands names behind (crossed (Out nick channel) ours_is)
      (update (update_behind names room
      (of_one_member (key channel) (key nick) goes no_writes) ours))
  out_stands nick channel there = out_by nick channel there (member_now ours_is channel nick)
      (facts.member channel nick (fitting.sound.known (key channel) (key nick) there))

  -- ---- users go

  still : (nick : List ℕ) → is_some (room.user (key nick)) ≡ true
      → is_going (ours.user (key nick)) ≡ false → is_some (behind.user (key nick)) ≡ true
  still nick there other = stays_there (ours.user (key nick)) (room.user (key nick)) other there

  away : (nick : List ℕ) → is_going (ours.user (key nick)) ≡ true
      → behind.user (key nick) ≡ None
  away nick going = none_gone (ours.user (key nick)) (room.user (key nick)) going

  module _ (one two : List ℕ) (one_there : is_some (room.user (key one)) ≡ true)
      (two_there : is_some (room.user (key two)) ≡ true) where
    abbrev these : Nick → Bool
    these k = same_fold k (key one) || same_fold k (key two)

    abbrev theirs : Update Place
    theirs = both_going (key one) (key two)

    these_there : (k : Nick) → these k ≡ true → is_some (room.user k) ≡ true
    these_there k is = by (same_fold k (key one)) refl
      where
        by : (b : Bool) → same_fold k (key one) ≡ b → is_some (room.user k) ≡ true
        by true first = ap (λ it. is_some (room.user it)) (one_fold k (key one) first)
            ∙ one_there
        by false first = ap (λ it. is_some (room.user it)) (one_fold k (key two)
            (either_of (same_fold k (key one)) (same_fold k (key two)) is first)) ∙ two_there

    left : (left : Nick → Bool) → ((k : Nick) → left k ≡ true → these k ≡ true)
        → ((k : Nick) → these k ≡ true → left k ≡ false → behind.user k ≡ None)
        → AlikeUpdates names behind (update_behind names room theirs ours) (goers left)
    left = go_behind names room these these_there ours (updated_sound names room ours fitting)

    -- by who of them is there still
    both_left : AlikeUpdates names behind (update_behind names room theirs ours)
        (both_going (key one) (key two))
    both_left = left these (λ k is. is) (λ k is other. absurd (true≢false (sym is ∙ other)))

    gone_at : (nick : List ℕ) (k : Nick) → same_fold k (key nick) ≡ true
        → is_going (ours.user (key nick)) ≡ true → behind.user k ≡ None
    gone_at nick k is going = ap behind.user (one_fold k (key nick) is) ∙ away nick going

    pick_first : (a b : Bool) → (a || a) ≡ true → (a || b) ≡ true
    pick_first true b is = refl
    pick_first false b is = absurd (false≢true is)

    pick_second : (a b : Bool) → (b || b) ≡ true → (a || b) ≡ true
    pick_second a true is = or_right a true refl
    pick_second a false is = absurd (false≢true is)

    only_second : (a b : Bool) → (a || b) ≡ true → (a || a) ≡ false → b ≡ true
    only_second true b is none = absurd (true≢false none)
    only_second false b is none = is

    only_first : (a b : Bool) → (a || b) ≡ true → (b || b) ≡ false → a ≡ true
    only_first true b is none = refl
    only_first false true is none = absurd (true≢false none)
    only_first false false is none = is

    first_left : is_going (ours.user (key two)) ≡ true
        → AlikeUpdates names behind (update_behind names room theirs ours)
        (both_going (key one) (key one))
    first_left going = left (λ k. same_fold k (key one) || same_fold k (key one))
        (λ k. pick_first (same_fold k (key one)) (same_fold k (key two)))
        (λ k is other. gone_at two k
        (only_second (same_fold k (key one)) (same_fold k (key two)) is other) going)

    second_left : is_going (ours.user (key one)) ≡ true
        → AlikeUpdates names behind (update_behind names room theirs ours)
        (both_going (key two) (key two))
    second_left going = left (λ k. same_fold k (key two) || same_fold k (key two))
        (λ k. pick_second (same_fold k (key one)) (same_fold k (key two)))
        (λ k is other. gone_at one k
        (only_first (same_fold k (key one)) (same_fold k (key two)) is other) going)

    none_left : is_going (ours.user (key one)) ≡ true → is_going (ours.user (key two)) ≡ true
        → AlikeUpdates names behind (update_behind names room theirs ours) nothing
    none_left going too = left (λ k. false) (λ k is. absurd (false≢true is)) (λ k is other.
        by k is (same_fold k (key one)) refl)
      where
        by : (k : Nick) → these k ≡ true → (b : Bool) → same_fold k (key one) ≡ b
            → behind.user k ≡ None
        by k is true first = gone_at one k first going
        by k is false first = gone_at two k
            (either_of (same_fold k (key one)) (same_fold k (key two)) is first) too

    -- of two who are named
    two_by : (x y : Option (List ℕ)) → NickFact ours one x → NickFact ours two y
        → Stands names behind (gone_of x y) (update (update_behind names room theirs ours))
    two_by None None going too = none_left going too
    two_by (Some now) None stays_so too =
        subst (λ it. StandsFor names behind (Go it None)
        (update (update_behind names room theirs ours))) (sym stays_so.0) (record {
          writes = no_writes;
          of_room = (still one one_there stays_so.1, still one one_there stays_so.1);
          alike = first_left too;
        })
    two_by None (Some now) going stays_too =
        subst (λ it. StandsFor names behind (Go it None)
        (update (update_behind names room theirs ours))) (sym stays_too.0) (record {
          writes = no_writes;
          of_room = (still two two_there stays_too.1, still two two_there stays_too.1);
          alike = second_left going;
        })
    two_by (Some now) (Some later) stays_so stays_too =
        subst (λ it. StandsFor names behind (Go it (Some later))
        (update (update_behind names room theirs ours))) (sym stays_so.0)
        (subst (λ it. StandsFor names behind (Go one (Some it))
        (update (update_behind names room theirs ours))) (sym stays_too.0) (record {
          writes = no_writes;
          of_room = (still one one_there stays_so.1, still two two_there stays_too.1);
          alike = both_left;
        }))

  one_by : (one : List ℕ) (there : is_some (room.user (key one)) ≡ true) (x : Option (List ℕ))
      → NickFact ours one x → Stands names behind (gone_of x None)
      (update (update_behind names room (both_going (key one) (key one)) ours))
  one_by one there None going = none_left one one there there going going
  one_by one there (Some now) stays_so =
      subst (λ it. StandsFor names behind (Go it None)
      (update (update_behind names room (both_going (key one) (key one)) ours)))
      (sym stays_so.0) (record {
        writes = no_writes;
        of_room = (still one there stays_so.1, still one there stays_so.1);
        alike = both_left one one there there;
      })

  pub go_stands : (one : List ℕ) (other : Option (List ℕ))
      → is_some (room.user (key one)) ≡ true
      → is_some (room.user (key (unwrap_or other one))) ≡ true
      → Stands names behind (crossed (Go one other) ours_is) (update (update_behind names room
      (both_going (key one) (key (unwrap_or other one))) ours))
  go_stands one None there too = one_by one there (nick_now ours_is one) (facts.now one there)
  go_stands one (Some other) there too = two_by one other there too (nick_now ours_is one)
      (nick_now ours_is other) (facts.now one there) (facts.now other too)

  -- ---- a nickname is spelled otherwise

  module _ (nick : List ℕ) (writes : Writes Place)
      (there : is_some (room.user (key nick)) ≡ true) where
    abbrev speller : Update Place
    speller = of_one_user (key nick) (stays writes)

    others_so : (target : Update Place) → ((k : Nick) → same_fold k (key nick) ≡ false
        → target.user k ≡ untouched) → ((k : Nick) → same_fold k (key nick) ≡ true
        → AlikeFates (behind.user k) (users_behind room speller ours k) (target.user k))
        → ((name : ChannelName) (k : Nick) → target.member name k ≡ untouched)
        → ((name : ChannelName) → target.set name ≡ no_writes)
        → AlikeUpdates names behind (update_behind names room speller ours) target
    others_so target elsewhere here members sets = behind_update names room speller ours target
        (λ name k. refl) (λ name. refl) sets
        (λ k. by k (same_fold k (key nick)) refl)
        (λ name k. member_idle (room.member name k) (users_behind room speller ours k)
        (ours.user k) untouched (ours.member name k) (target.member name k)
        (stays_so k (same_fold k (key nick)) refl) refl (members name k))
      where
        by : (k : Nick) (b : Bool) → same_fold k (key nick) ≡ b
            → AlikeFates (behind.user k) (users_behind room speller ours k) (target.user k)
        by k true is = here k is
        by k false is = user_idle (room.user k) (speller.user k) (ours.user k) (target.user k)
            (ap (λ it. fate_if it (stays writes)) is) (elsewhere k is)

        never : (is_there : Bool) (fate : Fate Place)
            → is_going (user_behind is_there (stays writes) fate) ≡ false
        never is_there (stays v) = refl
        never is_there goes = refl
        never true (comes v) = refl
        never false (comes v) = refl

        stays_so : (k : Nick) (b : Bool) → same_fold k (key nick) ≡ b
            → is_going (users_behind room speller ours k) ≡ false
        stays_so k true is =
            ap (λ it. is_going (user_behind (is_some (room.user k)) (fate_if it (stays writes))
            (ours.user k))) is ∙ never (is_some (room.user k)) (ours.user k)
        stays_so k false is = none_goes (is_some (room.user k)) (speller.user k) (ours.user k)
            (ap (λ it. fate_if it (stays writes)) is)

    -- what is left of it at the nickname
    at_nick : (k : Nick) → same_fold k (key nick) ≡ true
        → users_behind room speller ours k
        ≡ user_behind true (stays writes) (ours.user (key nick))
    at_nick k is =
        ap (λ it. user_behind (is_some (room.user k)) (fate_if it (stays writes)) (ours.user k)) is
        ∙ ap (λ it. user_behind (is_some (room.user it)) (stays writes) (ours.user it))
        (one_fold k (key nick) is)
        ∙ ap (λ it. user_behind it (stays writes) (ours.user (key nick))) there

    spelled_gone : is_going (ours.user (key nick)) ≡ true
        → AlikeUpdates names behind (update_behind names room speller ours) nothing
    spelled_gone going = others_so nothing (λ k is. refl) here (λ name k. refl) (λ name. refl)
      where
        idle_so : (row : Option (Row Place)) (fate : Fate Place) → row ≡ None
            → is_coming fate ≡ false → AlikeFates row fate untouched
        idle_so None fate none other = idle other refl
        idle_so (Some row) fate none other = absurd (true≢false (ap is_some none))

        gone_fate : (fate : Fate Place) → is_going fate ≡ true
            → is_coming (user_behind true (stays writes) fate) ≡ false
        gone_fate (stays v) is = refl
        gone_fate goes is = refl
        gone_fate (comes v) is = refl

        here : (k : Nick) → same_fold k (key nick) ≡ true
            → AlikeFates (behind.user k) (users_behind room speller ours k) untouched
        here k is = idle_so (behind.user k) (users_behind room speller ours k)
            (ap behind.user (one_fold k (key nick) is) ∙ away nick going)
            (ap is_coming (at_nick k is) ∙ gone_fate (ours.user (key nick)) going)

    spelled_left : (left : Writes Place)
        → user_behind true (stays writes) (ours.user (key nick)) ≡ stays left
        → AlikeUpdates names behind (update_behind names room speller ours)
        (of_one_user (key nick) (stays left))
    spelled_left left is = others_so (of_one_user (key nick) (stays left))
        (λ k other. ap (λ it. fate_if it (stays left)) other)
        (λ k here. equal (at_nick k here ∙ is
        ∙ sym (ap (λ it. fate_if it (stays left)) here)))
        (λ name k. refl) (λ name. refl)

    -- with what is written then
    module _ (new : List ℕ) (one : same nick new ≡ true) where
      spelled_some : (fate : Fate Place) → ours.user (key nick) ≡ fate
          → is_going (ours.user (key nick)) ≡ false
          → Stands names behind (Some (Rename nick new))
          (update (update_behind names room speller ours))
      spelled_some goes at other = absurd (true≢false (sym (ap is_going at) ∙ other))
      spelled_some (comes v) at other = absurd (false≢true (sym (ap is_some
          (fitting.newcomers (key nick) (ap is_coming at)).0) ∙ there))
      spelled_some (stays v) at other = record {
        writes = writes_behind writes v;
        of_room = still nick there other;
        alike = subst (λ it. AlikeEdits names behind
            (update (update_behind names room speller ours))
            (renaming_to it nick new (writes_behind writes v))) (sym one)
            (spelled_left (writes_behind writes v)
            (ap (user_behind true (stays writes)) at));
      }

      spelled_by : (now : Option (List ℕ)) → NickFact ours nick now
          → Stands names behind (option_map (λ it. Rename it new) now)
          (update (update_behind names room speller ours))
      spelled_by None going = spelled_gone going
      spelled_by (Some now) fact = subst (λ it. StandsFor names behind (Rename it new)
          (update (update_behind names room speller ours))) (sym fact.0)
          (spelled_some (ours.user (key nick)) refl fact.1)

      pub spelling_stands : Stands names behind (crossed (Rename nick new) ours_is)
          (update (update_behind names room speller ours))
      spelling_stands = subst (λ b. Stands names behind
          (if are_met (if b then None else Some new) (taken_by ours_is)
          then Some (both_go (Rename nick new))
          else option_map (λ it. Rename it new) (nick_now ours_is nick))
          (update (update_behind names room speller ours))) (sym one)
          (spelled_by (nick_now ours_is nick) (facts.now nick there))

  -- ---- a nickname for another

  module _ (nick new : List ℕ) (writes : Writes Place) (two : same nick new ≡ false)
      (there : is_some (room.user (key nick)) ≡ true) (free : room.user (key new) ≡ None) where
    abbrev left_edit : Bool → Edit Place
    left_edit b = rename_left b (key nick) (key new) writes (ours.user (key nick))

    both_turned : AlikeUpdates names behind (both_going (key nick) (key new))
        (both_going (key new) (key nick))
    both_turned = record {
      users = λ k. equal (ap going_if
          (or_turned (same_fold k (key nick)) (same_fold k (key new))));
      members = λ name k. equal (ap going_if
          (or_turned (same_fold k (key nick)) (same_fold k (key new))));
      sets = λ name living. refl;
    }

    comes_there : (fate : Fate Place) → is_coming fate ≡ true
        → is_some (after_fate fate (room.user (key new))) ≡ true
    comes_there (stays v) coming = absurd (false≢true coming)
    comes_there goes coming = absurd (false≢true coming)
    comes_there (comes v) coming = refl

    renamed_some : (fate : Fate Place) → ours.user (key nick) ≡ fate
        → is_going (ours.user (key nick)) ≡ false
        → Stands names behind (Some (Rename nick new))
        (rename_left false (key nick) (key new) writes fate)
    renamed_some goes at other = absurd (true≢false (sym (ap is_going at) ∙ other))
    renamed_some (comes v) at other = absurd (false≢true (sym (ap is_some
        (fitting.newcomers (key nick) (ap is_coming at)).0) ∙ there))
    renamed_some (stays v) at other = record {
      writes = writes_behind writes v;
      of_room = still nick there other;
      alike = subst (λ it. AlikeEdits names behind
          (rename (key nick) (key new) (writes_behind writes v))
          (renaming_to it nick new (writes_behind writes v))) (sym two) refl;
    }

    gone_edit : (fate : Fate Place) → is_going fate ≡ true
        → Stands names behind None (rename_left false (key nick) (key new) writes fate)
    gone_edit (stays v) going = absurd (false≢true going)
    gone_edit (comes v) going = absurd (false≢true going)
    gone_edit goes going = record {
      users = λ k. equal refl;
      members = λ name k. equal refl;
      sets = λ name living. refl;
    }

    renamed_by : (now : Option (List ℕ)) → NickFact ours nick now
        → Stands names behind (option_map (λ it. Rename it new) now) (left_edit false)
    renamed_by None going = gone_edit (ours.user (key nick)) going
    renamed_by (Some now) fact = subst (λ it. Stands names behind (Some (Rename it new))
        (left_edit false)) (sym fact.0) (renamed_some (ours.user (key nick)) refl fact.1)

    rename_by : (b : Bool) → are_met (Some new) (taken_by ours_is) ≡ b
        → Stands names behind
        (if b then Some (both_go (Rename nick new))
        else option_map (λ it. Rename it new) (nick_now ours_is nick)) (left_edit b)
    rename_by true is =
        let too = sym (facts.taken new free) ∙ is in
        record {
          writes = no_writes;
          of_room = (
            comes_there (ours.user (key new)) too,
            still nick there (facts.comes_alone new nick too),
          );
          alike = both_turned;
        }
    rename_by false is = renamed_by (nick_now ours_is nick) (facts.now nick there)

    pub rename_stands : Stands names behind (crossed (Rename nick new) ours_is)
        (left_edit (is_coming (ours.user (key new))))
    rename_stands = subst (λ b. Stands names behind
        (if are_met (if b then None else Some new) (taken_by ours_is)
        then Some (both_go (Rename nick new))
        else option_map (λ it. Rename it new) (nick_now ours_is nick))
        (left_edit (is_coming (ours.user (key new))))) (sym two)
        (subst (λ b. Stands names behind
        (if are_met (Some new) (taken_by ours_is) then Some (both_go (Rename nick new))
        else option_map (λ it. Rename it new) (nick_now ours_is nick)) (left_edit b))
        (facts.taken new free)
        (rename_by (are_met (Some new) (taken_by ours_is)) refl))
