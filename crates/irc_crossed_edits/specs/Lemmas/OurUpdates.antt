-- What is known of ours where it is an update: whose user goes, who comes, and who is out of a
-- channel, as the rules of the layer tell it.
use Rattle.std.proofs.Common.{◌≡◌, ℕ, Bool, true, false, ◌&&◌, ◌||◌, Option, Some, None, List}
use Rattle.std.proofs.Common.{refl, sym, ap, subst, ◌∙◌, is_some, true≢false, unwrap_or}
use Rattle.std.proofs.Common.{if◌then◌else◌}
use Rattle.std.proofs.Math.Bool.{false≢true}
use Rattle.irc_names.specs.Fold.{key, same}
use Rattle.irc_names.specs.FoldLaws.{same-ties}
use Rattle.irc_names.specs.TableLaws.{same_fold}
use Rattle.irc_crossing.specs.Changes.{are_met, is_gone, member_now, nick_now, taken_by}
use Rattle.irc_crossing.specs.declared.change.Change.{Change}
use Rattle.irc_crossing.specs.declared.change.Change.TheVariants.{Come, Rename, Go, Out}
use Rattle.irc_edited_rooms.specs.Writes.{Writes, no_writes}
use Rattle.irc_edited_rooms.specs.Fates.{stays, goes, comes, untouched, is_coming, is_going}
use Rattle.irc_edited_rooms.specs.Fates.{after_fate}
use Rattle.irc_edited_rooms.specs.Documents.{Document, Update}
use Rattle.irc_edited_rooms.specs.Crossing.{both_going, going_if}
use Rattle.irc_edited_rooms.specs.Lemmas.Living.{two_folds}
use Rattle.irc_room_edits.specs.Edits.{fate_if, of_one_member, of_one_user}
use Rattle.irc_room_edits.specs.Places.{Place}
use Rattle.irc_crossed_edits.specs.Lemmas.Comers.{there_apart}

-- two nicknames, whichever is named first
pub tie : (one other : List ℕ) → same one other ≡ same_fold (key one) (key other)
tie one other = same-ties one other

pub tie_back : (one other : List ℕ) → same one other ≡ same_fold (key other) (key one)
tie_back one other = same-ties one other ∙ two_folds (key one) (key other)

-- a user stays who is meant by the nickname still
abbrev pub NickFact : Update Place → List ℕ → Option (List ℕ) → Type 0
NickFact ours nick None = is_going (ours.user (key nick)) ≡ true
NickFact ours nick (Some now) = (now ≡ nick) × (is_going (ours.user (key nick)) ≡ false)

pub record Stays (ours : Update Place) (channel nick now : List ℕ) : Type 0 where
  pub is : now ≡ nick
  pub user : is_going (ours.user (key nick)) ≡ false
  pub member : ours.member (key channel) (key nick) ≡ untouched

abbrev pub MemberFact : Document Place → Update Place → (channel nick : List ℕ)
    → Option (List ℕ) → Type 0
MemberFact room ours channel nick None = after_fate (ours.member (key channel) (key nick))
    (room.member (key channel) (key nick)) ≡ None
MemberFact room ours channel nick (Some now) = Stays ours channel nick now

pub record Ours (room : Document Place) (change : Change) (ours : Update Place) : Type 0 where
  pub now : (nick : List ℕ) → is_some (room.user (key nick)) ≡ true
      → NickFact ours nick (nick_now change nick)
  pub taken : (nick : List ℕ) → room.user (key nick) ≡ None
      → are_met (Some nick) (taken_by change) ≡ is_coming (ours.user (key nick))
  pub member : (channel nick : List ℕ) → is_some (room.user (key nick)) ≡ true
      → MemberFact room ours channel nick (member_now change channel nick)
  pub comes_alone : (one other : List ℕ) → is_coming (ours.user (key one)) ≡ true
      → is_going (ours.user (key other)) ≡ false

-- ---- each kind

fate_stays : (b : Bool) (writes : Writes Place) → is_going (fate_if b (stays writes)) ≡ false
fate_stays true writes = refl
fate_stays false writes = refl

fate_comes : (b : Bool) (writes : Writes Place) → is_going (fate_if b (comes writes)) ≡ false
fate_comes true writes = refl
fate_comes false writes = refl

comes_as : (b : Bool) (writes : Writes Place) → b ≡ is_coming (fate_if b (comes writes))
comes_as true writes = refl
comes_as false writes = refl

none_comes : (b : Bool) (writes : Writes Place) → is_coming (fate_if b (stays writes)) ≡ false
none_comes true writes = refl
none_comes false writes = refl

never_comes : (b : Bool) → is_coming (going_if {Place = Place} b) ≡ false
never_comes true = refl
never_comes false = refl

module _ (room : Document Place) where
  pub of_come : (nick : List ℕ) (writes : Writes Place) → room.user (key nick) ≡ None
      → Ours room (Come nick) (of_one_user (key nick) (comes writes))
  of_come taken writes free = record {
    now = λ nick there. by_now nick there (same taken nick) refl;
    taken = λ nick absent. tie nick taken ∙ comes_as (same_fold (key nick) (key taken)) writes;
    member = λ channel nick there. by_member channel nick there (same taken nick) refl;
    comes_alone = λ one other is. fate_comes (same_fold (key other) (key taken)) writes;
  }
    where
      differ : (nick : List ℕ) → is_some (room.user (key nick)) ≡ true → same taken nick ≡ true → ⊥
      differ nick there is = true≢false (sym is ∙ tie_back taken nick
          ∙ there_apart room (key nick) (key taken) there free)

      by_now : (nick : List ℕ) → is_some (room.user (key nick)) ≡ true → (b : Bool)
          → same taken nick ≡ b → NickFact (of_one_user (key taken) (comes writes)) nick
          (if b then None else Some nick)
      by_now nick there true is = absurd (differ nick there is)
      by_now nick there false is =
          (refl, fate_comes (same_fold (key nick) (key taken)) writes)

      by_member : (channel nick : List ℕ) → is_some (room.user (key nick)) ≡ true → (b : Bool)
          → same taken nick ≡ b
          → MemberFact room (of_one_user (key taken) (comes writes)) channel nick
          (if b then None else Some nick)
      by_member channel nick there true is = absurd (differ nick there is)
      by_member channel nick there false is = record {
        is = refl;
        user = fate_comes (same_fold (key nick) (key taken)) writes;
        member = refl;
      }

  pub of_respelling : (old new : List ℕ) (writes : Writes Place) → same old new ≡ true
      → Ours room (Rename old new) (of_one_user (key old) (stays writes))
  of_respelling old new writes one = record {
    now = λ nick there. subst (λ b. NickFact ours nick (if b then Some nick
        else (if same old nick then Some new else (if same new nick then None else Some nick))))
        (sym one) (refl, fate_stays (same_fold (key nick) (key old)) writes);
    taken = λ nick absent. ap (λ b. are_met (Some nick) (if b then None else Some new)) one
        ∙ sym (none_comes (same_fold (key nick) (key old)) writes);
    member = λ channel nick there. subst (λ b. MemberFact room ours channel nick
        (if b then Some nick
        else (if same old nick then Some new else (if same new nick then None else Some nick))))
        (sym one)
        (record {
          is = refl;
          user = fate_stays (same_fold (key nick) (key old)) writes;
          member = refl;
        });
    comes_alone = λ nick other is. fate_stays (same_fold (key other) (key old)) writes;
  }
    where
      ours : Update Place
      ours = of_one_user (key old) (stays writes)

  twice : (b : Bool) → (b || b) ≡ (b || false)
  twice true = refl
  twice false = refl

  pub gone_tie : (gone : List ℕ) (other : Option (List ℕ)) (nick : List ℕ)
      → is_gone gone other nick ≡ (same_fold (key nick) (key gone)
      || same_fold (key nick) (key (unwrap_or other gone)))
  gone_tie gone None nick =
      ap (λ b. b || false) (tie_back gone nick)
      ∙ sym (twice (same_fold (key nick) (key gone)))
  gone_tie gone (Some other) nick =
      (λ i. tie_back gone nick i || tie_back other nick i)

  pub of_go : (gone : List ℕ) (other : Option (List ℕ))
      → Ours room (Go gone other) (both_going (key gone) (key (unwrap_or other gone)))
  of_go gone other = record {
    now = λ nick there. by_now nick (is_gone gone other nick) refl;
    taken = λ nick absent. sym (never_comes (same_fold (key nick) (key gone)
        || same_fold (key nick) (key (unwrap_or other gone))));
    member = λ channel nick there. by_member channel nick (is_gone gone other nick) refl;
    comes_alone = λ one two is. absurd (false≢true (sym (never_comes
        (same_fold (key one) (key gone) || same_fold (key one) (key (unwrap_or other gone))))
        ∙ is));
  }
    where
      ours : Update Place
      ours = both_going (key gone) (key (unwrap_or other gone))

      by_now : (nick : List ℕ) (b : Bool) → is_gone gone other nick ≡ b
          → NickFact ours nick (if b then None else Some nick)
      by_now nick true is =
          ap (λ it. is_going (going_if {Place = Place} it)) (sym (gone_tie gone other nick) ∙ is)
      by_now nick false is = (
        refl,
        ap (λ it. is_going (going_if {Place = Place} it))
            (sym (gone_tie gone other nick) ∙ is),
      )

      by_member : (channel nick : List ℕ) (b : Bool) → is_gone gone other nick ≡ b
          → MemberFact room ours channel nick (if b then None else Some nick)
      by_member channel nick true is =
          ap (λ it. after_fate (going_if it) (room.member (key channel) (key nick)))
          (sym (gone_tie gone other nick) ∙ is)
      by_member channel nick false is = record {
        is = refl;
        user =
            ap (λ it. is_going (going_if {Place = Place} it)) (sym (gone_tie gone other nick) ∙ is);
        member = ap going_if (sym (gone_tie gone other nick) ∙ is);
      }

  and_turned : (a b : Bool) → (a && b) ≡ (b && a)
  and_turned true true = refl
  and_turned true false = refl
  and_turned false true = refl
  and_turned false false = refl

  pub of_out : (out from : List ℕ)
      → Ours room (Out out from) (of_one_member (key from) (key out) goes no_writes)
  of_out out from = record {
    now = λ nick there. (refl, refl);
    taken = λ nick absent. refl;
    member = λ channel nick there.
        by_member channel nick (same out nick && same from channel) refl;
    comes_alone = λ one other is. refl;
  }
    where
      ours : Update Place
      ours = of_one_member (key from) (key out) goes no_writes

      as_fates : (channel nick : List ℕ) → (same out nick && same from channel)
          ≡ (same_fold (key channel) (key from) && same_fold (key nick) (key out))
      as_fates channel nick =
          and_turned (same out nick) (same from channel)
          ∙ (λ i. tie_back from channel i && tie_back out nick i)

      by_member : (channel nick : List ℕ) (b : Bool)
          → (same out nick && same from channel) ≡ b
          → MemberFact room ours channel nick (if b then None else Some nick)
      by_member channel nick true is =
          ap (λ it. after_fate (fate_if it goes) (room.member (key channel) (key nick)))
          (sym (as_fates channel nick) ∙ is)
      by_member channel nick false is = record {
        is = refl;
        user = refl;
        member = ap (λ it. fate_if it goes) (sym (as_fates channel nick) ∙ is);
      }
