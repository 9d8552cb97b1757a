-- A member who is out of a channel by theirs, and users who go.
use Rattle.std.proofs.Common.{◌≡◌, Bool, true, false, ◌&&◌, Option, Some, None, List}
use Rattle.std.proofs.Common.{refl, sym, ap, ◌∙◌, is_some, true≢false}
use Rattle.std.proofs.Math.Bool.{false≢true}
use Rattle.irc_names.specs.TableLaws.{same_fold, one_fold}
use Rattle.irc_edited_rooms.specs.Alike.{AlikeFates, AlikeUpdates, IsIdle, equal, idle}
use Rattle.irc_edited_rooms.specs.Writes.{Row, Writes, no_writes}
use Rattle.irc_edited_rooms.specs.Fates.{Fate, stays, goes, comes, untouched, is_coming, is_going}
use Rattle.irc_edited_rooms.specs.Fates.{member_behind}
use Rattle.irc_edited_rooms.specs.Documents.{ChannelName, Document, Nick, Update, pick}
use Rattle.irc_edited_rooms.specs.Documents.{renamed, updated}
use Rattle.irc_edited_rooms.specs.Crossing.{member_left, nothing}
use Rattle.irc_edited_rooms.specs.Crossing.{update_behind, update_followed, users_behind}
use Rattle.irc_edited_rooms.specs.Lemmas.NothingCrosses.{still_idle}
use Rattle.irc_room_edits.specs.Edits.{fate_if, of_one_member, writes_if}
use Rattle.irc_room_edits.specs.Places.{Place}
use Rattle.irc_crossed_edits.specs.Lemmas.Sparse.{behind_rename, behind_update, member_idle}
use Rattle.irc_crossed_edits.specs.Lemmas.Sparse.{none_goes, user_idle}

never_comes : (b : Bool) → is_coming (fate_if b goes) ≡ false
never_comes true = refl
never_comes false = refl

none_set : (b : Bool) → writes_if b no_writes ≡ no_writes
none_set true = refl
none_set false = refl

-- ---- out of a channel

module _ (names : List Nick) (room : Document Place) (channel : ChannelName) (nick : Nick) where
  abbrev leaver : Update Place
  leaver = of_one_member channel nick goes no_writes

  abbrev on : ChannelName → Nick → Bool
  on name k = same_fold name channel && same_fold k nick

  at_both : (name : ChannelName) (k : Nick) → on name k ≡ true
      → (name ≡ channel) × (k ≡ nick)
  at_both name k is = by (same_fold name channel) refl (same_fold k nick) refl is
    where
      by : (b : Bool) → same_fold name channel ≡ b → (c : Bool) → same_fold k nick ≡ c
          → (b && c) ≡ true → (name ≡ channel) × (k ≡ nick)
      by true p true q so = (one_fold name channel p, one_fold k nick q)
      by true p false q so = absurd (false≢true so)
      by false p c q so = absurd (false≢true so)

  stays_so : (ours : Update Place) (k : Nick)
      → is_going (users_behind room leaver ours k) ≡ false
  stays_so ours k = none_goes (is_some (room.user k)) untouched (ours.user k) refl

  users_so : (ours : Update Place) (k : Nick) → AlikeFates ((updated names room ours).user k)
      (users_behind room leaver ours k) untouched
  users_so ours k = user_idle (room.user k) untouched (ours.user k) untouched refl refl

  goes_comes_not : (row : Option (Row Place)) (ours : Fate Place)
      → is_coming (member_behind (is_some row) goes ours) ≡ false
  goes_comes_not row (stays u) = refl
  goes_comes_not row goes = refl
  goes_comes_not None (comes u) = refl
  goes_comes_not (Some it) (comes u) = refl

  left_comes_not : (row : Option (Row Place)) (theirs_left our_user ours : Fate Place)
      → is_coming (member_left theirs_left our_user (member_behind (is_some row) goes ours))
      ≡ false
  left_comes_not row goes our_user ours = refl
  left_comes_not row (stays v) goes ours = refl
  left_comes_not row (comes v) goes ours = refl
  left_comes_not row (stays v) (stays w) ours = goes_comes_not row ours
  left_comes_not row (stays v) (comes w) ours = goes_comes_not row ours
  left_comes_not row (comes v) (stays w) ours = goes_comes_not row ours
  left_comes_not row (comes v) (comes w) ours = goes_comes_not row ours

  idle_none : (row : Option (Row Place)) (fate : Fate Place) → row ≡ None
      → is_coming fate ≡ false → IsIdle row fate
  idle_none None fate none other = other
  idle_none (Some it) fate none other = absurd (true≢false (ap is_some none))

  -- one who is out at this end already, or gone
  module _ (ours : Update Place)
      (out : (updated names room ours).member channel nick ≡ None) where
    member_out : (name : ChannelName) (k : Nick)
        → AlikeFates ((updated names room ours).member name k)
        ((update_behind names room leaver ours).member name k) untouched
    member_out name k = by (on name k) refl
      where
        by : (b : Bool) → on name k ≡ b → AlikeFates ((updated names room ours).member name k)
            ((update_behind names room leaver ours).member name k) untouched
        by true is = idle
            (idle_none ((updated names room ours).member name k)
            ((update_behind names room leaver ours).member name k)
            (ap (λ it. (updated names room ours).member it k) (at_both name k is).0
            ∙ ap ((updated names room ours).member channel) (at_both name k is).1 ∙ out)
            (ap (λ it. is_coming (member_left (users_behind room leaver ours k) (ours.user k)
            (member_behind (is_some (room.member name k)) (fate_if it goes)
            (ours.member name k)))) is
            ∙ left_comes_not (room.member name k) (users_behind room leaver ours k)
            (ours.user k) (ours.member name k)))
            (still_idle ((updated names room ours).member name k))
        by false is = member_idle (room.member name k) (users_behind room leaver ours k)
            (ours.user k) (leaver.member name k) (ours.member name k) untouched
            (stays_so ours k) (ap (λ it. fate_if it goes) is) refl

    pub out_already : AlikeUpdates names (updated names room ours)
        (update_behind names room leaver ours) nothing
    out_already = behind_update names room leaver ours nothing
        (λ name k. never_comes (on name k)) (λ name. none_set (same_fold name channel))
        (λ name. refl) (users_so ours) member_out

  -- one who is there
  module _ (ours : Update Place) (user_stays : is_going (ours.user nick) ≡ false)
      (stays_in : ours.member channel nick ≡ untouched) where
    plain : (row : Option (Row Place)) (theirs_left our_user : Fate Place)
        → is_going theirs_left ≡ false → is_going our_user ≡ false
        → member_left theirs_left our_user (member_behind (is_some row) goes untouched) ≡ goes
    plain row goes our_user one two = absurd (true≢false one)
    plain row (stays v) goes one two = absurd (true≢false two)
    plain row (comes v) goes one two = absurd (true≢false two)
    plain row (stays v) (stays w) one two = refl
    plain row (stays v) (comes w) one two = refl
    plain row (comes v) (stays w) one two = refl
    plain row (comes v) (comes w) one two = refl

    member_stays : (name : ChannelName) (k : Nick)
        → AlikeFates ((updated names room ours).member name k)
        ((update_behind names room leaver ours).member name k) (leaver.member name k)
    member_stays name k = by (on name k) refl
      where
        here : on name k ≡ true → ours.member name k ≡ untouched
        here is = ap (λ it. ours.member it k) (at_both name k is).0
            ∙ ap (ours.member channel) (at_both name k is).1 ∙ stays_in

        by : (b : Bool) → on name k ≡ b → AlikeFates ((updated names room ours).member name k)
            ((update_behind names room leaver ours).member name k) (leaver.member name k)
        by true is = equal
            (ap (λ it. member_left (users_behind room leaver ours k) (ours.user k)
            (member_behind (is_some (room.member name k)) (fate_if it goes)
            (ours.member name k))) is
            ∙ ap (λ it. member_left (users_behind room leaver ours k) (ours.user k)
            (member_behind (is_some (room.member name k)) goes it)) (here is)
            ∙ plain (room.member name k) (users_behind room leaver ours k) (ours.user k)
            (stays_so ours k)
            (ap (λ it. is_going (ours.user it)) (at_both name k is).1 ∙ user_stays)
            ∙ sym (ap (λ it. fate_if it goes) is))
        by false is = member_idle (room.member name k) (users_behind room leaver ours k)
            (ours.user k) (leaver.member name k) (ours.member name k) (leaver.member name k)
            (stays_so ours k) (ap (λ it. fate_if it goes) is) (ap (λ it. fate_if it goes) is)

    pub out_still : AlikeUpdates names (updated names room ours)
        (update_behind names room leaver ours) leaver
    out_still = behind_update names room leaver ours leaver
        (λ name k. never_comes (on name k)) (λ name. none_set (same_fold name channel))
        (λ name. none_set (same_fold name channel)) (users_so ours) member_stays

  -- behind a nickname for another: under the one that the member has then
  module _ (old new now : Nick) (v : Writes Place)
      (is_now : (k : Nick) → pick (same_fold k new) (same_fold k old)
      (same_fold old nick) false (same_fold k nick) ≡ same_fold k now) where
    abbrev leaver_now : Update Place
    leaver_now = of_one_member channel now goes no_writes

    picked : (name : ChannelName) (k : Nick) (b c : Bool)
        → pick b c (fate_if (same_fold name channel && same_fold old nick) goes) untouched
        (fate_if (same_fold name channel && same_fold k nick) goes)
        ≡ fate_if (same_fold name channel
        && pick b c (same_fold old nick) false (same_fold k nick)) goes
    picked name k true c = refl
    picked name k false true = by (same_fold name channel)
      where
        by : (a : Bool) → untouched ≡ fate_if (a && false) goes
        by true = refl
        by false = refl
    picked name k false false = refl

    untouched_users : (b c : Bool)
        → pick b c untouched untouched untouched ≡ untouched {Place = Place}
    untouched_users true c = refl
    untouched_users false true = refl
    untouched_users false false = refl

    pub out_followed : AlikeUpdates names (renamed names room old new v)
        (update_followed false leaver old new v) leaver_now
    out_followed = behind_rename names room leaver leaver leaver_now
        (λ name k. never_comes (on name k)) (λ name. none_set (same_fold name channel))
        (λ name. none_set (same_fold name channel)) false old new v
        (λ k. equal (untouched_users (same_fold k new) (same_fold k old)))
        (λ name k. equal (picked name k (same_fold k new) (same_fold k old)
        ∙ ap (λ it. fate_if (same_fold name channel && it) goes) (is_now k)))
