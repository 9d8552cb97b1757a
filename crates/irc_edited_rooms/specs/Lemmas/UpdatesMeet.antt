-- Two updates: it plays no part which is first.
use Rattle.std.proofs.Common.{◌≡◌, Bool, true, false, Option, Some, None, List}
use Rattle.std.proofs.Common.{refl, sym, ap, ◌∙◌, is_some, true≢false}
use Rattle.std.proofs.Math.Bool.{false≢true}
use Rattle.irc_edited_rooms.specs.Writes.{Row, Writes, blank_row, written}
use Rattle.irc_edited_rooms.specs.Fates.{Fate, stays, goes, comes, is_going, is_coming}
use Rattle.irc_edited_rooms.specs.Fates.{after_fate, both_go, is_one, user_behind, member_behind}
use Rattle.irc_edited_rooms.specs.Documents.{Nick, ChannelName, Document, Update, lives, row_while}
use Rattle.irc_edited_rooms.specs.Documents.{updated}
use Rattle.irc_edited_rooms.specs.Crossing.{IsFitting, lives_by, member_left}
use Rattle.irc_edited_rooms.specs.Crossing.{set_left, update_behind}
use Rattle.irc_edited_rooms.specs.Lemmas.FatesMeet.{writes_meet, fates_meet, both_go_even}
use Rattle.irc_edited_rooms.specs.Lemmas.FatesMeet.{is_one_even, none_goes}
use Rattle.irc_edited_rooms.specs.Lemmas.FatesMeet.{untouched_stays}

module _ {Place : Type 0} where
  -- ---- one member, by what becomes of its user

  -- what is known of a member, if there is one, and of its user: what updates that can be made say
  record IsFit (user : Option (Row Place)) (of_user of_member : Fate Place) : Type 0 where
    newcomer : is_coming of_user ≡ true → user ≡ None
    joiner : is_coming of_member ≡ true
        → (is_some user ≡ true) × (is_going of_user ≡ false)
    leaver : is_going of_user ≡ true → is_going of_member ≡ true

  fit : (names : List Nick) (room : Document Place) (what : Update Place)
      → IsFitting names room what → (name : ChannelName) (nick : Nick)
      → IsFit (room.user nick) (what.user nick) (what.member name nick)
  fit names room what may name nick = record {
    newcomer = λ coming. (may.newcomers nick coming).0;
    joiner = may.joiners name nick;
    leaver = may.leavers name nick;
  }

  left : (user member : Option (Row Place)) (their_user our_user theirs ours : Fate Place)
      → Option (Row Place)
  left user member their_user our_user theirs ours =
      after_fate (member_left (user_behind (is_some user) their_user our_user) our_user
      (member_behind (is_some member) theirs ours)) (after_fate ours member)

  plainly : (member : Option (Row Place)) (theirs ours : Fate Place)
      → after_fate (member_behind (is_some member) theirs ours) (after_fate ours member)
      ≡ after_fate (member_behind (is_some member) ours theirs) (after_fate theirs member)
  plainly member theirs ours = fates_meet is_one is_one_even theirs ours member

  -- nobody who was there
  nobody : (user member : Option (Row Place)) → (is_some member ≡ true → is_some user ≡ true)
      → user ≡ None → member ≡ None
  nobody user None known none = refl
  nobody user (Some row) known none =
      absurd (false≢true (sym (ap is_some none) ∙ known refl))

  none_comes : (user : Option (Row Place)) (of_user of_member : Fate Place)
      → IsFit user of_user of_member → user ≡ None → is_coming of_member ≡ false
  none_comes user of_user (stays writes) is none = refl
  none_comes user of_user goes is none = refl
  none_comes user of_user (comes writes) is none =
      absurd (false≢true (sym (ap is_some none) ∙ (is.joiner refl).0))

  -- a member of one who goes, and of one who comes then
  goes_behind_none : (theirs ours : Fate Place) → is_going theirs ≡ true
      → is_coming ours ≡ false
      → after_fate (member_behind false theirs ours) (after_fate ours None) ≡ None
  goes_behind_none (stays theirs) ours going other = absurd (false≢true going)
  goes_behind_none goes (stays ours) going other = refl
  goes_behind_none goes goes going other = refl
  goes_behind_none goes (comes ours) going other = absurd (true≢false other)
  goes_behind_none (comes theirs) ours going other = absurd (false≢true going)

  members_meet : (user member : Option (Row Place)) (their_user our_user theirs ours : Fate Place)
      → (is_some member ≡ true → is_some user ≡ true) → IsFit user their_user theirs
      → IsFit user our_user ours
      → left user member their_user our_user theirs ours
      ≡ left user member our_user their_user ours theirs
  unfolding left
  members_meet user member (stays v) (stays w) theirs ours known a b = plainly member theirs ours
  members_meet user member (stays v) goes theirs ours known a b =
      untouched_stays (after_fate ours member) ∙ none_goes ours member (b.leaver refl)
  members_meet user member goes (stays w) theirs ours known a b =
      sym (untouched_stays (after_fate theirs member) ∙ none_goes theirs member (a.leaver refl))
  members_meet user member goes goes theirs ours known a b = refl
  members_meet None member (stays v) (comes w) theirs ours known a b = plainly member theirs ours
  members_meet None member (comes v) (stays w) theirs ours known a b = plainly member theirs ours
  members_meet None None goes (comes w) theirs ours known a b =
      goes_behind_none theirs ours (a.leaver refl) (none_comes None (comes w) ours b refl)
      ∙ sym (untouched_stays (after_fate theirs None) ∙ none_goes theirs None (a.leaver refl))
  members_meet None None (comes v) goes theirs ours known a b =
      untouched_stays (after_fate ours None) ∙ none_goes ours None (b.leaver refl)
      ∙ sym (goes_behind_none ours theirs (b.leaver refl)
      (none_comes None (comes v) theirs a refl))
  members_meet None (Some row) goes (comes w) theirs ours known a b =
      absurd (false≢true (known refl))
  members_meet None (Some row) (comes v) goes theirs ours known a b =
      absurd (false≢true (known refl))
  members_meet user member (comes v) (comes w) theirs ours known a b = refl
  members_meet (Some row) member (stays v) (comes w) theirs ours known a b =
      absurd (true≢false (ap is_some (b.newcomer refl)))
  members_meet (Some row) member (comes v) (stays w) theirs ours known a b =
      absurd (true≢false (ap is_some (a.newcomer refl)))
  members_meet (Some row) member goes (comes w) theirs ours known a b =
      absurd (true≢false (ap is_some (b.newcomer refl)))
  members_meet (Some row) member (comes v) goes theirs ours known a b =
      absurd (true≢false (ap is_some (a.newcomer refl)))

  -- ---- one channel

  rows_meet : (is_there was_there theirs_there ours_there : Bool) (row : Row Place)
      (theirs ours : Writes Place) → (was_there ≡ false → row ≡ blank_row)
      → row_while is_there (written (set_left was_there theirs_there ours_there row theirs ours)
      (row_while ours_there (written ours row)))
      ≡ row_while is_there (written (set_left was_there ours_there theirs_there row ours theirs)
      (row_while theirs_there (written theirs row)))
  rows_meet false a b c row theirs ours blank = refl
  rows_meet true true true true row theirs ours blank = writes_meet theirs ours row
  rows_meet true false true true row theirs ours blank = writes_meet theirs ours row
  rows_meet true true true false row theirs ours blank = refl
  rows_meet true false true false row theirs ours blank = ap (written theirs) (sym (blank refl))
  rows_meet true true false true row theirs ours blank = refl
  rows_meet true false false true row theirs ours blank = ap (written ours) (blank refl)
  rows_meet true true false false row theirs ours blank = refl
  rows_meet true false false false row theirs ours blank = refl

  -- ---- a document

  pub updates_meet : (names : List Nick) (room : Document Place) (ours theirs : Update Place)
      → IsFitting names room ours → IsFitting names room theirs
      → updated names (updated names room ours) (update_behind names room theirs ours)
      ≡ updated names (updated names room theirs) (update_behind names room ours theirs)
  unfolding left
  updates_meet names room ours theirs our_may their_may i = record {
    user = λ nick. users nick i;
    member = λ name nick. members name nick i;
    channel = λ name. (ap (λ is_there. row_while is_there (written
        (set_left (lives names (room.member name)) (lives_by names room theirs name)
        (lives_by names room ours name) (room.channel name) (theirs.set name) (ours.set name))
        (row_while (lives_by names room ours name) (written (ours.set name) (room.channel name)))))
        (λ j. lives names (λ nick. members name nick j))
        ∙ rows_meet (lives names (λ nick. members name nick 1)) (lives names (room.member name))
        (lives_by names room theirs name) (lives_by names room ours name) (room.channel name)
        (theirs.set name) (ours.set name) (our_may.sound.blank name)) i;
  }
    where
      users : (nick : Nick) → (updated names (updated names room ours)
          (update_behind names room theirs ours)).user nick
          ≡ (updated names (updated names room theirs)
          (update_behind names room ours theirs)).user nick
      users nick = fates_meet both_go both_go_even (theirs.user nick) (ours.user nick)
          (room.user nick)

      members : (name : ChannelName) (nick : Nick) → (updated names (updated names room ours)
          (update_behind names room theirs ours)).member name nick
          ≡ (updated names (updated names room theirs)
          (update_behind names room ours theirs)).member name nick
      members name nick = members_meet (room.user nick) (room.member name nick)
          (theirs.user nick) (ours.user nick) (theirs.member name nick) (ours.member name nick)
          (our_may.sound.known name nick) (fit names room theirs their_may name nick)
          (fit names room ours our_may name nick)
