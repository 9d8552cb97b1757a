-- Two writes of one row, and two fates of it: it plays no part which is first.
use Rattle.std.proofs.Common.{◌≡◌, Bool, true, false, Option, Some, None, List, ℕ}
use Rattle.std.proofs.Common.{refl, sym, ap, ◌∙◌, is_some, unwrap_or, option_map, if◌then◌else◌}
use Rattle.std.specs.Ordering.{is_lt}
use Rattle.std.proofs.Common.{true≢false}
use Rattle.std.proofs.Math.Bool.{false≢true}
use Rattle.irc_names.specs.Greater.{bytes_cmp}
use Rattle.irc_names.specs.GreaterLaws.{greater_is_even}
use Rattle.irc_edited_rooms.specs.Writes.{Row, Writes, blank_row, written, less}
use Rattle.irc_edited_rooms.specs.Writes.{writes_behind}
use Rattle.irc_edited_rooms.specs.Fates.{Fate, stays, goes, comes, untouched, is_going, is_coming}
use Rattle.irc_edited_rooms.specs.Fates.{after_fate, fate_behind, both_go, is_one}

by_test : (b : Bool) (x y : List ℕ) → unwrap_or (if b then Some x else None) y
    ≡ (if b then x else y)
by_test true x y = refl
by_test false x y = refl

places_meet : (theirs ours : Option (List ℕ)) (value : List ℕ)
    → unwrap_or (less theirs ours) (unwrap_or ours value)
    ≡ unwrap_or (less ours theirs) (unwrap_or theirs value)
places_meet None None value = refl
places_meet None (Some ours) value = refl
places_meet (Some theirs) None value = refl
places_meet (Some theirs) (Some ours) value =
    by_test (is_lt (bytes_cmp ours theirs)) theirs ours ∙ greater_is_even ours theirs
    ∙ sym (by_test (is_lt (bytes_cmp theirs ours)) ours theirs)

pub there_by_map : {A B : Type 0} (f : A → B) (row : Option A)
    → is_some (option_map f row) ≡ is_some row
there_by_map f None = refl
there_by_map f (Some row) = refl

module _ {Place : Type 0} where
  pub writes_meet : (theirs ours : Writes Place) (row : Row Place)
      → written (writes_behind theirs ours) (written ours row)
      ≡ written (writes_behind ours theirs) (written theirs row)
  writes_meet theirs ours row i place = places_meet (theirs place) (ours place) (row place) i

  -- how two who come meet is even
  abbrev pub IsEven : (Writes Place → Writes Place → Fate Place) → Type 0
  IsEven meeting = (theirs ours : Writes Place) (row : Row Place)
      → after_fate (meeting theirs ours) (Some (written ours row))
      ≡ after_fate (meeting ours theirs) (Some (written theirs row))

  pub fates_meet : (meeting : Writes Place → Writes Place → Fate Place) → IsEven meeting
      → (theirs ours : Fate Place) (row : Option (Row Place))
      → after_fate (fate_behind meeting (is_some row) theirs ours) (after_fate ours row)
      ≡ after_fate (fate_behind meeting (is_some row) ours theirs) (after_fate theirs row)
  fates_meet meeting even (stays theirs) (stays ours) None = refl
  fates_meet meeting even (stays theirs) (stays ours) (Some row) =
      ap Some (writes_meet theirs ours row)
  fates_meet meeting even (stays theirs) goes row = refl
  fates_meet meeting even (stays theirs) (comes ours) None = refl
  fates_meet meeting even (stays theirs) (comes ours) (Some row) =
      ap Some (writes_meet theirs ours row)
  fates_meet meeting even goes (stays ours) row = refl
  fates_meet meeting even goes goes row = refl
  fates_meet meeting even goes (comes ours) None = refl
  fates_meet meeting even goes (comes ours) (Some row) = refl
  fates_meet meeting even (comes theirs) (stays ours) None = refl
  fates_meet meeting even (comes theirs) (stays ours) (Some row) =
      ap Some (writes_meet theirs ours row)
  fates_meet meeting even (comes theirs) goes None = refl
  fates_meet meeting even (comes theirs) goes (Some row) = refl
  fates_meet meeting even (comes theirs) (comes ours) row =
      even theirs ours (unwrap_or row blank_row)

  -- ---- single facts of a fate

  pub untouched_stays : (row : Option (Row Place)) → after_fate untouched row ≡ row
  untouched_stays None = refl
  untouched_stays (Some row) = refl

  pub none_goes : (fate : Fate Place) (row : Option (Row Place)) → is_going fate ≡ true
      → after_fate fate row ≡ None
  none_goes (stays writes) row going = absurd (false≢true going)
  none_goes goes row going = refl
  none_goes (comes writes) row going = absurd (false≢true going)

  pub none_stays : (fate : Fate Place) → is_coming fate ≡ false → after_fate fate None ≡ None
  none_stays (stays writes) other = refl
  none_stays goes other = refl
  none_stays (comes writes) other = absurd (true≢false other)

-- ---- how two who come meet is even

pub both_go_even : {Place : Type 0} (theirs ours : Writes Place) (row : Row Place)
    → after_fate (both_go theirs ours) (Some (written ours row))
    ≡ after_fate (both_go ours theirs) (Some (written theirs row))
both_go_even theirs ours row = refl

pub is_one_even : {Place : Type 0} (theirs ours : Writes Place) (row : Row Place)
    → after_fate (is_one theirs ours) (Some (written ours row))
    ≡ after_fate (is_one ours theirs) (Some (written theirs row))
is_one_even theirs ours row = ap Some (writes_meet theirs ours row)
