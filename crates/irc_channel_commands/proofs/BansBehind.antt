-- What is found among bans, and how many there are, behind one change of them.
use Rattle.std.proofs.Common.{◌≡◌, ℕ, ◌+◌, ◌-◌, Bool, true, false, cond, not, Option, Some, None}
use Rattle.std.proofs.Common.{List, [], ◌∷◌, length, find, is_some, suc, refl, sym, ◌∙◌, ap, arith}
use Rattle.std.proofs.Common.{true≢false}
use Rattle.std.specs.List.{position, remove}
use Rattle.std.proofs.lemmas.List.Edits.{length-remove}
use Rattle.irc_names.specs.Fold.{same}
use Rattle.irc_names.specs.Names.{is_ban_mask}
use Rattle.irc_modes.specs.Bans.{before, rises}
use Rattle.irc_modes.specs.Modes.{ban_changed, bans_by_word, mask_in, with_ban, without_ban}
use Rattle.irc_modes.specs.Loops.ManyChanges.{bans_by_mask}
use Rattle.irc_modes.specs.Lemmas.BanPlaces.{placed, is_placed, with_rises, rises-filter}
use Rattle.irc_modes.specs.Lemmas.BanPlaces.{found_any, taken_out}
use Rattle.irc_modes.specs.Lemmas.FoundBans.{find-with_ban, find-without_ban}
use Rattle.irc_channel_commands.specs.Loops.KeptChanges.{ban_changed_to}
use Rattle.irc_channel_commands.specs.Laws.BansFound.{find_any, find_passes, any_alike}

-- ---- one change

pub found_behind : (m : List ℕ) (plus : Bool) (mask : Option (List ℕ))
    (bans : List (List ℕ)) → rises bans ≡ true
    → ban_changed_to m plus mask (find (same m) bans) ≡ find (same m) (bans_by_mask plus mask bans)
found_behind m plus None bans rising = refl
found_behind m false (Some w) bans rising = sym (find-without_ban m w bans)
found_behind m true (Some w) bans rising = sym (find-with_ban m w bans rising)

pub rises_behind : (plus : Bool) (mask : Option (List ℕ)) (bans : List (List ℕ)) → rises bans ≡ true
    → rises (bans_by_mask plus mask bans) ≡ true
rises_behind plus None bans rising = rising
rises_behind false (Some w) bans rising = rises-filter (λ ban. not (same w ban)) bans rising
rises_behind true (Some w) bans rising = with_rises w bans rising

-- ---- how many there are

length_placed : (mask : List ℕ) (bans : List (List ℕ)) → length bans + 1 ≡ length (placed mask bans)
length_placed mask [] = refl
length_placed mask (ban ∷ bans) = by (before ban mask) (length_placed mask bans)
  where
    one : (n : ℕ) → suc n + 1 ≡ suc (suc n)
    one n = omega arith

    deeper : (n k : ℕ) → n + 1 ≡ k → suc n + 1 ≡ suc k
    deeper n k h = omega (arith, h)

    by : (test : Bool) → length bans + 1 ≡ length (placed mask bans)
        → suc (length bans) + 1 ≡ length (cond test (ban ∷ placed mask bans) (mask ∷ ban ∷ bans))
    by true rest = deeper (length bans) (length (placed mask bans)) rest
    by false rest = one (length bans)

pub one_more : (mask : List ℕ) (bans : List (List ℕ)) → rises bans ≡ true
    → find (same mask) bans ≡ None → length bans + 1 ≡ length (with_ban mask bans)
one_more mask bans rising none =
    length_placed mask bans ∙ ap length
    (sym (is_placed mask bans rising (sym (find_any (same mask) bans) ∙ ap is_some none)))

pub one_less : (mask there : List ℕ) (bans : List (List ℕ)) → rises bans ≡ true
    → find (same mask) bans ≡ Some there → length bans - 1 ≡ length (without_ban there bans)
one_less mask there bans rising is = by (position (same there) bans) refl
  where
    stands : is_some (position (same there) bans) ≡ true
    stands =
        found_any (same there) bans
        ∙ sym (any_alike mask there (find_passes (same mask) bans there is) bans)
        ∙ sym (find_any (same mask) bans) ∙ ap is_some is

    less : (n k : ℕ) → k + 1 ≡ n → n - 1 ≡ k
    less n k h = omega (arith, h)

    by : (at : Option ℕ) → position (same there) bans ≡ at
        → length bans - 1 ≡ length (without_ban there bans)
    by None none = absurd (true≢false (sym stands ∙ ap is_some none))
    by (Some i) found =
        let facts = taken_out there bans i rising found in
        less (length bans) (length (remove bans i)) (length-remove bans i facts.within)
        ∙ ap length facts.rest

-- a word that is no mask names none
pub by_mask : (plus : Bool) (word : Option (List ℕ)) (bans : List (List ℕ))
    → bans_by_word plus word bans ≡ bans_by_mask plus (mask_in word) bans
by_mask plus None bans = refl
by_mask plus (Some word) bans = by (is_ban_mask word)
  where
    by : (test : Bool) → cond test (ban_changed plus word bans) bans ≡ bans_by_mask plus
        (cond test (Some word) None) bans
    by true = refl
    by false = refl
