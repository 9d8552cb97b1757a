-- What a search among bans finds.
use Rattle.std.proofs.Common.{◌≡◌, ℕ, Bool, true, false, cond, ◌||◌, Some, List, [], ◌∷◌, find}
use Rattle.std.proofs.Common.{unwrap_or, is_some, refl, sym, ◌∙◌, ap}
use Rattle.std.specs.List.{list_any}
use Rattle.irc_names.specs.Fold.{same}
use Rattle.irc_names.specs.FoldLaws.{same-equivalence}
use Rattle.irc_names.specs.Names.{is_ban_mask}
use Rattle.irc_channel_commands.specs.Laws.MasksByFold.{same_is_mask}

pub find_any : {X : Type 0} (p : X → Bool) (xs : List X) → is_some (find p xs) ≡ list_any p xs
find_any p [] = refl
find_any p (x ∷ xs) = by (p x) (find_any p xs)
  where
    by : (test : Bool) → is_some (find p xs) ≡ list_any p xs
        → is_some (cond test (Some x) (find p xs)) ≡ (test || list_any p xs)
    by true rest = refl
    by false rest = rest

pub find_passes : {X : Type 0} (p : X → Bool) (xs : List X) (x : X) → find p xs ≡ Some x
    → p x ≡ true
find_passes p [] x is = cc
find_passes p (y ∷ xs) x is = by (p y) refl is (λ found. find_passes p xs x found)
  where
    by : (test : Bool) → p y ≡ test → cond test (Some y) (find p xs) ≡ Some x
        → (find p xs ≡ Some x → p x ≡ true) → p x ≡ true
    by true passes found later = ap p (sym (ap (λ o. unwrap_or o y) found)) ∙ passes
    by false fails found later = later found

pub any_alike : (x m : List ℕ) → same x m ≡ true → (bans : List (List ℕ))
    → list_any (same x) bans ≡ list_any (same m) bans
any_alike x m is [] = refl
any_alike x m is (ban ∷ bans) =
    ap (λ b. b || list_any (same x) bans) (same-equivalence.congr x m ban is)
    ∙ ap (λ b. same m ban || b) (any_alike x m is bans)

-- a ban that was found by a mask of a ban is one
pub stored_is_mask : (mask there : List ℕ) (bans : List (List ℕ)) → is_ban_mask mask ≡ true
    → find (same mask) bans ≡ Some there → is_ban_mask there ≡ true
stored_is_mask mask there bans is found =
    same_is_mask mask there (find_passes (same mask) bans there found) is
