-- Of changes that set what is set already none raises anything.
use Rattle.std.proofs.Common.{◌≡◌, ℕ, Bool, true, false, cond, not, ◌||◌, Option, Some, None}
use Rattle.std.proofs.Common.{IfSome, List, [], ◌∷◌, ◌++◌, find, decimal, refl, ◌∙◌, ap}
use Rattle.std.proofs.lemmas.Bool.{or_from}
use Rattle.std.proofs.lemmas.List.Folds.{list_any-append}
use Rattle.std.specs.declared.cmp.Ordering.{Ordering}
use Rattle.std.specs.declared.cmp.Ordering.TheVariants.{Less, Equal, Greater}
use Rattle.std.specs.List.{list_any, list_all, AllByRecursion}
use Rattle.std.specs.Cmp.{IsTotalOrder, first_so, second_so, nat_cmp_total}
use Rattle.std.specs.Cmp.Lexicographic.{nat_list_cmp_total}
use Rattle.std.specs.Ordering.{is_lt, nat_cmp, ordering_reverse}
use Rattle.irc_names.specs.Digits.{number_of}
use Rattle.irc_names.specs.Fold.{same}
use Rattle.irc_names.specs.FoldLaws.{same-equivalence}
use Rattle.irc_names.specs.Greater.{bytes_cmp}
use Rattle.irc_modes.specs.declared.modes.Modes.{Modes}
use Rattle.irc_modes.specs.declared.modes.ModeChange.{ModeChange}
use Rattle.irc_modes.specs.declared.modes.ModeLetter.{ModeLetter}
use Rattle.irc_modes.specs.declared.modes.ModeLetter.TheVariants as letter
use Rattle.irc_modes.specs.declared.modes.Privacy.{Privacy}
use Rattle.irc_modes.specs.declared.modes.Privacy.TheVariants.{Public, Private, Secret}
use Rattle.irc_modes.specs.Bans.{before, rises}
use Rattle.irc_modes.specs.Modes.{mode_step}
use Rattle.irc_modes.specs.ModesSet.{IsLimit, AreWithinLimits, flag_set, privacy_set, key_set}
use Rattle.irc_modes.specs.ModesSet.{limit_set, set_changes, ban_changes}
use Rattle.irc_modes.specs.Raised.{is_above, is_public, is_secret, raises, raising}
use Rattle.irc_modes.specs.Lemmas.BanPlaces.{Side, low, level, high, side}
use Rattle.irc_modes.specs.Lemmas.LimitText.{limit_written, number_written}

-- whether a change raises something in these modes
abbrev raises_in : Modes → ModeChange → Bool
raises_in modes change = raises change.plus change.letter change.word modes

-- where no change raises anything in the modes as they are, none does in turn
none_in_turn : (changes : List ModeChange) (modes : Modes)
    → list_any (raises_in modes) changes ≡ false → raising changes modes ≡ []
none_in_turn [] modes none = refl
none_in_turn (change ∷ changes) modes none =
    by (raises_in modes change) none (λ rest. none_in_turn changes modes rest)
  where
    by : (test : Bool) → (test || list_any (raises_in modes) changes) ≡ false
        → (list_any (raises_in modes) changes ≡ false → raising changes modes ≡ [])
        → cond test (change ∷ raising changes (mode_step modes change)) (raising changes modes)
        ≡ []
    by true none_2 rest = cc
    by false none_2 rest = rest none_2

neither : (modes : Modes) (some more : List ModeChange) → list_any (raises_in modes) some ≡ false
    → list_any (raises_in modes) more ≡ false
    → list_any (raises_in modes) (some ++ more) ≡ false
neither modes some more none none_too =
    list_any-append (raises_in modes) some more
    ∙ or_from (list_any (raises_in modes) some) (list_any (raises_in modes) more) none none_too

-- nothing is above itself
not_above : {X : Type 0} {order : X → X → Ordering} → IsTotalOrder order → (one : X)
    → is_lt (order one one) ≡ false
not_above {order} total one = by (order one one) (total.antisymm one one)
  where
    by : (r : Ordering) → r ≡ ordering_reverse r → is_lt r ≡ false
    by Less is = cc
    by Equal is = refl
    by Greater is = refl

-- ---- the letters

flag_own : (modes : Modes) (which : ModeLetter) (on : Bool) → raises true which None modes ≡ not on
    → list_any (raises_in modes) (flag_set on which) ≡ false
flag_own modes which true is = ap (λ b. b || false) is
flag_own modes which false is = refl

privacy_own : (modes : Modes) (p : Privacy) → modes.privacy ≡ p
    → list_any (raises_in modes) (privacy_set p) ≡ false
privacy_own modes Public is = refl
privacy_own modes Private is = ap (λ p. is_public p || false) is
privacy_own modes Secret is = ap (λ p. not (is_secret p) || false) is

key_own : (modes : Modes) (k : Option (List ℕ)) → modes.key ≡ k
    → list_any (raises_in modes) (key_set k) ≡ false
key_own modes None is = refl
key_own modes (Some key) is =
    ap (λ there. is_above bytes_cmp key there || false) is
    ∙ ap (λ b. b || false) (not_above nat_list_cmp_total key)

limit_own : (modes : Modes) (l : Option ℕ) → IfSome l IsLimit → modes.limit ≡ l
    → list_any (raises_in modes) (limit_set l) ≡ false
limit_own modes None within is = refl
limit_own modes (Some limit) within is =
    ap (λ b. cond b (is_above nat_cmp (number_of (decimal limit)) modes.limit) true || false)
    (limit_written limit within)
    ∙ (λ i. is_above nat_cmp (number_written limit within i) (is i) || false)
    ∙ ap (λ b. b || false) (not_above nat_cmp_total limit)

-- ---- the bans

-- each ban is what is found for it
abbrev AreFound : List (List ℕ) → List (List ℕ) → Type 0
AreFound bans masks = AllByRecursion (λ mask. find (same mask) bans ≡ Some mask) masks

found_behind : (ban : List ℕ) (bans masks : List (List ℕ)) → list_all (before ban) masks ≡ true
    → AreFound bans masks → AreFound (ban ∷ bans) masks
found_behind ban bans [] all found = tt
found_behind ban bans (mask ∷ masks) all found = (
  by (side ban mask) (first_so (before ban mask) (list_all (before ban) masks) all),
  found_behind ban bans masks
      (second_so (before ban mask) (list_all (before ban) masks) all) found.1,
)
  where
    by : Side ban mask → before ban mask ≡ true
        → cond (same mask ban) (Some ban) (find (same mask) bans) ≡ Some mask
    by (low lower not_high other) first = cc
    by (level equal not_low not_high alike) first = cc
    by (high not_low higher other) first =
        ap (λ b. cond b (Some ban) (find (same mask) bans))
        (same-equivalence.symm mask ban ∙ other) ∙ found.0

all_found : (bans : List (List ℕ)) → rises bans ≡ true → AreFound bans bans
all_found [] rising = tt
all_found (ban ∷ bans) rising = (
  ap (λ b. cond b (Some ban) (find (same ban) bans)) (same-equivalence.refl ban),
  found_behind ban bans bans (first_so (list_all (before ban) bans) (rises bans) rising)
      (all_found bans (second_so (list_all (before ban) bans) (rises bans) rising)),
)

bans_own : (modes : Modes) (masks : List (List ℕ)) → AreFound modes.bans masks
    → list_any (raises_in modes) (ban_changes masks) ≡ false
bans_own modes [] found = refl
bans_own modes (mask ∷ masks) found =
    or_from (is_above bytes_cmp mask (find (same mask) modes.bans))
    (list_any (raises_in modes) (ban_changes masks))
    (ap (is_above bytes_cmp mask) found.0 ∙ not_above nat_list_cmp_total mask)
    (bans_own modes masks found.1)

-- ---- all of them

pub none_raised : (modes : Modes) → AreWithinLimits modes
    → raising (set_changes modes ++ ban_changes modes.bans) modes ≡ []
none_raised modes within =
    let m = modes in
    none_in_turn (set_changes m ++ ban_changes m.bans) m
    (neither m (set_changes m) (ban_changes m.bans)
    (neither m (flag_set m.invite_only letter.InviteOnly) _
    (flag_own m letter.InviteOnly m.invite_only refl)
    (neither m (flag_set m.moderated letter.Moderated) _
    (flag_own m letter.Moderated m.moderated refl)
    (neither m (flag_set m.no_outside letter.NoOutside) _
    (flag_own m letter.NoOutside m.no_outside refl)
    (neither m (privacy_set m.privacy) _ (privacy_own m m.privacy refl)
    (neither m (flag_set m.topic_locked letter.TopicLocked) _
    (flag_own m letter.TopicLocked m.topic_locked refl)
    (neither m (key_set m.key) _ (key_own m m.key refl)
    (limit_own m m.limit within.limit refl)))))))
    (bans_own m m.bans (all_found m.bans within.in_order)))
