-- How much room changes of bans need. Room for each ban that was not there at the start and is set,
-- counted once for each change, is enough:
-- a ban that was there at the start and is taken out leaves room to set it again.
use Rattle.std.proofs.Common.{◌≡◌, ℕ, ◌+◌, ◌<◌, ◌≤◌, Bool, true, false, cond, not, ◌&&◌, ◌||◌}
use Rattle.std.proofs.Common.{Option, Some, None, List, [], ◌∷◌, length, filter, get_or, drop, refl}
use Rattle.std.proofs.Common.{sym, ap, subst, ◌∙◌, suc, arith, le_refl, le_of_eq}
use Rattle.std.proofs.lemmas.List.{drop_more}
use Rattle.std.specs.List.{list_any, list_all}
use Rattle.std.specs.Cmp.{first_so, second_so}
use Rattle.std.proofs.lemmas.Bool.{or_left, or_right}
use Rattle.irc_names.specs.Lemmas.PlainFacts.{or_swapped}
use Rattle.irc_names.specs.Fold.{same}
use Rattle.irc_names.specs.FoldLaws.{same-equivalence}
use Rattle.irc_modes.specs.declared.modes.ModeChange.{ModeChange}
use Rattle.irc_modes.specs.Bans.{before, rises}
use Rattle.irc_modes.specs.Modes.{adds_ban, ban_mask, is_new, with_ban, without_ban}
use Rattle.irc_modes.specs.Loops.ManyChanges.{bans_by_mask, ban_step}
use Rattle.irc_modes.specs.Lemmas.BanPlaces.{Side, low, level, high, side, placed, is_placed}
use Rattle.irc_modes.specs.Lemmas.BanPlaces.{put_over, unchanged}

-- how many of the bans at the start are not there now
abbrev pub gone : List (List ℕ) → List (List ℕ) → ℕ
gone [] bans = 0
gone (ban ∷ start) bans = cond (list_any (same ban) bans) 0 1 + gone start bans

-- there is room for all that may be set
abbrev pub HasRoom : List (List ℕ) → List ModeChange → List (List ℕ) → ℕ → Type 0
HasRoom start changes bans capacity =
    length bans + gone start bans + length (filter (adds_ban start) changes) ≤ capacity

-- ---- numbers

add_le : (i j a e b : ℕ) → i ≤ j → a + e ≤ b → (i + a) + e ≤ j + b
add_le i j a e b h k = omega (arith, h, k)

zero_le : 0 + 0 ≤ 0
zero_le = omega arith

none_more : 0 ≤ 0 + 1
none_more = omega arith

at_level : (p q : Bool) (a b : ℕ) → p ≡ true → q ≡ false → a ≤ b
    → (cond p 0 1 + a) + 1 ≤ cond q 0 1 + b
at_level true true a b p_is q_is h = cc
at_level true false a b p_is q_is h = step a b h
  where
    step : (a b : ℕ) → a ≤ b → (0 + a) + 1 ≤ 1 + b
    step a b h = omega (arith, h)
at_level false q a b p_is q_is h = cc

beside : (p q : Bool) (a e b : ℕ) → (q ≡ true → p ≡ true) → a + e ≤ b
    → (cond p 0 1 + a) + e ≤ cond q 0 1 + b
beside true true a e b keeps h = add_le 0 0 a e b (omega arith) h
beside true false a e b keeps h = add_le 0 1 a e b (omega arith) h
beside false true a e b keeps h = let bad : false ≡ true = keeps refl in cc
beside false false a e b keeps h = add_le 1 1 a e b (omega arith) h

more_le : (i j a b : ℕ) → i ≤ j + 1 → a ≤ b → i + a ≤ (j + b) + 1
more_le i j a b h k = omega (arith, h, k)

at_most : (p q : Bool) (a b : ℕ) → a ≤ b → cond p 0 1 + a ≤ (cond q 0 1 + b) + 1
at_most true true a b h = more_le 0 0 a b (omega arith) h
at_most true false a b h = more_le 0 1 a b (omega arith) h
at_most false true a b h = more_le 1 0 a b (omega arith) h
at_most false false a b h = more_le 1 1 a b (omega arith) h

both_le : (i a b : ℕ) → a ≤ b + 1 → i + a ≤ (i + b) + 1
both_le i a b h = omega (arith, h)

alike_le : (p q : Bool) (a b : ℕ) → p ≡ q → a ≤ b + 1 → cond p 0 1 + a ≤ (cond q 0 1 + b) + 1
alike_le true true a b is h = both_le 0 a b h
alike_le true false a b is h = cc
alike_le false true a b is h = cc
alike_le false false a b is h = both_le 1 a b h

-- ---- what is there with a mask and without it

any_congr : (x m : List ℕ) → same x m ≡ true → (bans : List (List ℕ))
    → list_any (same x) bans ≡ list_any (same m) bans
any_congr x m is [] = refl
any_congr x m is (ban ∷ bans) =
    ap (λ b. b || list_any (same x) bans) (same-equivalence.congr x m ban is)
    ∙ ap (λ b. same m ban || b) (any_congr x m is bans)

any_placed : (m mask : List ℕ) (bans : List (List ℕ))
    → list_any (same m) (placed mask bans) ≡ (same m mask || list_any (same m) bans)
any_placed m mask [] = refl
any_placed m mask (ban ∷ bans) = by (before ban mask) (any_placed m mask bans)
  where
    by : (test : Bool)
        → list_any (same m) (placed mask bans) ≡ (same m mask || list_any (same m) bans)
        → list_any (same m) (cond test (ban ∷ placed mask bans) (mask ∷ ban ∷ bans))
        ≡ (same m mask || (same m ban || list_any (same m) bans))
    by true rest =
        ap (λ b. same m ban || b) rest
        ∙ or_swapped (same m ban) (same m mask) (list_any (same m) bans)
    by false rest = refl

length_placed : (mask : List ℕ) (bans : List (List ℕ))
    → length (placed mask bans) ≡ suc (length bans)
length_placed mask [] = refl
length_placed mask (ban ∷ bans) = by (before ban mask) (length_placed mask bans)
  where
    by : (test : Bool) → length (placed mask bans) ≡ suc (length bans)
        → length (cond test (ban ∷ placed mask bans) (mask ∷ ban ∷ bans)) ≡ suc (suc (length bans))
    by true rest = ap suc rest
    by false rest = refl

any_without : (x m : List ℕ) (bans : List (List ℕ)) → same x m ≡ false
    → list_any (same m) (without_ban x bans) ≡ list_any (same m) bans
any_without x m [] other = refl
any_without x m (ban ∷ bans) other = by (same x ban) refl (any_without x m bans other)
  where
    by : (test : Bool) → same x ban ≡ test
        → list_any (same m) (without_ban x bans) ≡ list_any (same m) bans
        → list_any (same m) (cond (not test) (ban ∷ without_ban x bans) (without_ban x bans))
        ≡ (same m ban || list_any (same m) bans)
    by false is rest = ap (λ b. same m ban || b) rest
    by true is rest =
        let not_this : same m ban ≡ false =
        same-equivalence.symm m ban ∙ sym (same-equivalence.congr x ban m is) ∙ other in
        rest ∙ sym (ap (λ b. b || list_any (same m) bans) not_this)

shorter : (x : List ℕ) (bans : List (List ℕ))
    → length (without_ban x bans) + cond (list_any (same x) bans) 1 0 ≤ length bans
shorter x [] = zero_le
shorter x (ban ∷ bans) = by (same x ban) (shorter x bans)
  where
    one : (a e b : ℕ) → a + e ≤ b → a + 1 ≤ suc b
    one a e b h = omega (arith, h)

    next : (a e b : ℕ) → a + e ≤ b → suc a + e ≤ suc b
    next a e b h = omega (arith, h)

    by : (test : Bool) → length (without_ban x bans) + cond (list_any (same x) bans) 1 0
        ≤ length bans → length (cond (not test) (ban ∷ without_ban x bans) (without_ban x bans))
        + cond (test || list_any (same x) bans) 1 0 ≤ suc (length bans)
    by true rest =
        one (length (without_ban x bans)) (cond (list_any (same x) bans) 1 0) (length bans) rest
    by false rest =
        next (length (without_ban x bans)) (cond (list_any (same x) bans) 1 0) (length bans) rest

none_after : (m : List ℕ) (bans : List (List ℕ)) → list_all (before m) bans ≡ true
    → list_any (same m) bans ≡ false
none_after m [] all = refl
none_after m (ban ∷ bans) all =
    by (side m ban) (first_so (before m ban) (list_all (before m) bans) all)
    (none_after m bans (second_so (before m ban) (list_all (before m) bans) all))
  where
    by : Side m ban → before m ban ≡ true → list_any (same m) bans ≡ false
        → (same m ban || list_any (same m) bans) ≡ false
    by (low lower not_high other) first rest = cc
    by (level equal not_low not_high alike) first rest = cc
    by (high not_low higher other) first rest = ap (λ b. b || list_any (same m) bans) other ∙ rest

-- ---- how many are gone

-- where each that was there is there, no more are gone
fewer : (start bans more : List (List ℕ)) → ((m : List ℕ) → list_any (same m) bans ≡ true
    → list_any (same m) more ≡ true) → gone start more + 0 ≤ gone start bans
fewer [] bans more keeps = zero_le
fewer (m ∷ start) bans more keeps =
    beside (list_any (same m) more) (list_any (same m) bans) (gone start more) 0 (gone start bans)
    (keeps m) (fewer start bans more keeps)

-- a mask that is there now and was not: where it was there at the start, one is gone less
one_less : (x : List ℕ) (start bans more : List (List ℕ)) → list_any (same x) bans ≡ false
    → ((m : List ℕ) → list_any (same m) bans ≡ true → list_any (same m) more ≡ true) → list_any
    (same x) more ≡ true → gone start more + cond (list_any (same x) start) 1 0 ≤ gone start bans
one_less x [] bans more none keeps there = zero_le
one_less x (m ∷ start) bans more none keeps there =
    by (same x m) refl (one_less x start bans more none keeps there)
  where
    plain : (a b : ℕ) → a + 0 ≤ b → a ≤ b
    plain a b h = omega (arith, h)

    by : (test : Bool) → same x m ≡ test → gone start more + cond (list_any (same x) start) 1 0
        ≤ gone start bans → (cond (list_any (same m) more) 0 1 + gone start more) + cond
        (test || list_any (same x) start) 1 0 ≤ cond (list_any (same m) bans) 0 1 + gone start bans
    by true is rest =
        at_level (list_any (same m) more) (list_any (same m) bans) (gone start more)
        (gone start bans)
        (sym (any_congr x m is more) ∙ there) (sym (any_congr x m is bans) ∙ none)
        (plain (gone start more) (gone start bans) (fewer start bans more keeps))
    by false is rest =
        beside (list_any (same m) more) (list_any (same m) bans) (gone start more)
        (cond (list_any (same x) start) 1 0) (gone start bans) (keeps m) rest

-- where all that is not the same as a mask is there as it was, and the mask was not there at the
-- start
gone_alike : (x : List ℕ) (start bans less : List (List ℕ)) → list_any (same x) start ≡ false
    → ((m : List ℕ) → same x m ≡ false → list_any (same m) less ≡ list_any (same m) bans)
    → gone start less ≡ gone start bans
gone_alike x [] bans less none others = refl
gone_alike x (m ∷ start) bans less none others =
    by (same x m) refl none (λ later. gone_alike x start bans less later others)
  where
    by : (test : Bool) → same x m ≡ test → (test || list_any (same x) start) ≡ false
        → (list_any (same x) start ≡ false → gone start less ≡ gone start bans) → cond (list_any
        (same m) less) 0 1 + gone start less ≡ cond (list_any (same m) bans) 0 1 + gone start bans
    by true is none_2 rest = cc
    by false is none_2 rest =
        ap (λ b. cond b 0 1 + gone start less) (others m is)
        ∙ ap (λ n. cond (list_any (same m) bans) 0 1 + n) (rest none_2)

-- without a mask at most one is gone more
one_more : (x : List ℕ) (start bans less : List (List ℕ)) → rises start ≡ true
    → ((m : List ℕ) → same x m ≡ false → list_any (same m) less ≡ list_any (same m) bans)
    → gone start less ≤ gone start bans + 1
one_more x [] bans less rising others = none_more
one_more x (m ∷ start) bans less rising others =
    by (same x m) refl (one_more x start bans less
    (second_so (list_all (before m) start) (rises start) rising) others)
  where
    by : (test : Bool) → same x m ≡ test → gone start less ≤ gone start bans + 1
        → cond (list_any (same m) less) 0 1 + gone start less
        ≤ (cond (list_any (same m) bans) 0 1 + gone start bans) + 1
    by true is rest =
        let none : list_any (same x) start ≡ false =
        any_congr x m is start
        ∙ none_after m start (first_so (list_all (before m) start) (rises start) rising) in
        at_most (list_any (same m) less) (list_any (same m) bans) (gone start less)
        (gone start bans)
        (le_of_eq (gone_alike x start bans less none others))
    by false is rest = alike_le (list_any (same m) less) (list_any (same m) bans) (gone start less)
        (gone start bans) (others m is) rest

-- ---- one change

same_le : (l g ld gd e : ℕ) → ld ≡ l → gd ≡ g → ld + gd ≤ l + g + e
same_le l g ld gd e is_l is_g = omega (arith, is_l, is_g)

new_le : (t : Bool) (l g ld gd : ℕ) → ld ≡ suc l → gd + cond t 1 0 ≤ g
    → ld + gd ≤ l + g + cond (not t && true) 1 0
new_le true l g ld gd is h = step l g ld gd is h
  where
    step : (l g ld gd : ℕ) → ld ≡ suc l → gd + 1 ≤ g → ld + gd ≤ l + g + 0
    step l g ld gd is h = omega (arith, is, h)
new_le false l g ld gd is h = step l g ld gd is h
  where
    step : (l g ld gd : ℕ) → ld ≡ suc l → gd + 0 ≤ g → ld + gd ≤ l + g + 1
    step l g ld gd is h = omega (arith, is, h)

over_le : (l g lw ld gd e : ℕ) → ld ≡ suc lw → lw + 1 ≤ l → gd + 0 ≤ g → ld + gd ≤ l + g + e
over_le l g lw ld gd e is h k = omega (arith, is, h, k)

out_le : (l g ld gd e : ℕ) → ld + 1 ≤ l → gd ≤ g + 1 → ld + gd ≤ l + g + e
out_le l g ld gd e h k = omega (arith, h, k)

-- what is there with a mask
any_with : (m x : List ℕ) (bans : List (List ℕ)) → rises bans ≡ true
    → list_any (same m) (with_ban x bans) ≡ (same m x || list_any (same m) bans)
any_with m x bans rising = ap (list_any (same m)) (put_over x bans rising).is_put
    ∙ any_placed m x (without_ban x bans) ∙ by (same m x) refl
  where
    by : (test : Bool) → same m x ≡ test
        → (test || list_any (same m) (without_ban x bans)) ≡ (test || list_any (same m) bans)
    by true is = refl
    by false is = any_without x m bans (same-equivalence.symm x m ∙ is)

-- what a mask that is set takes of the room
set_takes : (start bans : List (List ℕ)) (x : List ℕ) → rises bans ≡ true
    → length (with_ban x bans) + gone start (with_ban x bans) ≤ length bans + gone start bans + cond
    (not (list_any (same x) start) && true) 1 0
set_takes start bans x rising = by (list_any (same x) bans) refl (shorter x bans)
  where
    keeps : (m : List ℕ) → list_any (same m) bans ≡ true
        → list_any (same m) (with_ban x bans) ≡ true
    keeps m there = any_with m x bans rising ∙ or_right (same m x) (list_any (same m) bans) there

    by : (test : Bool) → list_any (same x) bans ≡ test → length (without_ban x bans) + cond test 1 0
        ≤ length bans → length (with_ban x bans) + gone start (with_ban x bans)
        ≤ length bans + gone start bans + cond (not (list_any (same x) start) && true) 1 0
    by true there less =
        over_le (length bans) (gone start bans) (length (without_ban x bans))
        (length (with_ban x bans)) (gone start (with_ban x bans))
        (cond (not (list_any (same x) start) && true) 1 0)
        (ap length (put_over x bans rising).is_put ∙ length_placed x (without_ban x bans)) less
        (fewer start bans (with_ban x bans) keeps)
    by false none less =
        new_le (list_any (same x) start) (length bans) (gone start bans) (length (with_ban x bans))
        (gone start (with_ban x bans))
        (ap length (is_placed x bans rising none) ∙ length_placed x bans)
        (one_less x start bans (with_ban x bans) none keeps
        (any_with x x bans rising
        ∙ ap (λ b. b || list_any (same x) bans) (same-equivalence.refl x)))

-- what a mask that is taken out leaves
take_leaves : (start bans : List (List ℕ)) (x : List ℕ) (e : ℕ) → rises start ≡ true → length
    (without_ban x bans) + gone start (without_ban x bans) ≤ length bans + gone start bans + e
take_leaves start bans x e rising = by (list_any (same x) bans) refl (shorter x bans)
  where
    by : (test : Bool) → list_any (same x) bans ≡ test
        → length (without_ban x bans) + cond test 1 0 ≤ length bans → length (without_ban x bans)
        + gone start (without_ban x bans) ≤ length bans + gone start bans + e
    by true there less =
        out_le (length bans) (gone start bans) (length (without_ban x bans))
        (gone start (without_ban x bans)) e less
        (one_more x start bans (without_ban x bans) rising (λ m other. any_without x m bans other))
    by false none less =
        let is = unchanged x bans none in
        same_le (length bans) (gone start bans) (length (without_ban x bans))
        (gone start (without_ban x bans)) e (ap length is) (ap (gone start) is)

change_takes : (start bans : List (List ℕ)) (plus : Bool) (mask : Option (List ℕ))
    → rises start ≡ true → rises bans ≡ true
    → length (bans_by_mask plus mask bans) + gone start (bans_by_mask plus mask bans)
    ≤ length bans + gone start bans + cond (is_new start mask && plus) 1 0
change_takes start bans plus None start_rises rising =
    same_le (length bans) (gone start bans) (length bans) (gone start bans) 0 refl refl
change_takes start bans true (Some x) start_rises rising = set_takes start bans x rising
change_takes start bans false (Some x) start_rises rising =
    take_leaves start bans x (cond (not (list_any (same x) start) && false) 1 0) start_rises

length_if : (test : Bool) (change : ModeChange) (changes : List ModeChange)
    → length (cond test (change ∷ changes) changes) ≡ cond test 1 0 + length changes
length_if true change changes = one_plus (length changes)
  where
    one_plus : (n : ℕ) → suc n ≡ 1 + n
    one_plus n = omega arith
length_if false change changes = none_plus (length changes)
  where
    none_plus : (n : ℕ) → n ≡ 0 + n
    none_plus n = omega arith

still : (n m e a one room more : ℕ) → n ≤ m + e → one ≡ e + a → m + one ≤ room → room ≤ more
    → n + a ≤ more
still n m e a one room more h is k r = omega (arith, h, is, k, r)

-- after a change there is still room for the others
pub room_after : (start bans : List (List ℕ)) (change : ModeChange)
    (changes : List ModeChange) (capacity more : ℕ) → rises start ≡ true
    → rises bans ≡ true → HasRoom start (change ∷ changes) bans capacity → capacity ≤ more
    → HasRoom start changes (ban_step bans change) more
room_after start bans change changes capacity more start_rises rising room grown =
    still (length (ban_step bans change) + gone start (ban_step bans change))
    (length bans + gone start bans) (cond (adds_ban start change) 1 0)
    (length (filter (adds_ban start) changes))
    (length (filter (adds_ban start) (change ∷ changes))) capacity more
    (change_takes start bans change.plus (ban_mask change.letter change.word) start_rises rising)
    (length_if (adds_ban start change) change (filter (adds_ban start) changes)) room grown

-- before a change that adds a ban there is room for it
pub room_before : (start bans : List (List ℕ)) (change : ModeChange) (changes : List ModeChange)
    (capacity : ℕ) → rises start ≡ true → rises bans ≡ true → HasRoom start
    (change ∷ changes) bans capacity → adds_ban bans change ≡ true → length bans < capacity
room_before start bans change changes capacity start_rises rising room adds =
    by change.plus (ban_mask change.letter change.word)
    (room_after start bans change changes capacity capacity start_rises rising room
    (le_refl capacity)) adds
  where
    least : (n l g a room : ℕ) → n ≡ suc l → n + g + a ≤ room → l < room
    least n l g a room is h = omega (arith, is, h)

    absent : (test : Bool) → (not test && true) ≡ true → test ≡ false
    absent true is = cc
    absent false is = refl

    by : (plus : Bool) (mask : Option (List ℕ))
        → HasRoom start changes (bans_by_mask plus mask bans) capacity
        → (is_new bans mask && plus) ≡ true → length bans < capacity
    by plus None later new = cc
    by true (Some x) later new =
        let none = absent (list_any (same x) bans) new in
        least (length (with_ban x bans)) (length bans) (gone start (with_ban x bans))
        (length (filter (adds_ban start) changes)) capacity
        (ap length (is_placed x bans rising none) ∙ length_placed x bans) later
    by false (Some x) later new =
        let bad : false ≡ true = second_so (not (list_any (same x) bans)) false new in cc

-- once the ban that is the same is out, there is room for one that is set
pub room_once_out : (mask : List ℕ) (bans : List (List ℕ)) (capacity more : ℕ)
    → (list_any (same mask) bans ≡ false → length bans < capacity)
    → length bans ≤ capacity → capacity ≤ more → length (without_ban mask bans) < more
room_once_out mask bans capacity more room within grown =
    by (list_any (same mask) bans) refl (shorter mask bans)
  where
    less : (n l capacity more : ℕ) → n + 1 ≤ l → l ≤ capacity → capacity ≤ more → n < more
    less n l capacity more h k r = omega (arith, h, k, r)

    same_room : (n l capacity more : ℕ) → n + 0 ≤ l → l < capacity → capacity ≤ more → n < more
    same_room n l capacity more h k r = omega (arith, h, k, r)

    by : (test : Bool) → list_any (same mask) bans ≡ test
        → length (without_ban mask bans) + cond test 1 0 ≤ length bans
        → length (without_ban mask bans) < more
    by true there out = less (length (without_ban mask bans))
        (length bans) capacity more out within grown
    by false none out = same_room (length (without_ban mask bans)) (length bans) capacity more out
        (room none) grown

-- ---- at the start

sum_none : (test : Bool) (n : ℕ) → test ≡ true → n ≡ 0 → cond test 0 1 + n ≡ 0
sum_none true n there none = plain n none
  where
    plain : (n : ℕ) → n ≡ 0 → 0 + n ≡ 0
    plain n none = omega (arith, none)
sum_none false n there none = cc

none_gone : (start bans : List (List ℕ)) → ((m : List ℕ) → list_any (same m) start ≡ true
    → list_any (same m) bans ≡ true) → gone start bans ≡ 0
none_gone [] bans within = refl
none_gone (m ∷ start) bans within =
    sum_none (list_any (same m) bans) (gone start bans)
    (within m (or_left (same m m) (list_any (same m) start) (same-equivalence.refl m)))
    (none_gone start bans
    (λ n there. within n (or_right (same n m) (list_any (same n) start) there)))

pub room_at_start : (bans : List (List ℕ)) (changes : List ModeChange) (len capacity : ℕ)
    → len ≡ length bans → len + length (filter (adds_ban bans) changes) ≤ capacity
    → HasRoom bans changes bans capacity
room_at_start bans changes len capacity is room =
    begins (length bans) (gone bans bans) (length (filter (adds_ban bans) changes)) len capacity is
    (none_gone bans bans (λ m there. there)) room
  where
    begins : (l g a len room : ℕ) → len ≡ l → g ≡ 0 → len + a ≤ room → l + g + a ≤ room
    begins l g a len room is none h = omega (arith, is, none, h)

pub none_counted : {X : Type 0} (p : X → Bool) (xs : List X) → list_any p xs ≡ false
    → length (filter p xs) ≡ 0
none_counted p [] none = refl
none_counted p (x ∷ xs) none = by (p x) none (λ later. none_counted p xs later)
  where
    by : (test : Bool) → (test || list_any p xs) ≡ false → (list_any p xs ≡ false
        → length (filter p xs) ≡ 0) → length (cond test (x ∷ filter p xs) (filter p xs)) ≡ 0
    by true none_2 rest = cc
    by false none_2 rest = rest none_2

-- ---- as a loop over the changes finds it

left_over : (start bans : List (List ℕ)) (changes : List ModeChange) (i : ℕ) (change : ModeChange)
    (capacity : ℕ) → i < length changes → change ≡ get_or changes i change → HasRoom start
    (drop i changes) bans capacity → HasRoom start (change ∷ drop (i + 1) changes) bans capacity
left_over start bans changes i change capacity within is room =
    subst (λ left. HasRoom start left bans capacity) (drop_more changes i change within
    ∙ ap (λ c. c ∷ drop (i + 1) changes) (sym is)) room

pub room_before_item : (start bans : List (List ℕ)) (changes : List ModeChange) (i : ℕ)
    (change : ModeChange) (len capacity : ℕ) → rises start ≡ true → rises bans ≡ true
    → i < length changes → change ≡ get_or changes i change → len ≡ length bans
    → HasRoom start (drop i changes) bans capacity → adds_ban bans change ≡ true → len < capacity
room_before_item start bans changes i change len capacity start_rises rising within is len_is
    room adds =
    shown len (length bans) capacity len_is
    (room_before start bans change (drop (i + 1) changes) capacity start_rises rising
    (left_over start bans changes i change capacity within is room) adds)
  where
    shown : (len n room : ℕ) → len ≡ n → n < room → len < room
    shown len n room is h = omega (arith, is, h)

pub room_after_item : (start bans : List (List ℕ)) (changes : List ModeChange)
    (i : ℕ) (change : ModeChange) (capacity more : ℕ) → rises start ≡ true
    → rises bans ≡ true → i < length changes → change ≡ get_or changes i change
    → HasRoom start (drop i changes) bans capacity → capacity ≤ more
    → HasRoom start (drop (i + 1) changes) (ban_step bans change) more
room_after_item start bans changes i change capacity more start_rises rising within is room grown =
    room_after start bans change (drop (i + 1) changes) capacity more start_rises rising
    (left_over start bans changes i change capacity within is room) grown
