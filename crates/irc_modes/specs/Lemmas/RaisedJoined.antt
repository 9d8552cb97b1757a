-- What is raised of a burst's changes, one after another, makes of modes those and the burst's,
-- joined.
use Rattle.std.proofs.Common.{◌≡◌, ℕ, Bool, true, false, cond, ◌||◌, Option, Some, None, IfSome}
use Rattle.std.proofs.Common.{List, [], ◌∷◌, ◌++◌, fold, find, decimal, refl, sym, ◌∙◌, ap}
use Rattle.std.proofs.lemmas.List.Sums.{fold-append}
use Rattle.std.specs.List.{list_all}
use Rattle.std.specs.Cmp.{first_so, second_so}
use Rattle.std.specs.Ordering.{is_lt, nat_cmp}
use Rattle.irc_names.specs.Digits.{number_of}
use Rattle.irc_names.specs.Fold.{same}
use Rattle.irc_names.specs.FoldLaws.{same-equivalence}
use Rattle.irc_names.specs.Greater.{bytes_cmp, greater_of}
use Rattle.irc_names.specs.GreaterLaws.{greater_of-none}
use Rattle.irc_names.specs.Names.{is_key, is_ban_mask, IsKey}
use Rattle.irc_modes.specs.declared.modes.Modes.{Modes}
use Rattle.irc_modes.specs.declared.modes.ModeChange.{ModeChange}
use Rattle.irc_modes.specs.declared.modes.ModeLetter.TheVariants as letter
use Rattle.irc_modes.specs.declared.modes.Privacy.{Privacy}
use Rattle.irc_modes.specs.declared.modes.Privacy.TheVariants.{Public, Private, Secret}
use Rattle.irc_modes.specs.Bans.{before, rises, IsBanList}
use Rattle.irc_modes.specs.Modes.{with_ban, mode_step, modes_after}
use Rattle.irc_modes.specs.ModesSet.{IsLimit, AreWithinLimits, flag_set, privacy_set, key_set}
use Rattle.irc_modes.specs.ModesSet.{limit_set, set_changes, ban_changes}
use Rattle.irc_modes.specs.Joined.{joined_bans, joined_modes, joined_privacy}
use Rattle.irc_modes.specs.Raised.{is_above, raises, raising, raise_step, raise_ban}
use Rattle.irc_modes.specs.Lemmas.BanPlaces.{Side, low, level, high, side, with_rises}
use Rattle.irc_modes.specs.Lemmas.BansByFold.{same_found}
use Rattle.irc_modes.specs.Lemmas.FoundBans.{find-with_ban}
use Rattle.irc_modes.specs.Lemmas.JoinedBans.{rises-joined_bans, find-joined_bans}
use Rattle.irc_modes.specs.Lemmas.LimitText.{limit_written, number_written}

-- ---- in turn

-- what is raised of some changes is each of them made where it raises something
pub raised_in_turn : (changes : List ModeChange) (modes : Modes)
    → modes_after (raising changes modes) modes ≡ fold raise_step modes changes
raised_in_turn [] modes = refl
raised_in_turn (change ∷ changes) modes =
    by (raises change.plus change.letter change.word modes) (λ now. raised_in_turn changes now)
  where
    by : (test : Bool) → ((now : Modes)
        → modes_after (raising changes now) now ≡ fold raise_step now changes)
        → modes_after (cond test (change ∷ raising changes (mode_step modes change))
        (raising changes modes)) modes
        ≡ fold raise_step (cond test (mode_step modes change) modes) changes
    by true later = later (mode_step modes change)
    by false later = later modes

-- ---- bans

-- of bans in order that begin with one that is the same as a mask, no other is
none_behind : (m : List ℕ) (bans : List (List ℕ)) → list_all (before m) bans ≡ true
    → find (same m) bans ≡ None
none_behind m [] all = refl
none_behind m (ban ∷ bans) all =
    by (side m ban) (first_so (before m ban) (list_all (before m) bans) all)
    (none_behind m bans (second_so (before m ban) (list_all (before m) bans) all))
  where
    by : Side m ban → before m ban ≡ true → find (same m) bans ≡ None
        → cond (same m ban) (Some ban) (find (same m) bans) ≡ None
    by (low lower not_high other) first rest = cc
    by (level equal not_low not_high alike) first rest = cc
    by (high not_low higher other) first rest =
        ap (λ b. cond b (Some ban) (find (same m) bans)) other ∙ rest

find_alike : (x m : List ℕ) → same x m ≡ true → (bans : List (List ℕ))
    → find (same x) bans ≡ find (same m) bans
find_alike x m is [] = refl
find_alike x m is (ban ∷ bans) =
    λ i. cond (same-equivalence.congr x m ban is i) (Some ban) (find_alike x m is bans i)

raise_rises : (bans : List (List ℕ)) (mask : List ℕ) → rises bans ≡ true
    → rises (raise_ban bans mask) ≡ true
raise_rises bans mask rising = by (is_above bytes_cmp mask (find (same mask) bans))
  where
    by : (test : Bool) → rises (cond test (with_ban mask bans) bans) ≡ true
    by true = with_rises mask bans rising
    by false = rising

-- what is found for a mask behind one ban that is raised
find-raise_ban : (m w : List ℕ) (bans : List (List ℕ)) → rises bans ≡ true
    → find (same m) (raise_ban bans w)
    ≡ cond (same m w) (greater_of bytes_cmp (find (same m) bans) (Some w)) (find (same m) bans)
find-raise_ban m w bans rising =
    put (is_above bytes_cmp w (find (same w) bans))
    ∙ ap (λ b. cond b (cond (is_above bytes_cmp w (find (same w) bans)) (Some w)
    (find (same m) bans)) (find (same m) bans)) (same-equivalence.symm w m)
    ∙ by (same m w) refl
  where
    put : (test : Bool) → find (same m) (cond test (with_ban w bans) bans)
        ≡ cond (same w m) (cond test (Some w) (find (same m) bans)) (find (same m) bans)
    put true = find-with_ban m w bans rising
    put false = over (same w m)
      where
        over : (b : Bool) → find (same m) bans ≡ cond b (find (same m) bans) (find (same m) bans)
        over true = refl
        over false = refl

    above : (found : Option (List ℕ))
        → cond (is_above bytes_cmp w found) (Some w) found ≡ greater_of bytes_cmp found (Some w)
    above None = refl
    above (Some old) = greater (is_lt (bytes_cmp old w))
      where
        greater : (b : Bool) → cond b (Some w) (Some old) ≡ Some (cond b w old)
        greater true = refl
        greater false = refl

    by : (test : Bool) → same m w ≡ test
        → cond test (cond (is_above bytes_cmp w (find (same w) bans)) (Some w)
        (find (same m) bans)) (find (same m) bans)
        ≡ cond test (greater_of bytes_cmp (find (same m) bans) (Some w)) (find (same m) bans)
    by false is = refl
    by true is =
        ap (λ found. cond (is_above bytes_cmp w found) (Some w) (find (same m) bans))
        (sym (find_alike m w is bans))
        ∙ above (find (same m) bans)

all_rise : (masks bans : List (List ℕ)) → rises bans ≡ true
    → rises (fold raise_ban bans masks) ≡ true
all_rise [] bans rising = rising
all_rise (w ∷ masks) bans rising = all_rise masks (raise_ban bans w) (raise_rises bans w rising)

-- behind all of them
find-all_raised : (m : List ℕ) (masks bans : List (List ℕ)) → rises bans ≡ true
    → rises masks ≡ true
    → find (same m) (fold raise_ban bans masks)
    ≡ greater_of bytes_cmp (find (same m) bans) (find (same m) masks)
find-all_raised m [] bans rising rising_too = sym (greater_of-none bytes_cmp (find (same m) bans))
find-all_raised m (w ∷ masks) bans rising rising_too =
    find-all_raised m masks (raise_ban bans w) (raise_rises bans w rising)
    (second_so (list_all (before w) masks) (rises masks) rising_too)
    ∙ ap (λ found. greater_of bytes_cmp found (find (same m) masks))
    (find-raise_ban m w bans rising)
    ∙ by (same m w) refl
  where
    by : (test : Bool) → same m w ≡ test
        → greater_of bytes_cmp (cond test (greater_of bytes_cmp (find (same m) bans) (Some w))
        (find (same m) bans)) (find (same m) masks)
        ≡ greater_of bytes_cmp (find (same m) bans) (cond test (Some w) (find (same m) masks))
    by false is = refl
    by true is =
        ap (greater_of bytes_cmp (greater_of bytes_cmp (find (same m) bans) (Some w)))
        (find_alike m w is masks ∙ none_behind w masks
        (first_so (list_all (before w) masks) (rises masks) rising_too))
        ∙ greater_of-none bytes_cmp (greater_of bytes_cmp (find (same m) bans) (Some w))

-- bans of two lists, joined, are those of one with each of the other raised: this computes, where
-- `joined_bans` does not
pub bans_raised : (bans masks : List (List ℕ)) → IsBanList bans → IsBanList masks
    → joined_bans bans masks ≡ fold raise_ban bans masks
bans_raised bans masks rising rising_too =
    same_found (joined_bans bans masks) (fold raise_ban bans masks) (rises-joined_bans bans masks)
    (all_rise masks bans rising) (λ m.
    find-joined_bans bans masks m ∙ sym (find-all_raised m masks bans rising rising_too))

-- ---- the letters

abbrev at : Bool → Bool → Bool → Privacy → Bool → Option (List ℕ) → Option ℕ → List (List ℕ)
    → Modes
at i m n p t k l bans = record {
  invite_only = i;
  moderated = m;
  no_outside = n;
  topic_locked = t;
  privacy = p;
  key = k;
  limit = l;
  bans = bans;
}

-- a flag that is set, or not, where it is set, or not
abbrev FlagRaised : (Bool → Modes) → List ModeChange → Bool → Bool → Type 0
FlagRaised modes changes here there = fold raise_step (modes here) changes ≡ modes (here || there)

invite_only_raised : (i j m n : Bool) (p : Privacy) (t : Bool) (k : Option (List ℕ)) (l : Option ℕ)
    (bans : List (List ℕ))
    → FlagRaised (λ b. at b m n p t k l bans) (flag_set j letter.InviteOnly) i j
invite_only_raised true true m n p t k l bans = refl
invite_only_raised true false m n p t k l bans = refl
invite_only_raised false true m n p t k l bans = refl
invite_only_raised false false m n p t k l bans = refl

moderated_raised : (i m j n : Bool) (p : Privacy) (t : Bool) (k : Option (List ℕ)) (l : Option ℕ)
    (bans : List (List ℕ))
    → FlagRaised (λ b. at i b n p t k l bans) (flag_set j letter.Moderated) m j
moderated_raised i true true n p t k l bans = refl
moderated_raised i true false n p t k l bans = refl
moderated_raised i false true n p t k l bans = refl
moderated_raised i false false n p t k l bans = refl

no_outside_raised : (i m n j : Bool) (p : Privacy) (t : Bool) (k : Option (List ℕ)) (l : Option ℕ)
    (bans : List (List ℕ))
    → FlagRaised (λ b. at i m b p t k l bans) (flag_set j letter.NoOutside) n j
no_outside_raised i m true true p t k l bans = refl
no_outside_raised i m true false p t k l bans = refl
no_outside_raised i m false true p t k l bans = refl
no_outside_raised i m false false p t k l bans = refl

topic_locked_raised : (i m n : Bool) (p : Privacy) (t j : Bool) (k : Option (List ℕ))
    (l : Option ℕ) (bans : List (List ℕ))
    → FlagRaised (λ b. at i m n p b k l bans) (flag_set j letter.TopicLocked) t j
topic_locked_raised i m n p true true k l bans = refl
topic_locked_raised i m n p true false k l bans = refl
topic_locked_raised i m n p false true k l bans = refl
topic_locked_raised i m n p false false k l bans = refl

privacy_raised : (i m n : Bool) (p q : Privacy) (t : Bool) (k : Option (List ℕ)) (l : Option ℕ)
    (bans : List (List ℕ))
    → fold raise_step (at i m n p t k l bans) (privacy_set q)
    ≡ at i m n (joined_privacy p q) t k l bans
privacy_raised i m n Public Public t k l bans = refl
privacy_raised i m n Public Private t k l bans = refl
privacy_raised i m n Public Secret t k l bans = refl
privacy_raised i m n Private Public t k l bans = refl
privacy_raised i m n Private Private t k l bans = refl
privacy_raised i m n Private Secret t k l bans = refl
privacy_raised i m n Secret Public t k l bans = refl
privacy_raised i m n Secret Private t k l bans = refl
privacy_raised i m n Secret Secret t k l bans = refl

key_raised : (i m n : Bool) (p : Privacy) (t : Bool) (k new : Option (List ℕ)) (l : Option ℕ)
    (bans : List (List ℕ)) → IfSome new IsKey
    → fold raise_step (at i m n p t k l bans) (key_set new)
    ≡ at i m n p t (greater_of bytes_cmp k new) l bans
key_raised i m n p t k None l bans is =
    ap (λ k. at i m n p t k l bans) (sym (greater_of-none bytes_cmp k))
key_raised i m n p t None (Some new) l bans is =
    ap (λ b. at i m n p t (cond b (Some new) None) l bans) is
key_raised i m n p t (Some old) (Some new) l bans is =
    ap (λ b. cond (is_lt (bytes_cmp old new)) (at i m n p t (cond b (Some new) (Some old)) l bans)
    (at i m n p t (Some old) l bans)) is
    ∙ by (is_lt (bytes_cmp old new))
  where
    by : (test : Bool) → cond test (at i m n p t (Some new) l bans)
        (at i m n p t (Some old) l bans) ≡ at i m n p t (Some (cond test new old)) l bans
    by true = refl
    by false = refl

limit_raised : (i m n : Bool) (p : Privacy) (t : Bool) (k : Option (List ℕ)) (l new : Option ℕ)
    (bans : List (List ℕ)) → IfSome new IsLimit
    → fold raise_step (at i m n p t k l bans) (limit_set new)
    ≡ at i m n p t k (greater_of nat_cmp l new) bans
limit_raised i m n p t k l None bans is =
    ap (λ l. at i m n p t k l bans) (sym (greater_of-none nat_cmp l))
limit_raised i m n p t k l (Some new) bans is =
    ap (λ b. cond (cond b (is_above nat_cmp (number_of (decimal new)) l) true)
    (at i m n p t k (cond b (Some (number_of (decimal new))) l) bans) (at i m n p t k l bans))
    (limit_written new is)
    ∙ ap (λ number. cond (is_above nat_cmp number l) (at i m n p t k (Some number) bans)
    (at i m n p t k l bans)) (number_written new is)
    ∙ by l
  where
    either : (old : ℕ) (test : Bool)
        → cond test (at i m n p t k (Some new) bans) (at i m n p t k (Some old) bans)
        ≡ at i m n p t k (Some (cond test new old)) bans
    either old true = refl
    either old false = refl

    by : (l : Option ℕ) → cond (is_above nat_cmp new l) (at i m n p t k (Some new) bans)
        (at i m n p t k l bans) ≡ at i m n p t k (greater_of nat_cmp l (Some new)) bans
    by None = refl
    by (Some old) = either old (is_lt (nat_cmp old new))

-- ban after ban
bans_in_turn : (i m n : Bool) (p : Privacy) (t : Bool) (k : Option (List ℕ)) (l : Option ℕ)
    (bans masks : List (List ℕ)) → list_all is_ban_mask masks ≡ true
    → fold raise_step (at i m n p t k l bans) (ban_changes masks)
    ≡ at i m n p t k l (fold raise_ban bans masks)
bans_in_turn i m n p t k l bans [] are = refl
bans_in_turn i m n p t k l bans (w ∷ masks) are =
    ap (λ now. fold raise_step now (ban_changes masks))
    (ap (λ b. cond (is_above bytes_cmp w (find (same w) bans))
    (at i m n p t k l (cond b (with_ban w bans) bans)) (at i m n p t k l bans))
    (first_so (is_ban_mask w) (list_all is_ban_mask masks) are)
    ∙ by (is_above bytes_cmp w (find (same w) bans)))
    ∙ bans_in_turn i m n p t k l (raise_ban bans w) masks
    (second_so (is_ban_mask w) (list_all is_ban_mask masks) are)
  where
    by : (test : Bool) → cond test (at i m n p t k l (with_ban w bans)) (at i m n p t k l bans)
        ≡ at i m n p t k l (cond test (with_ban w bans) bans)
    by true = refl
    by false = refl

-- ---- all that is set

letters_raised : (modes other : Modes) → IfSome other.key IsKey → IfSome other.limit IsLimit
    → fold raise_step modes (set_changes other)
    ≡ at (modes.invite_only || other.invite_only) (modes.moderated || other.moderated)
    (modes.no_outside || other.no_outside)
    (joined_privacy modes.privacy other.privacy) (modes.topic_locked || other.topic_locked)
    (greater_of bytes_cmp modes.key other.key)
    (greater_of nat_cmp modes.limit other.limit) modes.bans
letters_raised a b is_key is_limit =
    let i = a.invite_only || b.invite_only in
    let m = a.moderated || b.moderated in
    let n = a.no_outside || b.no_outside in
    let p = joined_privacy a.privacy b.privacy in
    let t = a.topic_locked || b.topic_locked in
    let key = greater_of bytes_cmp a.key b.key in
    let limits = limit_set b.limit in
    let keys = key_set b.key ++ limits in
    let topics = flag_set b.topic_locked letter.TopicLocked ++ keys in
    let privacies = privacy_set b.privacy ++ topics in
    let outsides = flag_set b.no_outside letter.NoOutside ++ privacies in
    let moderations = flag_set b.moderated letter.Moderated ++ outsides in
    fold-append raise_step a (flag_set b.invite_only letter.InviteOnly) moderations
    ∙ ap (λ now. fold raise_step now moderations)
    (invite_only_raised a.invite_only b.invite_only a.moderated a.no_outside a.privacy
    a.topic_locked a.key a.limit a.bans)
    ∙ fold-append raise_step (at i a.moderated a.no_outside a.privacy a.topic_locked a.key a.limit
    a.bans) (flag_set b.moderated letter.Moderated) outsides
    ∙ ap (λ now. fold raise_step now outsides)
    (moderated_raised i a.moderated b.moderated a.no_outside a.privacy a.topic_locked a.key a.limit
    a.bans)
    ∙ fold-append raise_step (at i m a.no_outside a.privacy a.topic_locked a.key a.limit a.bans)
    (flag_set b.no_outside letter.NoOutside) privacies
    ∙ ap (λ now. fold raise_step now privacies)
    (no_outside_raised i m a.no_outside b.no_outside a.privacy a.topic_locked a.key a.limit a.bans)
    ∙ fold-append raise_step (at i m n a.privacy a.topic_locked a.key a.limit a.bans)
    (privacy_set b.privacy) topics
    ∙ ap (λ now. fold raise_step now topics)
    (privacy_raised i m n a.privacy b.privacy a.topic_locked a.key a.limit a.bans)
    ∙ fold-append raise_step (at i m n p a.topic_locked a.key a.limit a.bans)
    (flag_set b.topic_locked letter.TopicLocked) keys
    ∙ ap (λ now. fold raise_step now keys)
    (topic_locked_raised i m n p a.topic_locked b.topic_locked a.key a.limit a.bans)
    ∙ fold-append raise_step (at i m n p t a.key a.limit a.bans) (key_set b.key) limits
    ∙ ap (λ now. fold raise_step now limits)
    (key_raised i m n p t a.key b.key a.limit a.bans is_key)
    ∙ limit_raised i m n p t key a.limit b.limit a.bans is_limit

-- each change that sets what is set in other modes, made where it raises something
pub all_raised : (modes other : Modes) → IsBanList modes.bans → AreWithinLimits other
    → fold raise_step modes (set_changes other ++ ban_changes other.bans)
    ≡ joined_modes modes other
all_raised a b rising within =
    let now = λ (bans : List (List ℕ)). at (a.invite_only || b.invite_only)
    (a.moderated || b.moderated) (a.no_outside || b.no_outside)
    (joined_privacy a.privacy b.privacy) (a.topic_locked || b.topic_locked)
    (greater_of bytes_cmp a.key b.key)
    (greater_of nat_cmp a.limit b.limit) bans in
    fold-append raise_step a (set_changes b) (ban_changes b.bans)
    ∙ ap (λ modes. fold raise_step modes (ban_changes b.bans))
    (letters_raised a b within.key within.limit)
    ∙ bans_in_turn (a.invite_only || b.invite_only) (a.moderated || b.moderated)
    (a.no_outside || b.no_outside)
    (joined_privacy a.privacy b.privacy) (a.topic_locked || b.topic_locked)
    (greater_of bytes_cmp a.key b.key)
    (greater_of nat_cmp a.limit b.limit) a.bans b.bans within.masks
    ∙ ap now (sym (bans_raised a.bans b.bans rising within.in_order))
