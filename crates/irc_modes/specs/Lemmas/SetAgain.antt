-- The changes that set the modes of a channel make these modes: letter after letter, and then ban
-- after ban, each above all that are there.
use Rattle.std.proofs.Common.{◌≡◌, ℕ, Bool, true, false, cond, ◌&&◌, Option, Some, None, IfSome}
use Rattle.std.proofs.Common.{List, [], ◌∷◌, ◌++◌, filter, decimal, refl, sym, ap, ◌∙◌}
use Rattle.std.proofs.Common.{append_assoc, append-nil}
use Rattle.std.proofs.lemmas.Bool.{and_from}
use Rattle.std.proofs.lemmas.List.Folds.{list_all-append}
use Rattle.std.proofs.lemmas.List.Sums.{fold-append}
use Rattle.std.specs.List.{list_all}
use Rattle.std.specs.Cmp.{first_so, second_so}
use Rattle.irc_names.specs.Names.{is_ban_mask, IsKey}
use Rattle.irc_modes.specs.declared.modes.Modes.{Modes}
use Rattle.irc_modes.specs.declared.modes.ModeChange.{ModeChange}
use Rattle.irc_modes.specs.declared.modes.ModeLetter.TheVariants as letter
use Rattle.irc_modes.specs.declared.modes.Privacy.{Privacy}
use Rattle.irc_modes.specs.declared.modes.Privacy.TheVariants.{Public, Private, Secret}
use Rattle.irc_modes.specs.Bans.{before, rises}
use Rattle.irc_names.specs.Digits.{number_of}
use Rattle.irc_modes.specs.Modes.{no_modes, with_ban, mode_step, modes_after}
use Rattle.irc_modes.specs.ModeLaws.{SetMakesTheModes}
use Rattle.irc_modes.specs.ModesSet.{IsLimit, flag_set, privacy_set, key_set, limit_set}
use Rattle.irc_modes.specs.ModesSet.{set_changes, ban_changes}
use Rattle.irc_modes.specs.Lemmas.BanPlaces.{Side, side, low, level, high}
use Rattle.irc_modes.specs.Lemmas.LimitText.{limit_written, number_written}

abbrev at : Bool → Bool → Bool → Privacy → Bool → Option (List ℕ) → Option ℕ → List (List ℕ) → Modes
at i m n p t k l bans = record {
  invite_only = i;
  moderated = m;
  no_outside = n;
  topic_locked = t;
  privacy = p;
  key = k;
  limit = l;
  bans = bans;
}

-- ---- the letters

invite_only_set : (i : Bool) (rest : List ModeChange) → modes_after
    (flag_set i letter.InviteOnly ++ rest) (at false false false Public false None None [])
    ≡ modes_after rest (at i false false Public false None None [])
invite_only_set true rest = refl
invite_only_set false rest = refl

moderated_set : (i m : Bool) (rest : List ModeChange)
    → modes_after (flag_set m letter.Moderated ++ rest) (at i false false Public false None None [])
    ≡ modes_after rest (at i m false Public false None None [])
moderated_set i true rest = refl
moderated_set i false rest = refl

no_outside_set : (i m n : Bool) (rest : List ModeChange)
    → modes_after (flag_set n letter.NoOutside ++ rest) (at i m false Public false None None [])
    ≡ modes_after rest (at i m n Public false None None [])
no_outside_set i m true rest = refl
no_outside_set i m false rest = refl

some_privacy_set : (i m n : Bool) (p : Privacy) (rest : List ModeChange)
    → modes_after (privacy_set p ++ rest) (at i m n Public false None None [])
    ≡ modes_after rest (at i m n p false None None [])
some_privacy_set i m n Public rest = refl
some_privacy_set i m n Private rest = refl
some_privacy_set i m n Secret rest = refl

topic_locked_set : (i m n : Bool) (p : Privacy) (t : Bool) (rest : List ModeChange)
    → modes_after (flag_set t letter.TopicLocked ++ rest) (at i m n p false None None [])
    ≡ modes_after rest (at i m n p t None None [])
topic_locked_set i m n p true rest = refl
topic_locked_set i m n p false rest = refl

some_key_set : (i m n : Bool) (p : Privacy) (t : Bool) (k : Option (List ℕ))
    (rest : List ModeChange) → IfSome k IsKey → modes_after (key_set k ++ rest)
    (at i m n p t None None []) ≡ modes_after rest (at i m n p t k None [])
some_key_set i m n p t None rest is = refl
some_key_set i m n p t (Some key) rest is =
    ap (λ b. modes_after rest (at i m n p t (cond b (Some key) None) None [])) is

some_limit_set : (i m n : Bool) (p : Privacy) (t : Bool) (k : Option (List ℕ)) (l : Option ℕ)
    → IfSome l IsLimit → modes_after (limit_set l) (at i m n p t k None []) ≡ at i m n p t k l []
some_limit_set i m n p t k None is = refl
some_limit_set i m n p t k (Some limit) is =
    ap (λ b. at i m n p t k (cond b (Some (number_of (decimal limit))) None) [])
    (limit_written limit is)
    ∙ ap (λ number. at i m n p t k (Some number) []) (number_written limit is)

all_set : (i m n : Bool) (p : Privacy) (t : Bool) (k : Option (List ℕ))
    (l : Option ℕ) (bans : List (List ℕ)) → IfSome k IsKey → IfSome l IsLimit
    → modes_after (set_changes (at i m n p t k l bans)) no_modes ≡ at i m n p t k l []
all_set i m n p t k l bans key limit =
    invite_only_set i _ ∙ moderated_set i m _ ∙ no_outside_set i m n _ ∙ some_privacy_set i m n p _
    ∙ topic_locked_set i m n p t _
    ∙ some_key_set i m n p t k (limit_set l) key ∙ some_limit_set i m n p t k l limit

-- ---- the bans

-- where all bans stand before a mask, none stands after it
record Behind (mask : List ℕ) (bans : List (List ℕ)) : Type 0 where
  all_low : filter (λ ban. before ban mask) bans ≡ bans
  none_high : filter (before mask) bans ≡ []

behind : (mask : List ℕ) (bans : List (List ℕ)) → list_all (λ ban. before ban mask) bans ≡ true
    → Behind mask bans
behind mask [] all = record { all_low = refl; none_high = refl }
behind mask (ban ∷ bans) all =
    by (side mask ban) (first_so (before ban mask) (list_all (λ b. before b mask) bans) all)
    (behind mask bans (second_so (before ban mask) (list_all (λ b. before b mask) bans) all))
  where
    by : Side mask ban → before ban mask ≡ true → Behind mask bans → Behind mask (ban ∷ bans)
    by (level equal not_low not_high alike) first rest = cc
    by (high not_low higher other) first rest = cc
    by (low lower not_high other) first rest = record {
      all_low = rw (lower) (ap (λ xs. ban ∷ xs) rest.all_low);
      none_high = rw (not_high) rest.none_high;
    }

-- a mask that stands after all bans is put at their end
put_last : (mask : List ℕ) (bans : List (List ℕ)) → list_all (λ ban. before ban mask) bans ≡ true
    → with_ban mask bans ≡ bans ++ mask ∷ []
put_last mask bans all =
    let place = behind mask bans all in
    ap (λ front. front ++ mask ∷ filter (before mask) bans) place.all_low
    ∙ ap (λ back. bans ++ mask ∷ back) place.none_high

-- of bans in order those in front of one stand before it
all_before : (front : List (List ℕ)) (mask : List ℕ) (rest : List (List ℕ))
    → rises (front ++ mask ∷ rest) ≡ true → list_all (λ ban. before ban mask) front ≡ true
all_before [] mask rest rising = refl
all_before (ban ∷ front) mask rest rising =
    let first : list_all (before ban) (front ++ mask ∷ rest) ≡ true =
    first_so (list_all (before ban) (front ++ mask ∷ rest)) (rises (front ++ mask ∷ rest)) rising in
    let here : (list_all (before ban) front && list_all (before ban) (mask ∷ rest)) ≡ true =
    sym (list_all-append (before ban) front (mask ∷ rest)) ∙ first in
    and_from (before ban mask) (list_all (λ b. before b mask) front)
    (first_so (before ban mask) (list_all (before ban) rest)
    (second_so (list_all (before ban) front) (list_all (before ban) (mask ∷ rest)) here))
    (all_before front mask rest (second_so (list_all (before ban) (front ++ mask ∷ rest))
    (rises (front ++ mask ∷ rest)) rising))

bans_set : (i m n : Bool) (p : Privacy) (t : Bool) (k : Option (List ℕ)) (l : Option ℕ)
    (front rest : List (List ℕ)) → rises (front ++ rest) ≡ true → list_all is_ban_mask rest ≡ true
    → modes_after (ban_changes rest) (at i m n p t k l front) ≡ at i m n p t k l (front ++ rest)
bans_set i m n p t k l front [] rising masks = ap (at i m n p t k l) (sym (append-nil front))
bans_set i m n p t k l front (mask ∷ rest) rising masks =
    let one : front ++ mask ∷ [] ++ rest ≡ front ++ mask ∷ rest =
    append_assoc front (mask ∷ []) rest in
    ap (λ b. modes_after (ban_changes rest) (at i m n p t k l (cond b (with_ban mask front) front)))
    (first_so (is_ban_mask mask) (list_all is_ban_mask rest) masks)
    ∙ ap (λ bans. modes_after (ban_changes rest) (at i m n p t k l bans))
    (put_last mask front (all_before front mask rest rising))
    ∙ bans_set i m n p t k l (front ++ mask ∷ []) rest (ap rises one ∙ rising)
    (second_so (is_ban_mask mask) (list_all is_ban_mask rest) masks)
    ∙ ap (at i m n p t k l) one

pub set_makes_the_modes : SetMakesTheModes
set_makes_the_modes modes h =
    let m = modes in
    fold-append mode_step no_modes (set_changes m) (ban_changes m.bans)
    ∙ ap (modes_after (ban_changes m.bans)) (all_set m.invite_only m.moderated m.no_outside
    m.privacy m.topic_locked m.key m.limit m.bans h.key h.limit)
    ∙ bans_set m.invite_only m.moderated m.no_outside m.privacy m.topic_locked m.key m.limit []
    m.bans h.in_order h.masks
