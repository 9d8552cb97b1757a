-- The changes that set the modes of a channel are readable: all but the bans at once, and the bans
-- three at a time.
use Rattle.std.proofs.Common.{◌≡◌, ℕ, ◌+◌, ◌≤◌, Bool, true, false, cond, not, ◌&&◌, Option, Some}
use Rattle.std.proofs.Common.{None, IfSome, List, [], ◌∷◌, ◌++◌, length, nat_eq, count_by, refl, ap}
use Rattle.std.proofs.Common.{◌∙◌, arith}
use Rattle.std.proofs.lemmas.Bool.{and_from}
use Rattle.std.proofs.lemmas.List.Folds.{list_all-append}
use Rattle.std.proofs.lemmas.List.Sums.{sum_by-cons, sum_by-append}
use Rattle.std.specs.List.{list_all}
use Rattle.std.specs.Cmp.{first_so, second_so}
use Rattle.irc_names.specs.Names.{is_key, is_ban_mask, IsKey}
use Rattle.irc_modes.specs.declared.modes.Modes.{Modes}
use Rattle.irc_modes.specs.declared.modes.ModeChange.{ModeChange}
use Rattle.irc_modes.specs.declared.modes.ModeLetter.{ModeLetter}
use Rattle.irc_modes.specs.declared.modes.ModeLetter.TheVariants as letter
use Rattle.irc_modes.specs.declared.modes.Privacy.{Privacy}
use Rattle.irc_modes.specs.declared.modes.Privacy.TheVariants.{Public, Private, Secret}
use Rattle.irc_modes.specs.Modes.{is_nil}
use Rattle.irc_modes.specs.Letters.{letter_byte}
use Rattle.irc_modes.specs.ModeLaws.{SetIsReadable, BansAreReadable}
use Rattle.irc_modes.specs.ModesSet.{AreWithinLimits, IsLimit, set, flag_set, privacy_set, key_set}
use Rattle.irc_modes.specs.ModesSet.{limit_set, set_changes, ban_changes}
use Rattle.irc_modes.specs.Readable.{IsOnce, has_its_word, has_parameter, is_of, is_worded}
use Rattle.irc_modes.specs.Lemmas.WrittenLimit.{written_limit}

-- how many changes are of one letter, at most, if they are all of another
abbrev one_if : ModeLetter → ModeLetter → ℕ
one_if which other = cond (nat_eq (letter_byte which) (letter_byte other)) 1 0

-- changes among which there is a number with words at most, and of each letter a number at most
record AreAtMost (words : ℕ) (of : ModeLetter → ℕ) (changes : List ModeChange) : Type 0 where
  worded : list_all has_its_word changes ≡ true
  few : count_by is_worded changes ≤ words
  once : (which : ModeLetter) → count_by (is_of which) changes ≤ of which

joined : (words more : ℕ) (of others : ModeLetter → ℕ) (changes later : List ModeChange)
    → AreAtMost words of changes → AreAtMost more others later
    → AreAtMost (words + more) (λ which. of which + others which) (changes ++ later)
joined words more of others changes later front back = record {
  worded = list_all-append has_its_word changes later ∙ and_from (list_all has_its_word changes)
      (list_all has_its_word later) front.worded back.worded;
  few =
      omega (arith, sum_by-append (λ c. cond (is_worded c) 1 0) changes later, front.few, back.few);
  once = λ which. omega (
    arith,
    sum_by-append (λ c. cond (is_of which c) 1 0) changes later,
    front.once which,
    back.once which,
  );
}

flag : (on : Bool) (which : ModeLetter) → has_parameter true which ≡ false
    → AreAtMost 0 (λ w. one_if w which) (flag_set on which)
flag true which bare =
    record { worded = ap (λ b. not b && true) bare; few = omega arith; once = λ w. omega arith }
flag false which bare = record { worded = refl; few = omega arith; once = λ w. omega arith }

privacy : (p : Privacy) → AreAtMost 0 (λ w. one_if w letter.Private + one_if w letter.Secret)
    (privacy_set p)
privacy Public = record { worded = refl; few = omega arith; once = λ w. omega arith }
privacy Private = record { worded = refl; few = omega arith; once = λ w. omega arith }
privacy Secret = record { worded = refl; few = omega arith; once = λ w. omega arith }

some_key : (k : Option (List ℕ)) → IfSome k IsKey
    → AreAtMost 1 (λ w. one_if w letter.Key) (key_set k)
some_key None is = record { worded = refl; few = omega arith; once = λ w. omega arith }
some_key (Some key) is = record {
  worded = and_from (is_key key) true is refl;
  few = omega arith;
  once = λ w. omega arith;
}

some_limit : (l : Option ℕ) → IfSome l IsLimit
    → AreAtMost 1 (λ w. one_if w letter.Limit) (limit_set l)
some_limit None is = record { worded = refl; few = omega arith; once = λ w. omega arith }
some_limit (Some limit) is = record {
  worded = and_from _ true (written_limit limit is) refl;
  few = omega arith;
  once = λ w. omega arith;
}

-- each letter is one of them
abbrev of_each : ModeLetter → ℕ
of_each w =
    one_if w letter.InviteOnly + (one_if w letter.Moderated
    + (one_if w letter.NoOutside + ((one_if w letter.Private + one_if w letter.Secret)
    + (one_if w letter.TopicLocked + (one_if w letter.Key + one_if w letter.Limit)))))

one_of_each : (which : ModeLetter) → of_each which ≤ 1
one_of_each letter.InviteOnly = omega arith
one_of_each letter.Moderated = omega arith
one_of_each letter.NoOutside = omega arith
one_of_each letter.TopicLocked = omega arith
one_of_each letter.Private = omega arith
one_of_each letter.Secret = omega arith
one_of_each letter.Key = omega arith
one_of_each letter.Limit = omega arith
one_of_each letter.Ban = omega arith
one_of_each letter.Operator = omega arith
one_of_each letter.Voice = omega arith

all_letters : (m : Modes) → AreWithinLimits m
    → AreAtMost (0 + (0 + (0 + (0 + (0 + (1 + 1)))))) of_each (set_changes m)
all_letters m h =
    joined _ _ _ _ _ _ (flag m.invite_only letter.InviteOnly refl)
    (joined _ _ _ _ _ _ (flag m.moderated letter.Moderated refl)
    (joined _ _ _ _ _ _ (flag m.no_outside letter.NoOutside refl)
    (joined _ _ _ _ _ _ (privacy m.privacy)
    (joined _ _ _ _ _ _ (flag m.topic_locked letter.TopicLocked refl)
    (joined _ _ _ _ _ _ (some_key m.key h.key) (some_limit m.limit h.limit))))))

pub set_is_readable : SetIsReadable
set_is_readable modes h filled =
    let all = all_letters modes h in
    record {
      filled = filled;
      worded = all.worded;
      few = omega (arith, all.few);
      once = λ which single. omega (arith, all.once which, one_of_each which);
    }

-- ---- the bans

-- no letter of which there is one at most is a ban's
no_ban : (which : ModeLetter) → IsOnce which → one_if which letter.Ban ≤ 0
no_ban letter.InviteOnly single = omega arith
no_ban letter.Moderated single = omega arith
no_ban letter.NoOutside single = omega arith
no_ban letter.TopicLocked single = omega arith
no_ban letter.Private single = omega arith
no_ban letter.Secret single = omega arith
no_ban letter.Key single = omega arith
no_ban letter.Limit single = omega arith
no_ban letter.Ban single = cc
no_ban letter.Operator single = cc
no_ban letter.Voice single = cc

record AreBanChanges (bans : List (List ℕ)) : Type 0 where
  worded : list_all has_its_word (ban_changes bans) ≡ true
  few : count_by is_worded (ban_changes bans) ≤ length bans
  once : (which : ModeLetter) → IsOnce which → count_by (is_of which) (ban_changes bans) ≤ 0

all_bans : (bans : List (List ℕ)) → list_all is_ban_mask bans ≡ true → AreBanChanges bans
all_bans [] masks = record { worded = refl; few = omega arith; once = λ which single. omega arith }
all_bans (mask ∷ bans) masks =
    let rest = all_bans bans (second_so (is_ban_mask mask) (list_all is_ban_mask bans) masks) in
    record {
      worded =
          and_from (is_ban_mask mask) (list_all has_its_word (ban_changes bans))
          (first_so (is_ban_mask mask) (list_all is_ban_mask bans) masks)
          rest.worded;
      few = omega (
        arith,
        sum_by-cons (λ c. cond (is_worded c) 1 0) (set letter.Ban (Some mask))
            (ban_changes bans),
        rest.few,
      );
      once = λ which single.
          omega (
            arith,
            sum_by-cons (λ c. cond (is_of which c) 1 0) (set letter.Ban (Some mask))
                (ban_changes bans),
            rest.once which single,
            no_ban which single,
          );
    }

filled_too : (bans : List (List ℕ)) → is_nil bans ≡ false → is_nil (ban_changes bans) ≡ false
filled_too [] filled = cc
filled_too (mask ∷ bans) filled = refl

pub bans_are_readable : BansAreReadable
bans_are_readable bans masks filled short =
    let all = all_bans bans masks in
    record {
      filled = filled_too bans filled;
      worded = all.worded;
      few = omega (arith, all.few, short);
      once = λ which single. omega (arith, all.once which single);
    }
