-- Changes leave modes within limits.
use Rattle.std.proofs.Common.{◌≡◌, ℕ, Bool, true, false, cond, not, Option, Some, None, IfSome}
use Rattle.std.proofs.Common.{List, [], ◌∷◌, filter, refl, sym, ap, subst, ◌∙◌}
use Rattle.std.proofs.lemmas.Bool.{and_from}
use Rattle.std.proofs.lemmas.List.Folds.{list_all-append}
use Rattle.std.specs.List.{list_all}
use Rattle.irc_names.specs.Lemmas.PlainFacts.{list_all-filter}
use Rattle.irc_names.specs.Fold.{same}
use Rattle.irc_names.specs.Names.{is_key, is_ban_mask, IsKey}
use Rattle.irc_modes.specs.declared.modes.Modes.{Modes}
use Rattle.irc_modes.specs.declared.modes.ModeChange.{ModeChange}
use Rattle.irc_modes.specs.declared.modes.ModeLetter.{ModeLetter}
use Rattle.irc_modes.specs.declared.modes.ModeLetter.TheVariants as letter
use Rattle.irc_modes.specs.Bans.{IsBanList, rises, before}
use Rattle.irc_names.specs.Digits.{number_of}
use Rattle.irc_modes.specs.Modes.{is_limit, key_changed, limit_changed, with_ban, without_ban}
use Rattle.irc_modes.specs.Modes.{ban_changed, bans_by_word, mode_changed, mode_step, modes_after}
use Rattle.irc_modes.specs.ModesSet.{AreWithinLimits, IsLimit}
use Rattle.irc_modes.specs.Lemmas.BanPlaces.{with_rises, rises-filter}
use Rattle.irc_modes.specs.Lemmas.LimitText.{limit_number}

key_kept : (plus : Bool) (word before : Option (List ℕ)) → IfSome before IsKey
    → IfSome (key_changed plus word before) IsKey
key_kept true None before h = h
key_kept true (Some word) before h = by (is_key word) refl
  where
    by : (test : Bool) → is_key word ≡ test → IfSome (cond test (Some word) before) IsKey
    by true is = is
    by false is = h
key_kept false word before h = tt

limit_kept : (plus : Bool) (word : Option (List ℕ)) (before : Option ℕ) → IfSome before IsLimit
    → IfSome (limit_changed plus word before) IsLimit
limit_kept true None before h = h
limit_kept true (Some word) before h = by (is_limit word) refl
  where
    by : (test : Bool) → is_limit word ≡ test
        → IfSome (cond test (Some (number_of word)) before) IsLimit
    by true is = limit_number word is
    by false is = h
limit_kept false word before h = tt

-- what bans are held to
record AreBans (bans : List (List ℕ)) : Type 0 where
  in_order : IsBanList bans
  masks : list_all is_ban_mask bans ≡ true

masks_with : (mask : List ℕ) (bans : List (List ℕ)) → is_ban_mask mask ≡ true
    → list_all is_ban_mask bans ≡ true → list_all is_ban_mask (with_ban mask bans) ≡ true
masks_with mask bans is_mask masks =
    let low = filter (λ ban. before ban mask) bans in
    let high = filter (before mask) bans in
    list_all-append is_ban_mask low (mask ∷ high)
    ∙ and_from (list_all is_ban_mask low) (list_all is_ban_mask (mask ∷ high))
    (list_all-filter is_ban_mask (λ ban. before ban mask) bans masks)
    (and_from (is_ban_mask mask) (list_all is_ban_mask high) is_mask
    (list_all-filter is_ban_mask (before mask) bans masks))

with_kept : (mask : List ℕ) (bans : List (List ℕ)) → is_ban_mask mask ≡ true → AreBans bans
    → AreBans (with_ban mask bans)
with_kept mask bans is_mask h = record {
  in_order = with_rises mask bans h.in_order;
  masks = masks_with mask bans is_mask h.masks;
}

without_kept : (mask : List ℕ) (bans : List (List ℕ)) → AreBans bans
    → AreBans (without_ban mask bans)
without_kept mask bans h = record {
  in_order = rises-filter (λ ban. not (same mask ban)) bans h.in_order;
  masks = list_all-filter is_ban_mask (λ ban. not (same mask ban)) bans h.masks;
}

bans_kept : (plus : Bool) (word : Option (List ℕ)) (bans : List (List ℕ)) → AreBans bans
    → AreBans (bans_by_word plus word bans)
bans_kept plus None bans h = h
bans_kept plus (Some word) bans h = by plus (is_ban_mask word) refl
  where
    by : (sign test : Bool) → is_ban_mask word ≡ test
        → AreBans (cond test (ban_changed sign word bans) bans)
    by sign false is = h
    by true true is = with_kept word bans is h
    by false true is = without_kept word bans h

-- a mode that is neither key nor limit nor ban
beside : (m n : Modes) → n.key ≡ m.key → n.limit ≡ m.limit → n.bans ≡ m.bans → AreWithinLimits m
    → AreWithinLimits n
beside m n key limit bans h = record {
  key = subst (λ k. IfSome k IsKey) (sym key) h.key;
  limit = subst (λ l. IfSome l IsLimit) (sym limit) h.limit;
  in_order = ap rises bans ∙ h.in_order;
  masks = ap (list_all is_ban_mask) bans ∙ h.masks;
}

letter_kept : (plus : Bool) (which : ModeLetter) (word : Option (List ℕ)) (m : Modes)
    → AreWithinLimits m → AreWithinLimits (mode_changed plus which word m)
letter_kept plus letter.InviteOnly word m h = beside m _ refl refl refl h
letter_kept plus letter.Moderated word m h = beside m _ refl refl refl h
letter_kept plus letter.NoOutside word m h = beside m _ refl refl refl h
letter_kept plus letter.TopicLocked word m h = beside m _ refl refl refl h
letter_kept plus letter.Private word m h = beside m _ refl refl refl h
letter_kept plus letter.Secret word m h = beside m _ refl refl refl h
letter_kept plus letter.Key word m h =
    record {
      key = key_kept plus word m.key h.key;
      limit = h.limit;
      in_order = h.in_order;
      masks = h.masks;
    }
letter_kept plus letter.Limit word m h =
    record {
      key = h.key;
      limit = limit_kept plus word m.limit h.limit;
      in_order = h.in_order;
      masks = h.masks;
    }
letter_kept plus letter.Ban word m h =
    let after = bans_kept plus word m.bans (record { in_order = h.in_order; masks = h.masks }) in
    record { key = h.key; limit = h.limit; in_order = after.in_order; masks = after.masks }
letter_kept plus letter.Operator word m h = h
letter_kept plus letter.Voice word m h = h

pub step_is_within_limits : (m : Modes) (c : ModeChange) → AreWithinLimits m
    → AreWithinLimits (mode_step m c)
step_is_within_limits m c h = letter_kept c.plus c.letter c.word m h

pub modes_are_within_limits : (changes : List ModeChange) (m : Modes) → AreWithinLimits m
    → AreWithinLimits (modes_after changes m)
modes_are_within_limits [] m h = h
modes_are_within_limits (c ∷ changes) m h =
    modes_are_within_limits changes (mode_step m c) (step_is_within_limits m c h)
