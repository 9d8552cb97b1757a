-- Changes of modes keep a channel's modes within their limits.
use Rattle.std.proofs.Common.{◌≡◌, ℕ, ◌≤◌, Bool, true, false, ◌&&◌, if◌then◌else◌, Option, Some}
use Rattle.std.proofs.Common.{None, List, [], ◌∷◌, filter, cond, nat_le, refl, sym, ◌∙◌, ap, subst}
use Rattle.std.proofs.Common.{arith}
use Rattle.std.specs.List.{list_all, AllByRecursion}
use Rattle.std.specs.Option.{IfSome}
use Rattle.std.specs.Cmp.{first_so, second_so}
use Rattle.std.proofs.lemmas.Bool.Decides.{nat_tests}
use Rattle.std.proofs.lemmas.List.Folds.{list_all-append}
use Rattle.std.proofs.lemmas.Bool.{and_from}
use Rattle.irc_names.specs.Lemmas.PlainFacts.{list_all-filter}
use Rattle.irc_line.specs.Carried.{is_carried}
use Rattle.irc_names.specs.Names.{IsChannel, is_key, is_ban_mask, IsKey}
use Rattle.irc_modes.specs.Bans.{before, rises}
use Rattle.irc_modes.specs.Limits.{max_limit}
use Rattle.irc_modes.specs.ModesSet.{IsLimit, AreWithinLimits}
use Rattle.irc_modes.specs.declared.modes.Modes.{Modes}
use Rattle.irc_modes.specs.declared.modes.ModeChange.{ModeChange}
use Rattle.irc_modes.specs.declared.modes.ModeLetter.{ModeLetter}
use Rattle.irc_modes.specs.declared.modes.ModeLetter.TheVariants as letter
use Rattle.irc_channels.specs.declared.channel.Channel.{Channel}
use Rattle.irc_names.specs.Digits.{number_of}
use Rattle.irc_modes.specs.Modes.{is_limit, key_changed, limit_changed, with_ban, ban_changed}
use Rattle.irc_modes.specs.Modes.{bans_by_word, mode_changed}
use Rattle.irc_channels.specs.Channels.{modes_changed, letter_changed, changed, all_changed}
use Rattle.irc_modes.specs.Lemmas.BanPlaces.{with_rises, rises-filter}
use Rattle.irc_effects.specs.Limits.{IsCarriedText, IsChannelWithin, IsBanCarried}

-- ---- bans

-- masks that a line can carry, in order
record AreBans (bans : List (List ℕ)) : Type 0 where
  in_order : rises bans ≡ true
  masks : list_all is_ban_mask bans ≡ true
  carried : list_all is_carried bans ≡ true

all_with : (p : List ℕ → Bool) (mask : List ℕ) (bans : List (List ℕ)) → p mask ≡ true
    → list_all p bans ≡ true → list_all p (with_ban mask bans) ≡ true
all_with p mask bans is all =
    list_all-append p (filter (λ ban. before ban mask) bans) (mask ∷ filter (before mask) bans)
    ∙ and_from (list_all p (filter (λ ban. before ban mask) bans))
    (list_all p (mask ∷ filter (before mask) bans))
    (list_all-filter p (λ ban. before ban mask) bans all)
    (and_from (p mask) (list_all p (filter (before mask) bans)) is
    (list_all-filter p (before mask) bans all))

ban_kept : (plus : Bool) (mask : List ℕ) (bans : List (List ℕ)) → is_ban_mask mask ≡ true
    → is_carried mask ≡ true → AreBans bans → AreBans (ban_changed plus mask bans)
ban_kept true mask bans is carried all = record {
  in_order = with_rises mask bans all.in_order;
  masks = all_with is_ban_mask mask bans is all.masks;
  carried = all_with is_carried mask bans carried all.carried;
}
ban_kept false mask bans is carried all = record {
  in_order = rises-filter _ bans all.in_order;
  masks = list_all-filter is_ban_mask _ bans all.masks;
  carried = list_all-filter is_carried _ bans all.carried;
}

bans_kept : (plus : Bool) (word : Option (List ℕ)) (bans : List (List ℕ))
    → IsBanCarried letter.Ban word → AreBans bans → AreBans (bans_by_word plus word bans)
bans_kept plus None bans carried all = all
bans_kept plus (Some word) bans carried all = by (is_ban_mask word) refl
  where
    by : (test : Bool) → is_ban_mask word ≡ test
        → AreBans (if test then ban_changed plus word bans else bans)
    by true is = ban_kept plus word bans is carried all
    by false other = all

-- ---- the other modes

key_kept : (plus : Bool) (word before : Option (List ℕ)) → IfSome before IsKey
    → IfSome (key_changed plus word before) IsKey
key_kept true None before is = is
key_kept true (Some word) before is = by (is_key word) refl
  where
    by : (test : Bool) → is_key word ≡ test → IfSome (if test then Some word else before) IsKey
    by true key = key
    by false other = is
key_kept false word before is = tt

in_range : (number most : ℕ) → (nat_le 1 number && nat_le number most) ≡ true
    → (1 ≤ number) × (number ≤ most)
in_range number most is =
    let least : nat_le 1 number ≡ true = first_so (nat_le 1 number) (nat_le number most) is in
    let fits : nat_le number most ≡ true = second_so (nat_le 1 number) (nat_le number most) is in
    (grind (arith, nat_tests), grind (arith, nat_tests))

limit_number : (word : List ℕ) → is_limit word ≡ true → IsLimit (number_of word)
unfolding is_limit
limit_number word is = let range = in_range (number_of word) max_limit (second_so _ _ is) in
    record { least = range.0; most = range.1 }

limit_kept : (plus : Bool) (word : Option (List ℕ)) (before : Option ℕ) → IfSome before IsLimit
    → IfSome (limit_changed plus word before) IsLimit
limit_kept true None before is = is
limit_kept true (Some word) before is = by (is_limit word) refl
  where
    by : (test : Bool) → is_limit word ≡ test
        → IfSome (if test then Some (number_of word) else before) IsLimit
    by true limit = limit_number word limit
    by false other = is
limit_kept false word before is = tt

-- ---- all modes

-- modes within their limits, with bans that a line can carry
record AreKept (modes : Modes) : Type 0 where
  within : AreWithinLimits modes
  carried : list_all is_carried modes.bans ≡ true

-- modes with the same key, limit and bans
same_kept : (before after : Modes) → after.key ≡ before.key → after.limit ≡ before.limit
    → after.bans ≡ before.bans → AreKept before → AreKept after
same_kept before after key limit bans kept = record {
  within = record {
    key = subst (λ k. IfSome k IsKey) (sym key) kept.within.key;
    limit = subst (λ n. IfSome n IsLimit) (sym limit) kept.within.limit;
    in_order = ap rises bans ∙ kept.within.in_order;
    masks = ap (list_all is_ban_mask) bans ∙ kept.within.masks;
  };
  carried = ap (list_all is_carried) bans ∙ kept.carried;
}

mode_kept : (plus : Bool) (which : ModeLetter) (word : Option (List ℕ)) (modes : Modes)
    → IsBanCarried which word → AreKept modes → AreKept (mode_changed plus which word modes)
mode_kept plus letter.InviteOnly word modes carried kept =
    same_kept modes (mode_changed plus letter.InviteOnly word modes) refl refl refl kept
mode_kept plus letter.Moderated word modes carried kept =
    same_kept modes (mode_changed plus letter.Moderated word modes) refl refl refl kept
mode_kept plus letter.NoOutside word modes carried kept =
    same_kept modes (mode_changed plus letter.NoOutside word modes) refl refl refl kept
mode_kept plus letter.TopicLocked word modes carried kept =
    same_kept modes (mode_changed plus letter.TopicLocked word modes) refl refl refl kept
mode_kept plus letter.Private word modes carried kept =
    same_kept modes (mode_changed plus letter.Private word modes) refl refl refl kept
mode_kept plus letter.Secret word modes carried kept =
    same_kept modes (mode_changed plus letter.Secret word modes) refl refl refl kept
mode_kept plus letter.Operator word modes carried kept = kept
mode_kept plus letter.Voice word modes carried kept = kept
mode_kept plus letter.Key word modes carried kept = record {
  within = record {
    key = key_kept plus word modes.key kept.within.key;
    limit = kept.within.limit;
    in_order = kept.within.in_order;
    masks = kept.within.masks;
  };
  carried = kept.carried;
}
mode_kept plus letter.Limit word modes carried kept = record {
  within = record {
    key = kept.within.key;
    limit = limit_kept plus word modes.limit kept.within.limit;
    in_order = kept.within.in_order;
    masks = kept.within.masks;
  };
  carried = kept.carried;
}
mode_kept plus letter.Ban word modes carried kept =
    let bans = bans_kept plus word modes.bans carried (record {
      in_order = kept.within.in_order;
      masks = kept.within.masks;
      carried = kept.carried;
    }) in
    record {
      within = record {
        key = kept.within.key;
        limit = kept.within.limit;
        in_order = bans.in_order;
        masks = bans.masks;
      };
      carried = bans.carried;
    }

-- ---- a channel

-- a channel with other modes, and whatever other members and invitations
other_modes : (before after : Channel) → after.name ≡ before.name → after.topic ≡ before.topic
    → IsChannelWithin before → AreKept after.modes → IsChannelWithin after
other_modes before after name topic within kept = record {
  name = subst IsChannel (sym name) within.name;
  topic = subst IsCarriedText (sym topic) within.topic;
  modes = kept.within;
  bans_carried = kept.carried;
}

kept_modes : (channel : Channel) → IsChannelWithin channel → AreKept channel.modes
kept_modes channel within = record { within = within.modes; carried = within.bans_carried }

-- a channel with the same name, topic and modes
pub same_within : (before after : Channel) → after.name ≡ before.name → after.topic ≡ before.topic
    → after.modes ≡ before.modes → IsChannelWithin before → IsChannelWithin after
same_within before after name topic modes within =
    other_modes before after name topic within
    (subst AreKept (sym modes) (kept_modes before within))

-- a letter that is a mode of the channel
of_modes : (plus : Bool) (which : ModeLetter) (word : Option (List ℕ)) (channel : Channel)
    → IsBanCarried which word → IsChannelWithin channel
    → IsChannelWithin (modes_changed (mode_changed plus which word) channel)
of_modes plus which word channel carried within =
    other_modes channel (modes_changed (mode_changed plus which word) channel) refl refl within
    (mode_kept plus which word channel.modes carried (kept_modes channel within))

letter_within : (plus : Bool) (which : ModeLetter) (word : Option (List ℕ)) (channel : Channel)
    → IsBanCarried which word → IsChannelWithin channel
    → IsChannelWithin (letter_changed plus which word channel)
letter_within plus letter.Operator (Some word) channel carried within =
    same_within channel _ refl refl refl within
letter_within plus letter.Voice (Some word) channel carried within =
    same_within channel _ refl refl refl within
letter_within plus letter.Operator None channel carried within =
    same_within channel _ refl refl refl within
letter_within plus letter.Voice None channel carried within =
    same_within channel _ refl refl refl within
letter_within plus letter.InviteOnly word channel carried within =
    of_modes plus letter.InviteOnly word channel carried within
letter_within plus letter.Moderated word channel carried within =
    of_modes plus letter.Moderated word channel carried within
letter_within plus letter.NoOutside word channel carried within =
    of_modes plus letter.NoOutside word channel carried within
letter_within plus letter.TopicLocked word channel carried within =
    of_modes plus letter.TopicLocked word channel carried within
letter_within plus letter.Private word channel carried within =
    of_modes plus letter.Private word channel carried within
letter_within plus letter.Secret word channel carried within =
    of_modes plus letter.Secret word channel carried within
letter_within plus letter.Key word channel carried within =
    of_modes plus letter.Key word channel carried within
letter_within plus letter.Limit word channel carried within =
    of_modes plus letter.Limit word channel carried within
letter_within plus letter.Ban word channel carried within =
    of_modes plus letter.Ban word channel carried within

pub changes_within : (changes : List ModeChange) (channel : Channel)
    → AllByRecursion (λ (c : ModeChange). IsBanCarried c.letter c.word) changes
    → IsChannelWithin channel → IsChannelWithin (all_changed changes channel)
changes_within [] channel carried within = within
changes_within (c ∷ changes) channel carried within =
    changes_within changes (changed c channel) carried.1
    (letter_within c.plus c.letter c.word channel carried.0 within)
