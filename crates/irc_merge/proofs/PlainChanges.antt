-- Changes of a channel's own modes change nothing else of it; those that tell its modes are such.
use Rattle.std.proofs.Common.{◌≡◌, ℕ, Bool, true, false, cond, not, Option, Some, None, List, []}
use Rattle.std.proofs.Common.{◌∷◌, ◌++◌, refl, ◌∙◌, ap}
use Rattle.std.proofs.lemmas.Bool.{and_parts, and_from}
use Rattle.std.proofs.lemmas.List.Folds.{list_all-append}
use Rattle.std.specs.List.{list_all}
use Rattle.irc_modes.specs.declared.modes.Modes.{Modes}
use Rattle.irc_modes.specs.declared.modes.Privacy.{Privacy}
use Rattle.irc_modes.specs.declared.modes.Privacy.TheVariants.{Public, Private, Secret}
use Rattle.irc_modes.specs.declared.modes.ModeChange.{ModeChange}
use Rattle.irc_modes.specs.declared.modes.ModeLetter.{ModeLetter}
use Rattle.irc_modes.specs.declared.modes.ModeLetter.TheVariants as letter
use Rattle.irc_channels.specs.declared.channel.Channel.{Channel}
use Rattle.irc_modes.specs.Modes.{mode_changed, mode_step, modes_after}
use Rattle.irc_modes.specs.Raised.{raises, raising}
use Rattle.irc_channels.specs.Channels.{letter_changed, all_changed}
use Rattle.irc_room.specs.Seen.{names_member}
use Rattle.irc_modes.specs.ModesSet.{flag_set, privacy_set, key_set, limit_set, set_changes}
use Rattle.irc_modes.specs.ModesSet.{ban_changes}

-- whether a change is one of the channel's modes, and not of a member's
abbrev pub is_plain : ModeChange → Bool
is_plain change = not (names_member change.letter)

letter_plain : (plus : Bool) (which : ModeLetter) (word : Option (List ℕ)) (channel : Channel)
    → not (names_member which) ≡ true → letter_changed plus which word channel
    ≡ record channel { modes = mode_changed plus which word channel.modes }
letter_plain plus letter.InviteOnly word channel plain = refl
letter_plain plus letter.Moderated word channel plain = refl
letter_plain plus letter.NoOutside word channel plain = refl
letter_plain plus letter.TopicLocked word channel plain = refl
letter_plain plus letter.Private word channel plain = refl
letter_plain plus letter.Secret word channel plain = refl
letter_plain plus letter.Key word channel plain = refl
letter_plain plus letter.Limit word channel plain = refl
letter_plain plus letter.Ban word channel plain = refl
letter_plain plus letter.Operator word channel plain = cc
letter_plain plus letter.Voice word channel plain = cc

pub only_modes : (changes : List ModeChange) (channel : Channel) → list_all is_plain changes ≡ true
    → all_changed changes channel ≡ record channel { modes = modes_after changes channel.modes }
only_modes [] channel plain = refl
only_modes (change ∷ changes) channel plain =
    let parts = and_parts _ _ plain in
    ap (all_changed changes) (letter_plain change.plus change.letter change.word channel parts.0)
    ∙ only_modes changes (record channel
    { modes = mode_changed change.plus change.letter change.word channel.modes }) parts.1

-- what is raised of such changes
pub raising_plain : (changes : List ModeChange) (modes : Modes) → list_all is_plain changes ≡ true
    → list_all is_plain (raising changes modes) ≡ true
raising_plain [] modes plain = refl
raising_plain (change ∷ changes) modes plain =
    let parts = and_parts _ _ plain in
    by (raises change.plus change.letter change.word modes)
    (and_from _ _ parts.0 (raising_plain changes (mode_step modes change) parts.1))
    (raising_plain changes modes parts.1)
  where
    by : (b : Bool) → list_all is_plain (change ∷ raising changes (mode_step modes change)) ≡ true
        → list_all is_plain (raising changes modes) ≡ true → list_all is_plain
        (cond b (change ∷ raising changes (mode_step modes change)) (raising changes modes)) ≡ true
    by true more less = more
    by false more less = less

-- ---- the changes that tell modes

record ArePlain (changes : List ModeChange) : Type 0 where
  all : list_all is_plain changes ≡ true

both_plain : {a b : List ModeChange} → ArePlain a → ArePlain b → ArePlain (a ++ b)
both_plain {a} {b} first second =
    record { all = list_all-append is_plain a b ∙ and_from _ _ first.all second.all }

flag_plain : (on : Bool) (which : ModeLetter) → not (names_member which) ≡ true
    → ArePlain (flag_set on which)
flag_plain true which plain = record { all = and_from _ _ plain refl }
flag_plain false which plain = record { all = refl }

privacy_plain : (privacy : Privacy) → ArePlain (privacy_set privacy)
privacy_plain Public = record { all = refl }
privacy_plain Private = record { all = refl }
privacy_plain Secret = record { all = refl }

key_plain : (word : Option (List ℕ)) → ArePlain (key_set word)
key_plain None = record { all = refl }
key_plain (Some word) = record { all = refl }

limit_plain : (limit : Option ℕ) → ArePlain (limit_set limit)
limit_plain None = record { all = refl }
limit_plain (Some limit) = record { all = refl }

pub set_plain : (modes : Modes) → list_all is_plain (set_changes modes) ≡ true
set_plain modes = (
    both_plain (flag_plain modes.invite_only letter.InviteOnly refl)
    (both_plain (flag_plain modes.moderated letter.Moderated refl)
    (both_plain (flag_plain modes.no_outside letter.NoOutside refl)
    (both_plain (privacy_plain modes.privacy)
    (both_plain (flag_plain modes.topic_locked letter.TopicLocked refl)
    (both_plain (key_plain modes.key) (limit_plain modes.limit))))))
    ).all

pub bans_plain : (bans : List (List ℕ)) → list_all is_plain (ban_changes bans) ≡ true
bans_plain [] = refl
bans_plain (ban ∷ bans) = bans_plain bans
