-- Many changes of modes are those of the bans and those of the other modes, which do not touch each
-- other.
use Rattle.std.proofs.Common.{◌≡◌, ℕ, Bool, cond, Option, Some, None, List, [], ◌∷◌, refl, sym, ap}
use Rattle.std.proofs.Common.{◌∙◌, true, false}
use Rattle.irc_modes.specs.declared.modes.Modes.{Modes}
use Rattle.irc_modes.specs.declared.modes.ModeChange.{ModeChange}
use Rattle.irc_modes.specs.declared.modes.ModeLetter.{ModeLetter}
use Rattle.irc_modes.specs.declared.modes.ModeLetter.TheVariants as letter
use Rattle.irc_names.specs.Names.{is_ban_mask}
use Rattle.irc_modes.specs.Modes.{ban_changed, ban_mask, bans_by_word, mode_changed, mode_step}
use Rattle.irc_modes.specs.Modes.{modes_after}
use Rattle.irc_modes.specs.Loops.ManyChanges.{bans_by_mask, ban_step, bans_after, setting_changed}
use Rattle.irc_modes.specs.Loops.ManyChanges.{settings_after}

-- modes with other bans
abbrev pub with_bans : List (List ℕ) → Modes → Modes
with_bans bans modes = record modes { bans = bans }

-- the bans are not touched by what changes the other modes
beside_bans : (plus : Bool) (which : ModeLetter) (word : Option (List ℕ)) (bans : List (List ℕ))
    (modes : Modes) → setting_changed plus which word (with_bans bans modes)
    ≡ with_bans bans (mode_changed plus which word modes)
beside_bans plus letter.InviteOnly word bans modes = refl
beside_bans plus letter.Moderated word bans modes = refl
beside_bans plus letter.NoOutside word bans modes = refl
beside_bans plus letter.TopicLocked word bans modes = refl
beside_bans plus letter.Private word bans modes = refl
beside_bans plus letter.Secret word bans modes = refl
beside_bans plus letter.Key word bans modes = refl
beside_bans plus letter.Limit word bans modes = refl
beside_bans plus letter.Ban word bans modes = refl
beside_bans plus letter.Operator word bans modes = refl
beside_bans plus letter.Voice word bans modes = refl

by_word : (plus : Bool) (word : Option (List ℕ)) (bans : List (List ℕ))
    → bans_by_word plus word bans ≡ bans_by_mask plus (ban_mask letter.Ban word) bans
by_word plus None bans = refl
by_word plus (Some word) bans = by (is_ban_mask word)
  where
    by : (test : Bool) → cond test (ban_changed plus word bans) bans ≡ bans_by_mask plus
        (cond test (Some word) None) bans
    by true = refl
    by false = refl

bans_parted : (plus : Bool) (which : ModeLetter) (word : Option (List ℕ)) (modes : Modes)
    → (mode_changed plus which word modes).bans ≡ bans_by_mask plus (ban_mask which word) modes.bans
bans_parted plus letter.InviteOnly word modes = refl
bans_parted plus letter.Moderated word modes = refl
bans_parted plus letter.NoOutside word modes = refl
bans_parted plus letter.TopicLocked word modes = refl
bans_parted plus letter.Private word modes = refl
bans_parted plus letter.Secret word modes = refl
bans_parted plus letter.Key word modes = refl
bans_parted plus letter.Limit word modes = refl
bans_parted plus letter.Ban word modes = by_word plus word modes.bans
bans_parted plus letter.Operator word modes = refl
bans_parted plus letter.Voice word modes = refl

-- the bans first, and then the other modes
pub modes_parted : (changes : List ModeChange) (modes : Modes) → modes_after changes modes
    ≡ settings_after changes (with_bans (bans_after changes modes.bans) modes)
modes_parted [] modes = refl
modes_parted (change ∷ changes) modes =
    let next = mode_step modes change in
    modes_parted changes next
    ∙ ap (λ bans. settings_after changes (with_bans (bans_after changes bans) next))
    (bans_parted change.plus change.letter change.word modes)
    ∙ ap (settings_after changes) (sym (beside_bans change.plus change.letter change.word
    (bans_after changes (ban_step modes.bans change)) modes))
