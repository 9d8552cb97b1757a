-- What the code's loops over changes of modes are at: the changes of the bans and of the other
-- modes are made apart, since they do not touch each other.
use Rattle.std.specs.Prelude.{ℕ, Bool, Option, Some, None, List, fold}
use Rattle.irc_modes.specs.declared.modes.Modes.{Modes}
use Rattle.irc_modes.specs.declared.modes.ModeChange.{ModeChange}
use Rattle.irc_modes.specs.declared.modes.ModeLetter.{ModeLetter}
use Rattle.irc_modes.specs.declared.modes.ModeLetter.TheVariants as letter
use Rattle.irc_modes.specs.Modes.{ban_changed, ban_mask, mode_changed}

-- the bans after a change of the one with a mask
abbrev pub bans_by_mask : Bool → Option (List ℕ) → List (List ℕ) → List (List ℕ)
bans_by_mask plus None bans = bans
bans_by_mask plus (Some mask) bans = ban_changed plus mask bans

abbrev pub ban_step : List (List ℕ) → ModeChange → List (List ℕ)
ban_step bans change = bans_by_mask change.plus (ban_mask change.letter change.word) bans

abbrev pub bans_after : List ModeChange → List (List ℕ) → List (List ℕ)
bans_after changes bans = fold ban_step bans changes

-- what a change does to the modes of a channel but for its bans
abbrev pub setting_changed : Bool → ModeLetter → Option (List ℕ) → Modes → Modes
setting_changed plus letter.Ban word modes = modes
setting_changed plus other word modes = mode_changed plus other word modes

abbrev pub setting_step : Modes → ModeChange → Modes
setting_step modes change = setting_changed change.plus change.letter change.word modes

abbrev pub settings_after : List ModeChange → Modes → Modes
settings_after changes modes = fold setting_step modes changes
