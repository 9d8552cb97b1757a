-- What is asked of a channel behind the changes that are made so far: each of them makes of the
-- answer before it what is said here.
use Rattle.std.specs.Prelude.{◌≡◌, ℕ, ◌+◌, ◌-◌, Bool, true, Option, Some, None, List, [], Result}
use Rattle.std.specs.Prelude.{OnOk, length, find, fold, if◌then◌else◌}
use Rattle.std.specs.declared.alloc.AllocError.{AllocError}
use Rattle.std.specs.Option.{option_map}
use Rattle.irc_names.specs.Fold.{key, same}
use Rattle.irc_names.specs.Tables.{row}
use Rattle.irc_channels.specs.declared.channel.Channel.{Channel}
use Rattle.irc_channels.specs.declared.flags.Flags.{Flags}
use Rattle.irc_modes.specs.declared.modes.Modes.{Modes}
use Rattle.irc_modes.specs.declared.modes.ModeChange.{ModeChange}
use Rattle.irc_modes.specs.declared.modes.ModeLetter.{ModeLetter}
use Rattle.irc_modes.specs.declared.modes.ModeLetter.TheVariants as letter
use Rattle.irc_channels.specs.Channels.{all_changed}
use Rattle.irc_modes.specs.Loops.ManyChanges.{setting_step}
use Rattle.irc_channel_commands.specs.declared.kept_changes.KeptChanges.{KeptChanges as Code}
use Rattle.irc_modes.specs.Modes.{ban_mask}
use Rattle.irc_modes.specs.Bans.{rises}

-- the flags of a member with one of them set or cleared; whoever is no member has none
abbrev pub op_set : Bool → Flags → Flags
op_set plus flags = record flags { op = plus }

abbrev pub voice_set : Bool → Flags → Flags
voice_set plus flags = record flags { voice = plus }

abbrev pub flags_changed : List ℕ → Bool → ModeLetter → Option (List ℕ) → Option Flags
    → Option Flags
flags_changed nick plus letter.Operator (Some word) before = if same word nick
    then option_map (op_set plus) before else before
flags_changed nick plus letter.Voice (Some word) before =
    if same word nick then option_map (voice_set plus) before else before
flags_changed nick plus other word before = before

abbrev pub flags_by : List ℕ → Option Flags → ModeChange → Option Flags
flags_by nick before change = flags_changed nick change.plus change.letter change.word before

-- the flags that some changes leave to a nickname
abbrev pub flags_by_all : Channel → List ModeChange → List ℕ → Option Flags
flags_by_all start changes nick = fold (flags_by nick) (row start.members (key nick)) changes

-- the ban that is the same as a mask
abbrev pub ban_changed_to : List ℕ → Bool → Option (List ℕ) → Option (List ℕ) → Option (List ℕ)
ban_changed_to mask plus None before = before
ban_changed_to mask plus (Some word) before =
    if same word mask then (if plus then Some word else None) else before

abbrev pub ban_by : List ℕ → Option (List ℕ) → ModeChange → Option (List ℕ)
ban_by mask before change =
    ban_changed_to mask change.plus (ban_mask change.letter change.word) before

-- the ban that they leave, of those that are the same as a mask
abbrev pub ban_by_all : Channel → List ModeChange → List ℕ → Option (List ℕ)
ban_by_all start changes mask = fold (ban_by mask) (find (same mask) start.modes.bans) changes

-- how many bans there are, where each change of a ban adds one or takes one out
abbrev pub count_changed : ModeLetter → Bool → ℕ → ℕ
count_changed letter.Ban plus before = if plus then before + 1 else before - 1
count_changed other plus before = before

abbrev pub count_by : ℕ → ModeChange → ℕ
count_by before change = count_changed change.letter change.plus before

-- modes without their bans
abbrev pub without_bans : Modes → Modes
without_bans modes = record modes { bans = [] }

-- a call makes these changes of the modes that the code keeps
abbrev pub AreSetBy : List ModeChange → Code → Code → Result (Unit {0}) AllocError → Type 0
AreSetBy changes old new result =
    OnOk result (new.settings ≡ fold setting_step old.settings changes)

-- What is asked of these changes, and these modes, is so in the channel as the changes leave it.
pub record Follows (start : Channel) (changes : List ModeChange) (behind : Modes) : Type 0 where
  pub settings : behind ≡ without_bans (all_changed changes start).modes
  pub named : (all_changed changes start).name ≡ start.name
  pub members : (nick : List ℕ)
      → flags_by_all start changes nick ≡ row (all_changed changes start).members (key nick)
  pub bans : (mask : List ℕ)
      → ban_by_all start changes mask ≡ find (same mask) (all_changed changes start).modes.bans
  pub counted : fold count_by (length start.modes.bans) changes
      ≡ length (all_changed changes start).modes.bans
  pub rising : rises (all_changed changes start).modes.bans ≡ true
