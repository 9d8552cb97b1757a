-- What holds of changes of modes, and of the modes that they leave.
use Rattle.std.specs.Prelude.{◌≡◌, ◌≤◌, ℕ, Bool, true, false, Option, List, ◌∷◌, ◌++◌, length, map}
use Rattle.std.specs.Prelude.{filter}
use Rattle.std.specs.List.{list_all, filter_map}
use Rattle.irc_names.specs.Names.{is_ban_mask}
use Rattle.irc_modes.specs.declared.modes.Modes.{Modes}
use Rattle.irc_modes.specs.declared.modes.ModeChange.{ModeChange}
use Rattle.irc_modes.specs.Modes.{is_nil, no_modes, modes_after}
use Rattle.irc_modes.specs.Limits.{max_mode_parameters}
use Rattle.irc_modes.specs.ModeWords.{Asked, change, modes_read}
use Rattle.irc_modes.specs.ModeWritten.{letters_text, changes_written}
use Rattle.irc_modes.specs.ModesSet.{set_changes, ban_changes, AreWithinLimits}
use Rattle.irc_modes.specs.Readable.{AreReadable, AreFew, AreSomeAsked, has_its_word}

-- what a change is asked for as
abbrev pub asked_for : ModeChange → Asked
asked_for c = change c.plus c.letter c.word

-- changes that are written and read again are the same
abbrev pub WrittenIsRead : Type 0
WrittenIsRead = (changes : List ModeChange) → AreReadable changes
    → modes_read (changes_written changes) ≡ map asked_for changes

-- what is left when some are left out is readable too, if anything is left
abbrev pub LeftIsReadable : Type 0
LeftIsReadable = (keeps : ModeChange → Bool) (changes : List ModeChange) → AreReadable changes
    → is_nil (filter keeps changes) ≡ false
    → AreReadable (filter keeps changes)

-- whatever the words of a MODE, what is read of them keeps the limits of one command
abbrev pub ReadChangesAreFew : Type 0
ReadChangesAreFew = (words : List (List ℕ)) → AreFew (modes_read words)

-- some of what a MODE asks for, in order, is readable where each change has a word of its letter
abbrev pub SomeAskedAreReadable : Type 0
SomeAskedAreReadable = (words : List (List ℕ)) (changes : List ModeChange)
    → AreSomeAsked (modes_read words) changes → is_nil changes ≡ false
    → AreReadable changes

-- ---- changes with other words

-- a change with another word
abbrev pub reworded : (ModeChange → Option (List ℕ)) → ModeChange → ModeChange
reworded words c = record c { word = words c }

-- the letters of changes behind which other words stand are what the changes with these words are
-- written as
abbrev pub RewordedIsWritten : Type 0
RewordedIsWritten = (words : ModeChange → Option (List ℕ)) (changes : List ModeChange)
    → letters_text changes ∷ filter_map words changes ≡ changes_written
    (map (reworded words) changes)

-- changes stay readable with other words, where each of them too is one of its letter
abbrev pub RewordedIsReadable : Type 0
RewordedIsReadable = (words : ModeChange → Option (List ℕ)) (changes : List ModeChange)
    → ((c : ModeChange) → has_its_word c ≡ true → has_its_word (reworded words c) ≡ true)
    → AreReadable changes → AreReadable (map (reworded words) changes)

-- ---- all that is set, told again

-- the changes that set the modes of a channel make these modes where no mode is set
abbrev pub SetMakesTheModes : Type 0
SetMakesTheModes = (modes : Modes) → AreWithinLimits modes
    → modes_after (set_changes modes ++ ban_changes modes.bans) no_modes ≡ modes

-- those of its modes but for the bans are readable all at once, if any is set
abbrev pub SetIsReadable : Type 0
SetIsReadable = (modes : Modes) → AreWithinLimits modes → is_nil (set_changes modes) ≡ false
    → AreReadable (set_changes modes)

-- and of its bans as many as a command may have parameters
abbrev pub BansAreReadable : Type 0
BansAreReadable = (bans : List (List ℕ)) → list_all is_ban_mask bans ≡ true → is_nil bans ≡ false
    → length bans ≤ max_mode_parameters
    → AreReadable (ban_changes bans)
