-- What both ends of a link set at once. Each end does its own, and then reads the other's, which
-- gives way where it is not the greater (`Settings.antt`): the same stays at both ends.
--   a.net does   :al TOPIC #c :one      and reads   :bo TOPIC #c :two      which it does too
--   b.net does   :bo TOPIC #c :two      and reads   :al TOPIC #c :one      and leaves that out
-- What is of another thing is done at both.
use Rattle.std.specs.Prelude.{◌≡◌, ℕ, Bool, true, false, ◌&&◌, Option, Some, List}
use Rattle.std.specs.Prelude.{is_some, unwrap_or}
use Rattle.std.specs.Bool.{⊤}
use Rattle.std.specs.Option.{option_and_then}
use Rattle.irc_names.specs.Fold.{same}
use Rattle.irc_modes.specs.declared.modes.ModeChange.{ModeChange}
use Rattle.irc_modes.specs.declared.modes.ModeLetter.{ModeLetter}
use Rattle.irc_modes.specs.declared.modes.ModeLetter.TheVariants as letter
use Rattle.irc_crossing.specs.declared.change.Change.TheVariants.{Set}
use Rattle.irc_crossing.specs.declared.setting.Setting.{Setting}
use Rattle.irc_crossing.specs.declared.setting.Setting.TheVariants.{Mode, Spelling, Topic}
use Rattle.irc_crossing.specs.Changes.{setting_behind}
use Rattle.irc_crossing.specs.Settings.{is_one_place, limit_of}

-- whether two settings are of one thing of a channel
abbrev pub are_of_one_thing : (one other : Setting) → Bool
are_of_one_thing (Mode channel one) (Mode at other) = same channel at && is_one_place one other
are_of_one_thing (Topic channel one) (Topic at other) = same channel at
are_of_one_thing (Spelling one) (Spelling other) = same one other
are_of_one_thing one other = false

-- Whichever is named first.
abbrev pub OneThingIsEven : Type 0
OneThingIsEven =
    (one other : Setting) → are_of_one_thing one other ≡ are_of_one_thing other one

-- ---- what stays

-- What stays of a thing at an end that has set it, and then reads what the other end has set: what
-- is left of that, which is done last, and else its own.
abbrev pub staying : (theirs ours : Setting) → Setting
staying theirs ours = unwrap_or (setting_behind (Set ours) theirs) ours

-- that two words of a letter set the same; limits do by their numbers, however they are written
abbrev pub AreAlikeWords : ModeLetter → (one other : Option (List ℕ)) → Type 0
AreAlikeWords letter.Key one other = one ≡ other
AreAlikeWords letter.Ban one other = one ≡ other
AreAlikeWords letter.Limit one other =
    option_and_then limit_of one ≡ option_and_then limit_of other
AreAlikeWords which one other = ⊤

-- Both take away, or both set, and then one letter with words that are alike.
pub record AreAlikeModes (one other : ModeChange) : Type 0 where
  pub plus : one.plus ≡ other.plus
  pub letters : one.plus ≡ true → one.letter ≡ other.letter
  pub words : one.plus ≡ true → AreAlikeWords one.letter one.word other.word

-- that two settings of one thing leave the same there
abbrev pub AreAlike : (one other : Setting) → Type 0
AreAlike (Mode channel one) (Mode at other) = AreAlikeModes one other
AreAlike (Topic channel one) (Topic at other) = one ≡ other
AreAlike (Spelling one) (Spelling other) = one ≡ other
AreAlike one other = ⊥

-- ---- the laws

-- whether nothing is set by a letter without its word
abbrev pub needs_word : ModeLetter → Bool
needs_word letter.Key = true
needs_word letter.Limit = true
needs_word other = false

-- a key and a limit are set with a word, as they are read from a line
abbrev pub IsWritten : Setting → Type 0
IsWritten (Mode channel change) =
    change.plus ≡ true → needs_word change.letter ≡ true → is_some change.word ≡ true
IsWritten other = ⊤

-- Of two settings of one thing, the same stays at both ends.
abbrev pub SettingsAgree : Type 0
SettingsAgree =
    (theirs ours : Setting) → are_of_one_thing theirs ours ≡ true → IsWritten theirs
    → IsWritten ours → AreAlike (staying theirs ours) (staying ours theirs)

-- What is set of another thing goes as it came.
abbrev pub OthersPass : Type 0
OthersPass =
    (theirs ours : Setting) → are_of_one_thing theirs ours ≡ false
    → setting_behind (Set ours) theirs ≡ Some theirs
