-- Letters of a MODE that are left, as they are put together.
use Rattle.std.specs.Prelude.{Bool, false, ◌&&◌, Option, Some, List, [], ◌∷◌, ◌++◌}
use Rattle.irc_modes.specs.declared.modes.ModeChange.{ModeChange}
use Rattle.irc_crossing.specs.declared.change.Change.{Change}
use Rattle.irc_crossing.specs.declared.change.Change.TheVariants.{Set}
use Rattle.irc_crossing.specs.declared.log.Entry.{Entry}
use Rattle.irc_crossing.specs.declared.modes.LettersLeft.{LettersLeft as Code}
use Rattle.irc_crossing.specs.declared.setting.Setting.TheVariants.{Mode}
use Rattle.irc_crossing.specs.Letters.{is_same_word, LettersLeft}

-- those so far
pub record LettersBegun : Type 0 where
  pub changes : List ModeChange
  pub are_all : Bool

abbrev pub left_of : Code → LettersBegun
left_of left = record { changes = left.changes.items; are_all = left.are_all }

abbrev pub with_log : List Entry → LettersBegun → LettersLeft
with_log log so = record { changes = so.changes; are_all = so.are_all; log = log }

-- a letter behind them, by what is left of it
abbrev pub added : ModeChange → Option Change → LettersBegun → LettersBegun
added change (Some (Set (Mode channel now))) so = record {
  changes = so.changes ++ now ∷ [];
  are_all = so.are_all && is_same_word now.word change.word;
}
added change became so = record so { are_all = false }

-- and others behind all of them
abbrev pub behind_begun : LettersBegun → LettersLeft → LettersLeft
behind_begun so left = record {
  changes = so.changes ++ left.changes;
  are_all = so.are_all && left.are_all;
  log = left.log;
}
