-- What is left of the letters of a MODE of a channel, behind what this end has set there.
--   a.net has put out   :al MODE #c +k y       b.net writes   :bo MODE #c +ik x
--   a.net does          :bo MODE #c +i
--   a.net has put out   :al PART #c :bye       b.net writes   :bo MODE #c +ol al 5
--   a.net does          :bo MODE #c +l 5
use Rattle.std.specs.Prelude.{ℕ, Bool, true, false, ◌&&◌, Option, Some, None, List, [], ◌∷◌}
use Rattle.std.specs.Str.{bytes_eq}
use Rattle.irc_modes.specs.declared.modes.ModeChange.{ModeChange}
use Rattle.irc_crossing.specs.declared.change.Change.{Change}
use Rattle.irc_crossing.specs.declared.change.Change.TheVariants.{Set}
use Rattle.irc_crossing.specs.declared.log.Entry.{Entry}
use Rattle.irc_crossing.specs.declared.setting.Setting.TheVariants.{Mode}
use Rattle.irc_crossing.specs.Logs.{log_behind, through}

-- the letters that are left, each with its word; whether these are all, with the words that they
-- had; and the log behind them
pub record LettersLeft : Type 0 where
  pub changes : List ModeChange
  pub are_all : Bool
  pub log : List Entry

abbrev pub set_mode : List ℕ → ModeChange → Option Change
set_mode channel change = Some (Set (Mode channel change))

abbrev pub is_same_word : (one other : Option (List ℕ)) → Bool
is_same_word None None = true
is_same_word (Some one) (Some other) = bytes_eq one other
is_same_word one other = false

-- a letter in front of others, by what is left of it
abbrev pub with_letter : ModeChange → Option Change → LettersLeft → LettersLeft
with_letter change (Some (Set (Mode channel now))) left = record left {
  changes = now ∷ left.changes;
  are_all = is_same_word now.word change.word && left.are_all;
}
with_letter change became left = record left { are_all = false }

-- each passes the log as those before it have left it
abbrev pub letters_left : List ℕ → List ModeChange → List Entry → LettersLeft
letters_left channel [] log = record { changes = []; are_all = true; log = log }
letters_left channel (change ∷ changes) log =
    with_letter change (through (set_mode channel change) log)
    (letters_left channel changes (log_behind (set_mode channel change) log))
