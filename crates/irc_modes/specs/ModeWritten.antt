-- How changes of modes are written: their letters in order, with a sign before the first and
-- wherever it differs from the one before, and then their parameters in order (RFC 2812 section
-- 3.2.3).
use Rattle.std.specs.Prelude.{ℕ, Bool, true, false, Option, Some, None, List, [], ◌∷◌, ◌++◌}
use Rattle.std.specs.Prelude.{option_to_list, if◌then◌else◌}
use Rattle.std.specs.List.{filter_map}
use Rattle.irc_line.specs.Messages.{middle_text}
use Rattle.irc_modes.specs.declared.modes.ModeChange.{ModeChange}
use Rattle.irc_modes.specs.Letters.{letter_byte, sign_byte}

-- there is a sign in front of the first letter, and wherever it differs from the one before
abbrev pub sign_between : Option Bool → Bool → List ℕ
sign_between None plus = sign_byte plus ∷ []
sign_between (Some true) true = []
sign_between (Some false) false = []
sign_between (Some before) plus = sign_byte plus ∷ []

-- the letter of one change, behind another with this sign if there is one
abbrev pub letter_text : Option Bool → ModeChange → List ℕ
letter_text before c = sign_between before c.plus ++ letter_byte c.letter ∷ []

-- the parameter of one change behind a space, if it has one
abbrev pub parameter_text : Option (List ℕ) → List ℕ
parameter_text word = middle_text (option_to_list word)

-- the letters behind a letter with this sign
abbrev pub letters_behind : Bool → List ModeChange → List ℕ
letters_behind sign [] = []
letters_behind sign (c ∷ changes) =
    (if c.plus then (if sign then [] else sign_byte true ∷ [])
    else (if sign then sign_byte false ∷ [] else []))
    ++ letter_byte c.letter ∷ letters_behind c.plus changes

-- the letters of changes, with a sign where it is another than before
abbrev pub letters_text : List ModeChange → List ℕ
letters_text [] = []
letters_text (c ∷ changes) = sign_byte c.plus ∷ letter_byte c.letter ∷ letters_behind c.plus changes

-- the words that changes are written as, each parameter as the change has it
abbrev pub changes_written : List ModeChange → List (List ℕ)
changes_written changes = letters_text changes ∷ filter_map (λ (c : ModeChange). c.word) changes
