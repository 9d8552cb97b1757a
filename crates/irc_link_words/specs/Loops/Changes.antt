-- What the code that reads the changes of a MODE gives on its way.
use Rattle.std.specs.Prelude.{◌≡◌, ℕ, ⊤, ◌&&◌, Option, Some, None, List, [], ◌∷◌, ◌++◌, drop}
use Rattle.std.specs.Prelude.{length, nat_eq, option_to_list, if◌then◌else◌}
use Rattle.std.specs.Borrow.{Bor}
use Rattle.std.specs.List.{list_all, starts_with}
use Rattle.std.specs.Cmp.Lexicographic.{pointwise}
use Rattle.std.specs.Option.{option_map}
use Rattle.std.specs.Str.{bytes_eq}
use Rattle.irc_line.specs.PartViews.{words_now}
use Rattle.irc_modes.specs.declared.modes.ModeChange.{ModeChange}
use Rattle.irc_modes.specs.ModeWords.{Asked, change}
use Rattle.irc_modes.specs.ModeWritten.{changes_written}
use Rattle.irc_modes.specs.Texts.{IsKept}
use Rattle.irc_link_words.specs.Words.{keeps_word}

-- changes, where their words keep the rules of their letters and these are the words that they are
-- written as
abbrev pub if_written : List ModeChange → List (List ℕ) → Option (List ModeChange)
if_written changes words = if list_all keeps_word changes
    && pointwise bytes_eq (changes_written changes) words then Some changes else None

-- the word of a change that is asked for is no longer than any mode takes
abbrev pub IsKeptWord : Asked → Type 0
IsKeptWord (change plus letter word) = IsKept word
IsKeptWord other = ⊤

-- a list with one thing more, if there is one
abbrev pub Grew : List ModeChange → Option ModeChange → List ModeChange → Type 0
Grew changes one more = more ≡ changes ++ option_to_list one

-- ---- the parameters

-- the words behind the first so many
abbrev pub words_left : List (Bor (List ℕ)) → Option ℕ → Option (List (List ℕ))
words_left words used = option_map (λ n. words_now (drop n words)) used

-- the words behind the parameter of a change, where it is the first one
abbrev pub behind_word : Option (List ℕ) → List (List ℕ) → Option (List (List ℕ))
behind_word None words = Some words
behind_word (Some word) [] = None
behind_word (Some word) (first ∷ words) = if bytes_eq word first then Some words else None

-- ---- the letters

-- the bytes of a word behind the first so many
abbrev pub bytes_left : List ℕ → Option ℕ → Option (List ℕ)
bytes_left word used = option_map (λ n. drop n word) used

-- what of a text is behind these bytes, where it begins with them
abbrev pub behind_bytes : List ℕ → List ℕ → Option (List ℕ)
behind_bytes bytes text = if starts_with nat_eq text bytes then Some (drop (length bytes) text)
    else None
