-- What is on its way, as the code has it: texts, of the oldest of which a part has come.
use Rattle.std.specs.Prelude.{◌≡◌, ℕ, ◌<◌, ◌≤◌, Bool, true, false, ◌==◌, List, [], ◌∷◌, ◌++◌, drop}
use Rattle.std.specs.Prelude.{length}
use Rattle.std.specs.List.{flat_map, list_all}
use Rattle.arrayvec.specs.ArrayVec.{ArrayVec}
use Rattle.irc_line.specs.Bytes.{line_feed}
use Rattle.irc_line.specs.Lines.{Begun, HasTaken, stream_for}
use Rattle.irc_pipes.specs.Pipes.{LinkPipe, advanced, lines_by}

-- all bytes of some texts, in order
abbrev pub joined : List (ArrayVec ℕ) → List ℕ
joined texts = flat_map (λ text. text.items) texts

-- whether the last byte is an LF
abbrev pub ends_in_feed : List ℕ → Bool
ends_in_feed [] = false
ends_in_feed (byte ∷ []) = byte == line_feed
ends_in_feed (byte ∷ next ∷ bytes) = ends_in_feed (next ∷ bytes)

abbrev pub all_end_in_feed : List (ArrayVec ℕ) → Bool
all_end_in_feed texts = list_all (λ (text : ArrayVec ℕ). ends_in_feed text.items) texts

-- what has not come of the oldest text, where so many of its bytes have
abbrev pub rest_of_oldest : ℕ → List (ArrayVec ℕ) → List ℕ
rest_of_oldest come [] = []
rest_of_oldest come (text ∷ texts) = drop come text.items

-- some bytes of the oldest text are still on their way, where there is a text
abbrev pub IsPartOfOldest : ℕ → List (ArrayVec ℕ) → Type 0
IsPartOfOldest come [] = come ≡ 0
IsPartOfOldest come (text ∷ texts) = come < length text.items

-- the same, or all of it has come
abbrev pub IsWithinOldest : ℕ → List (ArrayVec ℕ) → Type 0
IsWithinOldest come [] = come ≡ 0
IsWithinOldest come (text ∷ texts) = come ≤ length text.items

-- what a pipe keeps
pub record IsOnItsWay (come : ℕ) (texts : List (ArrayVec ℕ)) (begun : Begun) : Type 0 where
  pub part : IsPartOfOldest come texts
  pub feeds : all_end_in_feed texts ≡ true
  pub of_some_stream : HasTaken begun (stream_for begun)

-- So much has come of what was on its way, and it completed these lines.
pub record HasCome (count taken : ℕ) (old new : LinkPipe)
    (before after : List (List ℕ)) : Type 0 where
  pub within : taken ≤ count
  pub at_most : taken ≤ length old.bytes
  pub new_is : new ≡ advanced taken old
  pub after_is : after ≡ before ++ lines_by taken old
