-- The texts of a channel.
use Rattle.std.specs.Prelude.{ℕ, ◌≤◌, List, length, take}
use Rattle.irc_names.specs.Limits.{max_words}

abbrev pub IsWords : List ℕ → Type 0
IsWords bytes = length bytes ≤ max_words

-- a topic, or the text of a quit, a part or a kick, made of any bytes: cut (our own choice)
unfoldable pub cut_words : List ℕ → List ℕ
cut_words bytes = take max_words bytes
