-- The texts that clients give.
use Rattle.std.specs.Prelude.{ℕ, Bool, List, [], ◌∷◌, get_or, nat_eq}
use Rattle.irc_line.specs.Bytes.{begins}
use Rattle.irc_channels.specs.Texts.{cut_words}
use Rattle.irc_acts.specs.Marks.{hash}

-- the parameter at a place, which is empty where a line has no more
abbrev pub word_at : List (List ℕ) → ℕ → List ℕ
word_at params place = get_or params place []

-- a word that begins with `#` stands for a channel (RFC 2812 section 1.3)
abbrev pub names_channel : List ℕ → Bool
names_channel word = begins (nat_eq hash) word

-- the first parameter, or another text where it is absent or empty; cut
abbrev pub reason_given : List (List ℕ) → List ℕ → List ℕ
reason_given [] other = cut_words other
reason_given ([] ∷ more) other = cut_words other
reason_given ((b ∷ bytes) ∷ more) other = cut_words (b ∷ bytes)
