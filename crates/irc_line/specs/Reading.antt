-- How a line is read, as a function (RFC 2812 section 2.3.1): from left to right, as lenient as the
-- grammar of Grammar.antt, whose rules it does not look at.
use Rattle.std.specs.Prelude.{ℕ, zero, suc, Option, Some, None, Result, Ok, Err, List, [], ◌∷◌}
use Rattle.std.specs.Prelude.{if◌then◌else◌}
use Rattle.irc_line.specs.Limits.{max_parameters}
use Rattle.irc_line.specs.declared.reading.LineFault.{LineFault}
use Rattle.irc_line.specs.declared.reading.LineFault.TheVariants.{Empty, NoCommand, HasNul}
use Rattle.irc_line.specs.Bytes.{is_space, is_colon, has_nul}
use Rattle.irc_line.specs.Messages.{Parsed}

-- what stands behind the spaces at the front of a text
abbrev pub behind_gap : List ℕ → List ℕ
behind_gap [] = []
behind_gap (b ∷ bytes) = if is_space b then behind_gap bytes else b ∷ bytes

-- the bytes before the first space
abbrev pub word_of : List ℕ → List ℕ
word_of [] = []
word_of (b ∷ bytes) = if is_space b then [] else b ∷ word_of bytes

-- the first space, and what follows it
abbrev pub behind_word : List ℕ → List ℕ
behind_word [] = []
behind_word (b ∷ bytes) = if is_space b then b ∷ bytes else behind_word bytes

-- The parameters at the front of a text that begins with no space. Where there is room for one
-- only, it is the rest, without a colon in front.
abbrev pub last_param : List ℕ → List (List ℕ)
last_param [] = []
last_param (b ∷ bytes) = (if is_colon b then bytes else b ∷ bytes) ∷ []

-- Else what stands behind a colon is the last; a word is followed by others.
abbrev pub param_and : (List ℕ → List (List ℕ)) → List ℕ → List (List ℕ)
param_and others [] = []
param_and others (b ∷ bytes) =
    if is_colon b then bytes ∷ [] else word_of (b ∷ bytes) ∷ others (behind_word (b ∷ bytes))

-- the parameters behind a word, where there is room for so many
abbrev pub params_of : ℕ → List ℕ → List (List ℕ)
params_of zero text = []
params_of (suc zero) text = last_param (behind_gap text)
params_of (suc (suc room)) text = param_and (params_of (suc room)) (behind_gap text)

-- a message by its prefix and the text from its command on
abbrev pub message_at : Option (List ℕ) → List ℕ → Parsed
message_at prefix text = record {
  prefix = prefix;
  command = word_of text;
  params = params_of max_parameters (behind_word text);
}

-- a prefix, and the text behind the spaces that follow it
abbrev pub with_prefix : List ℕ → List ℕ → Result Parsed LineFault
with_prefix prefix [] = Err NoCommand
with_prefix prefix (b ∷ bytes) = Ok (message_at (Some prefix) (b ∷ bytes))

-- the text behind the spaces at the front of a line
abbrev pub text_read : List ℕ → Result Parsed LineFault
text_read [] = Err Empty
text_read (b ∷ bytes) = if is_colon b then with_prefix (word_of bytes)
    (behind_gap (behind_word bytes)) else Ok (message_at None (b ∷ bytes))

-- What a line is read as: a NUL first, then spaces alone, then a prefix alone, else the message.
unfoldable pub read_of : List ℕ → Result Parsed LineFault
read_of line = if has_nul line then Err HasNul else text_read (behind_gap line)
