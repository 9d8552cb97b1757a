-- What is set in a channel: a letter of a MODE, or the topic. Where both ends of a link set one
-- thing at once, the greater stays at both, as where two sides are linked: what is set over what is
-- taken away, s over p, the greater key, topic and spelling of a ban by bytes, the greater limit.
--   a.net   :al TOPIC #c :one      b.net   :bo TOPIC #c :two      both have the topic two
--   a.net   :al MODE #c -k x       b.net   :bo MODE #c +k y       both have the key y
--   a.net   :al MODE #c +o bo      b.net   :bea MODE #c -o bo     bo is an operator at both
--   a.net   :a.net NJOIN #c :      b.net   :b.net NJOIN #C :      both have #c
-- Where both set the same, it is set once.
use Rattle.std.specs.Prelude.{ℕ, Bool, true, false, not, ◌&&◌, ◌||◌, Option, Some, None, List}
use Rattle.std.specs.Prelude.{nat_eq, nat_lt, if◌then◌else◌}
use Rattle.std.specs.Ordering.{is_lt}
use Rattle.irc_names.specs.Digits.{number_of}
use Rattle.irc_names.specs.Fold.{same}
use Rattle.irc_names.specs.Greater.{bytes_cmp}
use Rattle.irc_modes.specs.Letters.{letter_byte, names_member}
use Rattle.irc_modes.specs.Modes.{is_limit}
use Rattle.irc_modes.specs.declared.modes.ModeChange.{ModeChange}
use Rattle.irc_modes.specs.declared.modes.ModeLetter.{ModeLetter}
use Rattle.irc_modes.specs.declared.modes.ModeLetter.TheVariants as letter
use Rattle.irc_crossing.specs.declared.setting.Setting.{Setting}
use Rattle.irc_crossing.specs.declared.setting.Setting.TheVariants.{Mode, Spelling, Topic}

-- whether it is set in this channel
abbrev pub is_in : List ℕ → Setting → Bool
is_in channel (Mode at change) = same channel at
is_in channel (Topic at text) = same channel at
is_in channel (Spelling at) = same channel at

-- ---- one thing

-- p and s are one
abbrev pub place_of : ModeLetter → ModeLetter
place_of letter.Secret = letter.Private
place_of other = other

-- each ban is one, and each member's flag
abbrev pub is_by_word : ModeLetter → Bool
is_by_word letter.Ban = true
is_by_word other = names_member other

abbrev pub are_same_words : (one other : Option (List ℕ)) → Bool
are_same_words (Some one) (Some other) = same one other
are_same_words one other = false

abbrev pub is_one_place : (one other : ModeChange) → Bool
is_one_place one other =
    nat_eq (letter_byte (place_of one.letter)) (letter_byte (place_of other.letter))
    && (not (is_by_word one.letter) || are_same_words one.word other.word)

-- ---- the greater

abbrev pub are_greater_bytes : (one other : Option (List ℕ)) → Bool
are_greater_bytes (Some one) (Some other) = is_lt (bytes_cmp other one)
are_greater_bytes one other = false

-- limits are compared by their numbers, however they are written; a word that is none is less
abbrev pub limit_of : List ℕ → Option ℕ
limit_of word = if is_limit word then Some (number_of word) else None

abbrev pub is_above : (one other : Option ℕ) → Bool
is_above (Some one) (Some other) = nat_lt other one
is_above (Some one) None = true
is_above None other = false

abbrev pub is_greater_limit : (one other : Option (List ℕ)) → Bool
is_greater_limit (Some one) (Some other) = is_above (limit_of one) (limit_of other)
is_greater_limit one other = false

abbrev pub is_secret : ModeLetter → Bool
is_secret letter.Secret = true
is_secret other = false

-- of two that are set
abbrev pub is_greater_set : ModeLetter → (one other : ModeChange) → Bool
is_greater_set letter.Secret one other = not (is_secret other.letter)
is_greater_set letter.Key one other = are_greater_bytes one.word other.word
is_greater_set letter.Ban one other = are_greater_bytes one.word other.word
is_greater_set letter.Limit one other = is_greater_limit one.word other.word
is_greater_set which one other = false

abbrev pub is_greater_change : (one other : ModeChange) → Bool
is_greater_change one other =
    one.plus && (not other.plus || is_greater_set one.letter one other)

-- whether a setting of one end gives way to one of the other: both set one thing, and it is not the
-- greater
abbrev pub yields : (one other : Setting) → Bool
yields (Mode channel one) (Mode at other) =
    same channel at && (is_one_place one other && not (is_greater_change one other))
yields (Topic channel one) (Topic at other) = same channel at && not (is_lt (bytes_cmp other one))
yields (Spelling one) (Spelling other) = same one other && not (is_lt (bytes_cmp other one))
yields one other = false
