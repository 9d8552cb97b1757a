-- What a user says of itself (RFC 2812 sections 3.1.3 and 4.1).
use Rattle.std.specs.Prelude.{ℕ, Bool, false, not, ◌&&◌, ◌||◌, ◌≤◌, List, [], ◌∷◌, length, take}
use Rattle.std.specs.Prelude.{map, codes, nat_eq, if◌then◌else◌, IsTrue}
use Rattle.std.specs.List.{list_any, list_all}
use Rattle.std.specs.Char.{is_ascii_alphanumeric}
use Rattle.irc_names.specs.Limits.{max_user_name, max_real_name, max_words}
use Rattle.irc_names.specs.Names.{is_one_of, fits}

-- what may stand in a user name (our own choice)
abbrev pub is_user_byte : ℕ → Bool
is_user_byte byte = is_ascii_alphanumeric byte || list_any (nat_eq byte) (codes "-._~")

-- `_` stands for each byte that may not stand in a user name
abbrev pub clean_user_byte : ℕ → ℕ
clean_user_byte byte = if is_user_byte byte then byte else 95

-- the user name made of any bytes: cut, and each other byte an underscore (our own choice)
unfoldable pub clean_user : List ℕ → List ℕ
clean_user bytes = map clean_user_byte (take max_user_name bytes)

-- the real name made of any bytes: cut (our own choice)
unfoldable pub cut_real : List ℕ → List ℕ
cut_real bytes = take max_real_name bytes

pub record IsUserName (bytes : List ℕ) : Type 0 where
  pub fits : length bytes ≤ max_user_name
  pub clean : IsTrue (list_all is_user_byte bytes)

abbrev pub IsRealName : List ℕ → Type 0
IsRealName bytes = length bytes ≤ max_real_name

-- NUL, CR and LF are in no text (RFC 2812 section 2.3.1)
abbrev pub is_away_byte : ℕ → Bool
is_away_byte byte = not (is_one_of (0x00 ∷ 0x0D ∷ 0x0A ∷ []) byte)

-- whether bytes may be what is told of a user who is away: at least one, since a user without a
-- text is back (RFC 2812 section 4.1), and no more than a quit's
unfoldable pub is_away : List ℕ → Bool
is_away [] = false
is_away (first ∷ rest) = list_all is_away_byte (first ∷ rest) && fits max_words (first ∷ rest)

abbrev pub IsAway : List ℕ → Type 0
IsAway bytes = IsTrue (is_away bytes)
