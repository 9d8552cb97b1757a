-- How a server describes itself (RFC 2813 section 4.1.2); how long it may be, and what may not
-- stand in it, is our own choice.
use Rattle.std.specs.Prelude.{ℕ, Bool, not, ◌&&◌, List, [], ◌∷◌, IsTrue}
use Rattle.std.specs.List.{list_all}
use Rattle.irc_names.specs.Limits.{max_info}
use Rattle.irc_names.specs.Names.{is_one_of, fits}

-- NUL, CR and LF are in no text
abbrev pub is_text_byte : ℕ → Bool
is_text_byte byte = not (is_one_of (0x00 ∷ 0x0D ∷ 0x0A ∷ []) byte)

-- whether bytes may be the text by which a server tells what it is
abbrev pub is_info : List ℕ → Bool
is_info bytes = list_all is_text_byte bytes && fits max_info bytes

abbrev pub IsInfo : List ℕ → Type 0
IsInfo bytes = IsTrue (is_info bytes)
