-- The rule of the password that two servers give each other (our own choice).
use Rattle.std.specs.Prelude.{ℕ, Bool, ◌&&◌, List, IsTrue}
use Rattle.std.specs.List.{list_all}
use Rattle.std.specs.Char.{is_ascii_graphic}
use Rattle.irc_names.specs.Names.{fits, starts_without_colon}

-- the most bytes of a password
abbrev pub max_password : ℕ
max_password = 20

-- bytes from 0x21 to 0x7E of which the first is no colon, so that a password can stand as a middle
-- parameter
abbrev pub is_password : List ℕ → Bool
is_password bytes =
    starts_without_colon bytes && list_all is_ascii_graphic bytes && fits max_password bytes

abbrev pub IsPassword : List ℕ → Type 0
IsPassword bytes = IsTrue (is_password bytes)
