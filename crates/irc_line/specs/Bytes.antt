-- The bytes that the protocol names, and a line's limit (RFC 2812 section 2.3.1).
use Rattle.std.specs.Prelude.{ℕ, Bool, false, ◌||◌, ◌==◌, List, [], ◌∷◌, take}
use Rattle.std.specs.List.{list_any}
use Rattle.irc_line.specs.Limits.{max_line}

-- the bytes that part lines, words and names, in ASCII
abbrev pub carriage_return : ℕ
carriage_return = 13

abbrev pub line_feed : ℕ
line_feed = 10

abbrev pub space : ℕ
space = 32

abbrev pub colon : ℕ
colon = 58

abbrev pub exclamation_mark : ℕ
exclamation_mark = 33

abbrev pub at_sign : ℕ
at_sign = 64

-- a space parts words; a colon begins a prefix, and a last parameter that may hold spaces
abbrev pub is_space : ℕ → Bool
is_space b = b == space

abbrev pub is_colon : ℕ → Bool
is_colon b = b == colon

-- each CR and each LF ends a line
abbrev pub is_line_end : ℕ → Bool
is_line_end b = (b == carriage_return) || (b == line_feed)

-- no message may hold a NUL
abbrev pub is_nul : ℕ → Bool
is_nul b = b == 0

abbrev pub has_nul : List ℕ → Bool
has_nul = list_any is_nul

-- whether a list begins with a byte of this kind
abbrev pub begins : (ℕ → Bool) → List ℕ → Bool
begins p [] = false
begins p (b ∷ bytes) = p b

-- the end of a line as it is written
abbrev pub crlf : List ℕ
crlf = carriage_return ∷ line_feed ∷ []

-- what a line has room for
unfoldable pub cut : List ℕ → List ℕ
cut = take max_line
