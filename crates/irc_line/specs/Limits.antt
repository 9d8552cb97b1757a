-- The limits of lines (RFC 2812 section 2.3), as numbers.
use Rattle.std.specs.Prelude.{ℕ}

-- the most bytes of a line without its CR LF (RFC 2812 section 2.3: 512 with them)
abbrev pub max_line : ℕ
max_line = 510

-- the most bytes of a line with its CR LF (RFC 2812 section 2.3)
abbrev pub max_text : ℕ
max_text = 512

-- the most parameters of a message (RFC 2812 section 2.3)
abbrev pub max_parameters : ℕ
max_parameters = 15
