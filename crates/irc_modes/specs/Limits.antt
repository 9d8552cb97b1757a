-- The limits of modes.
use Rattle.std.specs.Prelude.{ℕ}

-- how many letters of one MODE count that take a parameter (RFC 2812 section 3.2.3)
abbrev pub max_mode_parameters : ℕ
max_mode_parameters = 3

-- the most bans that a client's MODE may set on a channel (our own choice); a change that is
-- applied knows no such limit
abbrev pub max_bans : ℕ
max_bans = 30

-- the longest word that any letter takes: the mask of a ban
abbrev pub max_mode_word : ℕ
max_mode_word = 90

-- the greatest limit of members that a channel can have; our own choice
abbrev pub max_limit : ℕ
max_limit = 65535

-- the most digits of a limit; our own choice
abbrev pub max_limit_digits : ℕ
max_limit_digits = 5
