-- The limits of replies.
use Rattle.std.specs.Prelude.{ℕ}

-- the most nicknames in one 353; our own choice
abbrev pub max_names : ℕ
max_names = 10

-- the most channels in one 319; our own choice
abbrev pub max_whois_channels : ℕ
max_whois_channels = 5

-- the most bytes of the modes in a 324: + and each of i m n p s t k l once, but p and s never
-- together
abbrev pub max_mode_letters : ℕ
max_mode_letters = 8
