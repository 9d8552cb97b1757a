-- The bytes that commands go by.
use Rattle.std.specs.Prelude.{ℕ}

-- what parts the entries of a list
abbrev pub comma : ℕ
comma = 44

-- what a channel's name begins with (RFC 2812 section 1.3)
abbrev pub hash : ℕ
hash = 35

-- what stands for a nickname that is not there yet
abbrev pub asterisk : ℕ
asterisk = 42
