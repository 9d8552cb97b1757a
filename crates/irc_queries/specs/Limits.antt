-- The limits of these commands.
use Rattle.std.specs.Prelude.{ℕ}

-- the most words of a USERHOST that are served (RFC 2812 section 4.8)
abbrev pub max_hosts_asked : ℕ
max_hosts_asked = 5
