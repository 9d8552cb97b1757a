-- The limits of names and short texts, in bytes.
use Rattle.std.specs.Prelude.{ℕ}

-- the longest nickname; our own choice (RFC 2812 section 1.2.1 has nine)
abbrev pub max_nick : ℕ
max_nick = 30

-- the longest channel name, with its # (RFC 2812 section 1.3)
abbrev pub max_channel : ℕ
max_channel = 50

-- the longest host; our own choice
abbrev pub max_host : ℕ
max_host = 63

-- the longest server name (RFC 2812 section 1.1)
abbrev pub max_server : ℕ
max_server = 63

-- the longest key of a channel (RFC 2812 section 2.3.1)
abbrev pub max_key : ℕ
max_key = 23

-- the longest mask of a ban; our own choice
abbrev pub max_ban_mask : ℕ
max_ban_mask = 90

-- the longest user name; our own choice
abbrev pub max_user_name : ℕ
max_user_name = 10

-- the longest real name; our own choice
abbrev pub max_real_name : ℕ
max_real_name = 50

-- the longest topic, and the longest text of a quit, a part, a kick or of who is away; our own
-- choice
abbrev pub max_words : ℕ
max_words = 160

-- the longest text in which a server describes itself; our own choice
abbrev pub max_info : ℕ
max_info = 63

-- the longest text that says when a server was created; our own choice
abbrev pub max_created : ℕ
max_created = 30
