-- The limits of scripts and of what is printed. All are our own choice.
use Rattle.std.specs.Prelude.{ℕ}

-- how many servers a script may name; our own choice
unfoldable pub max_script_servers : ℕ
max_script_servers = 256

-- how many reads may be made of a script; our own choice
unfoldable pub max_reads : ℕ
max_reads = 16777216

-- how many bytes one read asks for; our own choice
abbrev pub read_size : ℕ
read_size = 4096

-- how many writes one text may take; our own choice
unfoldable pub max_writes : ℕ
max_writes = 16777216

-- how many bytes may wait to be written; our own choice
abbrev pub waiting_room : ℕ
waiting_room = 16384
