-- The numbers that stand for servers on links (RFC 2813 section 4.1.2).
use Rattle.std.specs.Prelude.{ℕ}

-- how many servers there may be, the server itself among them (our own choice)
abbrev pub max_servers : ℕ
max_servers = 256

-- a server's number for itself, and the smallest that it gives to another (RFC 2813 section 4.1.2;
-- that they are given so is our own choice)
abbrev pub own_token : ℕ
own_token = 1

abbrev pub first_token : ℕ
first_token = 2
