-- Headers of proxies that are awaited.
use Rattle.std.specs.Prelude.{ℕ, Bool, nat_lt}

-- at most 256 are awaited at once
abbrev pub may_await_one_more : ℕ → Bool
may_await_one_more awaited = nat_lt awaited 256
