-- Who is read while too much waits somewhere.
use Rattle.std.specs.Prelude.{Bool, not, List}
use Rattle.std.specs.List.{list_any}

-- whether somebody is read at a server, where too much waits for these: unless one of them is
-- another. So one for whom too much waits is read if it is the only one, and whoever is none of
-- them, as a client, only while there are none. same is the test by which two are the same
abbrev pub is_read_beside : {Who : Type 0} → (Who → Who → Bool) → List Who → Who → Bool
is_read_beside same full who = not (list_any (λ other. not (same who other)) full)
