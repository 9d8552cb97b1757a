-- The ends of the links of a server (RFC 2813 section 4.1).
use Rattle.std.specs.Prelude.{ℕ, Bool, is_some, Option, None, List}
use Rattle.std.specs.Ordering.{nat_cmp}
use Rattle.std.specs.FinMap.{FinMap}

-- the end of an open link: the peer that is called, where it is the end that calls; the password
-- that it was given; the name of the server at the other end, once that has told it
pub record End : Type 0 where
  pub starts : Option (List ℕ)
  pub password : Option (List ℕ)
  pub far : Option (List ℕ)

-- an end at which nothing has come yet
abbrev pub fresh_end : Option (List ℕ) → End
fresh_end starts = record { starts = starts; password = None; far = None }

-- the ends of the open links, each under the number of its link
abbrev pub Ends : Type 0
Ends = FinMap nat_cmp End

-- A link counts once the server at the other end has named itself.
abbrev pub is_met : End → Bool
is_met end = is_some end.far
