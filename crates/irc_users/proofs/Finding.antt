-- Those who pass a test, as a walk over all heads finds them.
use Rattle.std.proofs.Common.{◌≡◌, Bool, List, [], ◌++◌, filter, map}
use Rattle.std.specs.Borrow.{Bor}
use Rattle.std.specs.FinMap.{values}
use Rattle.std.specs.Global.{Box}
use Rattle.slab.specs.Slab.{Slab}
use Rattle.irc_names.specs.Tables.{Table}
use Rattle.irc_users.specs.declared.user.User.{User}
use Rattle.irc_users.specs.declared.users.Head.{Head}
use Rattle.irc_users.specs.Rosters.{sitter}

-- who is found so far, and whoever the rest of the heads gives, are all who pass
abbrev pub AreFoundSoFar : (User → Bool) → Slab (Box User) → Table Head
    → List (Bor User) → List Head → Type 0
AreFoundSoFar test seats heads found rest =
    map (λ user. user.now) found ++ filter test (map (sitter seats) rest)
    ≡ filter test (map (sitter seats) (values heads))

pub none_so_far : (test : User → Bool) (seats : Slab (Box User)) (heads : Table Head)
    (found : List (Bor User)) (rest : List Head) → found ≡ [] → rest ≡ values heads
    → AreFoundSoFar test seats heads found rest
none_so_far test seats heads found rest none all =
    λ i. map (λ user. user.now) (none i) ++ filter test (map (sitter seats) (all i))
