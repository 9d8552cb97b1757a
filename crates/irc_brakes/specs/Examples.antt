-- Who is read, of numbers; and who waits for whom in small networks: a line, two servers, and a
-- triangle, which is no forest.
use Rattle.std.specs.Prelude.{◌≡◌, true, false, if◌then◌else◌, nat_eq, List, [], ◌∷◌, map}
use Rattle.std.specs.Prelude.{codes}
use Rattle.irc_relay.specs.Links.{Name, same, Link, IsForest}
use Rattle.irc_brakes.specs.Reading.{is_read_beside}
use Rattle.irc_brakes.specs.Waiting.{Direction, is_read, IsChain}

-- ---- one server, whose links are 7 and 8, and which has a client 1

abbrev pub WhoIsRead : Type 0
WhoIsRead =
    (map (is_read_beside nat_eq []) (7 ∷ 8 ∷ 1 ∷ []) ≡ true ∷ true ∷ true ∷ [])
    × (map (is_read_beside nat_eq (7 ∷ [])) (7 ∷ 8 ∷ 1 ∷ []) ≡ true ∷ false ∷ false ∷ [])
    × (map (is_read_beside nat_eq (7 ∷ 8 ∷ [])) (7 ∷ 8 ∷ 1 ∷ []) ≡ false ∷ false ∷ false ∷ [])

-- ---- networks

abbrev pub a_net : Name
a_net = codes "a.net"

abbrev pub b_net : Name
b_net = codes "b.net"

abbrev pub c_net : Name
c_net = codes "c.net"

abbrev pub d_net : Name
d_net = codes "d.net"

abbrev pub link : Name → Name → Link
link s t = record { near = s; far = t }

abbrev pub from : Name → Name → Direction
from s t = record { writer = s; reader = t }

-- a - b - c - d, where too much waits at each for the next
abbrev pub line : List Link
line = link a_net b_net ∷ link b_net c_net ∷ link c_net d_net ∷ []

abbrev pub down_the_line : Name → List Name
down_the_line s =
    if same s a_net then b_net ∷ []
    else if same s b_net then c_net ∷ []
    else if same s c_net then d_net ∷ []
    else []

-- what a writes waits for what b writes, that for what c writes, and d reads; upward all are read
pub record LineIsRead : Type 0 where
  pub forest : IsForest line
  pub chain : IsChain line down_the_line (from a_net b_net)
      (from b_net c_net ∷ from c_net d_net ∷ []) (from c_net d_net)
  pub down : map (is_read down_the_line)
      (from a_net b_net ∷ from b_net c_net ∷ from c_net d_net ∷ []) ≡ false ∷ false ∷ true ∷ []
  pub up : map (is_read down_the_line)
      (from d_net c_net ∷ from c_net b_net ∷ from b_net a_net ∷ []) ≡ true ∷ true ∷ true ∷ []

-- a - b, where too much waits at each for the other
abbrev pub both_ways : Name → List Name
both_ways s = if same s a_net then b_net ∷ [] else if same s b_net then a_net ∷ [] else []

abbrev pub BothEndsAreRead : Type 0
BothEndsAreRead =
    map (is_read both_ways) (from a_net b_net ∷ from b_net a_net ∷ []) ≡ true ∷ true ∷ []

-- a - b - c - a, where too much waits at each for the next
abbrev pub triangle : List Link
triangle = link a_net b_net ∷ link b_net c_net ∷ link c_net a_net ∷ []

abbrev pub round : Name → List Name
round s =
    if same s a_net then b_net ∷ []
    else if same s b_net then c_net ∷ []
    else if same s c_net then a_net ∷ []
    else []

-- each of the three waits for the next, and none is read
pub record TriangleWaits : Type 0 where
  pub no_forest : IsForest triangle → ⊥
  pub chain : IsChain triangle round (from a_net b_net)
      (from b_net c_net ∷ from c_net a_net ∷ from a_net b_net ∷ []) (from a_net b_net)
  pub none_is_read : map (is_read round)
      (from a_net b_net ∷ from b_net c_net ∷ from c_net a_net ∷ []) ≡ false ∷ false ∷ false ∷ []
