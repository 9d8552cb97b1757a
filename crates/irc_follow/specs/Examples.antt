-- Numbers of three servers, computed.
use Rattle.std.specs.Prelude.{◌≡◌, ◌||◌, Some, List, [], ◌∷◌, codes, if◌then◌else◌}
use Rattle.irc_relay.specs.Links.{Name, same}
use Rattle.irc_routes.specs.About.{says}
use Rattle.irc_routes.specs.Known.{Known, added, alone_known, row_of, token_out}
use Rattle.irc_follow.specs.Tree.{Tree, gained}

abbrev pub a : Name
a = codes "a.net"

abbrev pub b : Name
b = codes "b.net"

abbrev pub c : Name
c = codes "c.net"

abbrev pub three : List Name
three = a ∷ b ∷ c ∷ []

-- what each says of itself
abbrev pub itself_only : Name → Known
itself_only name = alone_known name (says (codes "A server") (codes "today"))

-- a.net and b.net know each other, and c.net nobody
abbrev pub first_routes : Name → Known
first_routes name =
    if same name a then added 1 b b 1 1 (codes "A server") (itself_only a)
    else (if same name b then added 0 a a 1 1 (codes "A server") (itself_only b)
    else itself_only name)

-- b.net and c.net are being linked
abbrev pub two_of_three : Tree
two_of_three = record {
  forest = record { near = b; far = c } ∷ record { near = a; far = b } ∷ [];
  here = λ name. same name a || same name b;
  knows = λ name. same name a || same name b;
  routes = first_routes;
}

-- they have come to know c.net
abbrev pub all_three : Tree
all_three = gained three b c (codes "A server") two_of_three

-- Both give it the number 3. a.net has it from b.net by that number, and b.net from c.net by 1,
-- which is each server's number for itself.
pub record NumbersOfThree : Type 0 where
  pub of_a : token_out (all_three.routes a) c ≡ Some 3
  pub of_b : token_out (all_three.routes b) c ≡ Some 3
  pub kept_at_a : row_of (all_three.routes a) c ≡ Some (record {
    link = 1;
    uplink = b;
    name = c;
    distance = 2;
    token = 3;
    ours = 3;
    info = codes "A server";
  })
  pub kept_at_b : row_of (all_three.routes b) c ≡ Some (record {
    link = 2;
    uplink = b;
    name = c;
    distance = 1;
    token = 1;
    ours = 3;
    info = codes "A server";
  })
