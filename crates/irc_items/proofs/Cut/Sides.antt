-- The two sides of a link that is lost.
use Rattle.std.specs.Prelude.{List, if◌then◌else◌}
use Rattle.irc_server.specs.DeedTold.{losses}
use Rattle.irc_merge.specs.Deeds.{Deed}
use Rattle.irc_relay.specs.Following.{all_done}
use Rattle.irc_relay.specs.Links.{Name, Link, joined}
use Rattle.irc_routes.specs.Known.{Known, names_behind}
use Rattle.irc_world.specs.World.{World}
use Rattle.irc_follow.specs.SideState.{ItemSetting, SideState, number}
use Rattle.irc_follow.specs.Says.{play}

-- the deeds by which the side of a loses the servers of b's side, in order of name
abbrev pub deeds_of_cut : ItemSetting → (Name → Known) → Name → Name → List Deed
deeds_of_cut s routes a b = losses a b (names_behind (routes a) (number s b))

-- the side of t, of which nobody knows that the link is lost; its servers are those that are joined
-- to t by the links that are left
abbrev pub cut_side : World → (Name → Known) → List Link → Name → SideState
cut_side world routes left t = record {
  tree = record {
    forest = world.links;
    here = λ x. joined left x t;
    knows = λ x. joined world.links x t;
    routes = routes;
  };
  hall = world.hall t;
}

-- that side, once it has lost the other's servers
abbrev pub cut_after : ItemSetting → World → (Name → Known) → List Link → Name → Name → SideState
cut_after s world routes left a b =
    all_done (play s 0) (cut_side world routes left a) (deeds_of_cut s routes a b)

-- what each server knows by then
abbrev pub routes_after_cut : ItemSetting → World → (Name → Known) → List Link → Name → Name
    → Name → Known
routes_after_cut s world routes left a b t =
    if joined left t a then (cut_after s world routes left a b).tree.routes t
    else (if joined left t b then (cut_after s world routes left b a).tree.routes t else routes t)
