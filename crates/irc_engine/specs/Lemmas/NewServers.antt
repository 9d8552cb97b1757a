-- A server that has just been made has nobody.
use Rattle.std.proofs.Common.{◌≡◌, Option, Some, None, Ok, is_some, sym, ◌∙◌, ap, subst}
use Rattle.std.specs.FinMap.{get-empty}
use Rattle.std.specs.Ordering.{nat_cmp}
use Rattle.irc_routes.specs.About.{About}
use Rattle.irc_server.specs.declared.config.Config.{Config}
use Rattle.irc_server.specs.Configuring.{new_server, IsMadeAs}
use Rattle.irc_stage.specs.View.{End, View}
use Rattle.irc_stage.specs.declared.clients.Client.{Client}
use Rattle.irc_engine.specs.Knowing.{HasAs, HasNobody}

one_view : (a b : View) → Some a ≡ Some b → a ≡ b
one_view a b same = cc same

pub made_has_nobody : (about : About) (config : Config) (server : Option View)
    → IsMadeAs (new_server about config) config (Ok server) → HasNobody server
made_has_nobody about config server made conn view is =
    subst (λ (v : View). HasAs v conn None)
    (one_view (new_server about config) view (sym made.1 ∙ is)) (
      ap is_some (get-empty {X = Client} nat_cmp conn),
      ap is_some (get-empty {X = End} nat_cmp conn),
    )
