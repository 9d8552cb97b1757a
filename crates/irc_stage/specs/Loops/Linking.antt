-- What comes and goes by links, as the code has it.
use Rattle.std.specs.Prelude.{◌≡◌, ℕ, Bool, Option, List, if◌then◌else◌}
use Rattle.std.specs.FinMap.{get}
use Rattle.irc_batch.specs.Batches.{Batch}
use Rattle.irc_routes.specs.declared.newcomer.Newcomer.{Newcomer}
use Rattle.irc_stage.specs.Ways.{but, met_links, IsMetEnd}
use Rattle.irc_stage.specs.declared.parts.ServerParts.{ServerParts}
use Rattle.irc_stage.specs.View.{View}
use Rattle.irc_stage.specs.EffectTold.{with_sent}
use Rattle.irc_stage.specs.Linked.{is_taken, with_row}
use Rattle.irc_stage.specs.Loops.Parts.{lines_on, served_at, view_of}

-- a link is open, and counts
abbrev pub IsMetAt : ℕ → ServerParts → Type 0
IsMetAt link stage = IsMetEnd (get (view_of stage).ends link)

-- a server more, where it is taken
abbrev pub view_with : ℕ → Bool → Newcomer → View → View
view_with link is_known newcomer view =
    if is_known then with_row link newcomer.uplink.now newcomer.name.now newcomer.distance
    newcomer.token newcomer.info.now view else view

-- it is taken where it can be, and known from then on
abbrev pub takes_newcomer : ℕ → Newcomer → View → Bool
takes_newcomer link newcomer view =
    is_taken view.routes link newcomer.name.now newcomer.token

abbrev pub IsKnownIf : ℕ → Newcomer → ServerParts → ServerParts → Bool → Type 0
IsKnownIf link newcomer old new is_known =
    view_of new ≡ view_with link is_known newcomer (view_of old)

-- a line goes on every link that counts, but for one
abbrev pub IsToldToAll : Option ℕ → List ℕ → ServerParts → Batch → ServerParts → Batch → Type 0
IsToldToAll arrival line old out new out_after =
    served_at new out_after.outs ≡ with_sent
    (lines_on (but arrival (met_links (view_of old).ends)) line) (served_at old out.outs)
