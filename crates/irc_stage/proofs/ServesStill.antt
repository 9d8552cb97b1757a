-- A server that serves goes on to, where what it has become keeps clients and users matched.
use Rattle.std.proofs.Common.{◌≡◌, Result, List, sym, subst}
use Rattle.std.specs.Result.{OnOk}
use Rattle.irc_batch.specs.Batches.{Sent}
use Rattle.irc_stage.specs.declared.parts.ServerParts.{ServerParts}
use Rattle.irc_stage.specs.EffectTold.{Served}
use Rattle.irc_stage.specs.Matched.{IsMatched}
use Rattle.irc_stage.specs.View.{machine_of}
use Rattle.irc_stage.specs.Lemmas.Counting.{Holds}
use Rattle.irc_stage.specs.Lemmas.Outcomes.{both_ok}
use Rattle.irc_stage.specs.Loops.Parts.{served_at, IsReady, IsServing}

pub holds_at : (stage : ServerParts) (out : List Sent) → IsServing stage
    → Holds (served_at stage out)
holds_at stage out serving =
    record { matched = serving.matched; well = serving.ready.sound.well_formed }

pub serves_by : (new : ServerParts) (out : List Sent) (s : Served) → Holds s → IsReady new
    → served_at new out ≡ s → IsServing new
serves_by new out s holds ready is = record {
  ready = ready;
  matched = subst (λ (t : Served). IsMatched (machine_of t.state)) (sym is) holds.matched;
}

pub serves_on_ok : {E : Type 0} (result : Result (Unit {0}) E) (new : ServerParts) (out : List Sent)
    (s : Served) → Holds s → OnOk result (IsReady new) → OnOk result (served_at new out ≡ s)
    → OnOk result (IsServing new)
serves_on_ok result new out s holds =
    both_ok result (IsReady new) (served_at new out ≡ s) (IsServing new) (serves_by new out s holds)
