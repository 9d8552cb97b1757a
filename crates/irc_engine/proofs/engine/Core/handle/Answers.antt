use Rattle.std.proofs.Common.{Option, ap, subst}
use Rattle.irc_batch.specs.Batches.{Batch}
use Rattle.irc_stage.specs.View.{View}
use Rattle.irc_journal.specs.Signs.{EntersAll}
use Rattle.irc_engine.specs.Noting.{event_signs}
use Rattle.irc_engine.proofs.RunLaws.{on_ok, on_both, asked_once}
use Rattle.irc_engine.proofs.KnowingLaws.{at_one_after, only_memory}
use Rattle.irc_engine.proofs.engine.Core.handle.Goals as goal

pub want_of_memory-requires : goal.want_of_memory-requires
want_of_memory-requires g c = only_memory _ _ _ _ _ c.requires c.in-Err.ensures.refused

pub returns-in_ok-note-in-Ok-clause-at_one : goal.returns-in_ok-note-in-Ok-clause-at_one
returns-in_ok-note-in-Ok-clause-at_one g c =
    on_ok c.dispatch.result _ _
    (λ carries. at_one_after _ _ _ _ _ _ c.args.self.now.connections
    c.dispatch.new.self (ap (λ (b : Batch). b.outs) c.clear.ensures)
    c.in-Ok.ensures.connected c.requires carries)
    c.dispatch.ensures.carries

pub returns-in_ok-note-in-Ok-clause-asks : goal.returns-in_ok-note-in-Ok-clause-asks
returns-in_ok-note-in-Ok-clause-asks g c =
    on_both c.dispatch.result _ _ _
    (λ carries closed. asked_once _ _ _ _ _ _ _ c.args.self.now.connections c.dispatch.new.self _ _
    _ (ap (λ (b : Batch). b.outs) c.clear.ensures) c.in-Ok.ensures.handled
    (subst (λ (server : Option View). EntersAll (event_signs c.args.event.now server)
    c.args.self.now.journal c.note.new.journal) c.server.ensures c.in_ok-note-in-Ok.ensures)
    closed carries)
    c.dispatch.ensures.carries c.dispatch.ensures.noted
