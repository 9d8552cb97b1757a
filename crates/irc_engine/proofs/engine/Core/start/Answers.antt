use Rattle.std.proofs.Common.{refl, sym, ◌∙◌}
use Rattle.irc_engine.specs.Running.{in_use, makes_connection}
use Rattle.irc_engine.proofs.KnowingLaws.{hears_arrival}
use Rattle.irc_engine.proofs.MarkLaws.{notes_made}
use Rattle.irc_engine.proofs.RunLaws.{on_ok, ran_none, none_there}
use Rattle.irc_engine.proofs.engine.Core.start.Goals as goal

pub returns-then-contains-clause-done : goal.returns-then-contains-clause-done
returns-then-contains-clause-done g c =
    in_use (sym c.contains.ensures ∙ c.if-contains.true) (ran_none _ _)

pub pass-requires : goal.pass-requires
pass-requires g c =
    hears_arrival _ _ _ c.requires.at_one _ _ _ _ _ c.requires.arrival c.requires.told
    (none_there _ (sym c.contains.ensures ∙ c.if-contains.false))
    c.in_ok-insert.ensures

pub returns-clause-done : goal.returns-clause-done
returns-clause-done g c =
    on_ok c.pass.result _ _
    (λ ran. makes_connection _ (none_there _ (sym c.contains.ensures ∙ c.if-contains.false)) refl
    refl refl refl refl refl c.in_ok-insert.ensures ran)
    c.pass.ensures.ran

pub returns-clause-told : goal.returns-clause-told
returns-clause-told g c = on_ok c.pass.result _ _ (λ told before. told) c.pass.ensures.told

pub returns-clause-notes : goal.returns-clause-notes
returns-clause-notes g c =
    on_ok c.pass.result _ _
    (λ marks. notes_made _ c.args.self.now.connections c.pass.new.self.connections
    (record c.args.self.now.connections { table = c.insert.new.self }) _ _
    (none_there _ (sym c.contains.ensures ∙ c.if-contains.false)) c.in_ok-insert.ensures
    (λ q. refl) marks)
    c.pass.ensures.marks
