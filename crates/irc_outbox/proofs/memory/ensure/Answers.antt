use Rattle.irc_outbox.proofs.AmpleLaws.{added_planned, added_there, none_there}
use Rattle.irc_outbox.proofs.MemoryLaws.{on_ok, added_fresh}
use Rattle.irc_outbox.proofs.memory.ensure.Goals as goal

pub returns-clause-fresh : goal.returns-clause-fresh
returns-clause-fresh c = on_ok c.add.result _ _
    (λ added. added_fresh c.args.fars.now c.add.new.fars _ _ c.new.ensures.told added) c.add.ensures

pub returns-clause-there : goal.returns-clause-there
returns-clause-there c = on_ok c.add.result _ _
    (λ added. added_there c.args.fars.now c.add.new.fars _ _ added) c.add.ensures

pub returns-clause-planned : goal.returns-clause-planned
returns-clause-planned c =
    on_ok c.add.result _ _ (λ added. added_planned c.args.fars.now c.add.new.fars _ _
    (none_there _ c.if-contains_key.ensures) c.new.ensures.inward c.new.ensures.outward added)
    c.add.ensures
