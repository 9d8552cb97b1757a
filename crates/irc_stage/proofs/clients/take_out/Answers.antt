use Rattle.std.proofs.Common.{sym, ◌∙◌, ap}
use Rattle.irc_stage.specs.Loops.Parts.{clients_of, departed, numbered}
use Rattle.irc_stage.specs.Lemmas.Numbers.{get-numbered, taken-numbered}
use Rattle.irc_stage.proofs.Index.{left_indexed}
use Rattle.irc_stage.proofs.clients.take_out.Goals as goal

pub returns-clause-out : goal.returns-clause-out
returns-clause-out c = taken-numbered c.args.clients.now.by_number c.remove-removed.new.self
    c.args.conn c.remove-removed.ensures.updates

pub returns-clause-indexed : goal.returns-clause-indexed
returns-clause-indexed c =
    left_indexed (clients_of c.args.clients.now) c.args.clients.now.by_nick c.requires.indexed
    c.args.conn c.remove-removed.result
    (get-numbered c.args.clients.now.by_number c.args.conn ∙ sym c.remove-removed.ensures.value)
    (numbered c.remove-removed.new.self) c.depart.new.by_nick
    (taken-numbered c.args.clients.now.by_number c.remove-removed.new.self c.args.conn
    c.remove-removed.ensures.updates)
    c.depart.ensures

pub returns-clause-by_nick : goal.returns-clause-by_nick
returns-clause-by_nick c =
    c.depart.ensures
    ∙ ap (λ client. departed client c.args.clients.now.by_nick)
    (c.remove-removed.ensures.value ∙ sym (get-numbered c.args.clients.now.by_number c.args.conn))
