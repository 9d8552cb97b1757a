use Rattle.irc_stage.specs.Loops.Parts.{clients_of, numbered}
use Rattle.irc_stage.proofs.Index.{seated_indexed}
use Rattle.irc_stage.specs.Lemmas.Outcomes.{on_ok}
use Rattle.irc_stage.proofs.clients.seat.Goals as goal

pub returns-clause-indexed : goal.returns-clause-indexed
returns-clause-indexed c =
    on_ok c.put.result _ _
    (λ is. seated_indexed (clients_of c.args.clients.now) c.args.clients.now.by_nick
    c.requires.indexed c.args.conn c.requires.no_user c.args.client c.requires.free
    (numbered c.put.new.clients) c.enter.new.by_nick is c.in_ok-enter.ensures)
    c.put.ensures
