use Rattle.irc_stage.specs.Lemmas.Numbers.{put-numbered}
use Rattle.irc_stage.proofs.clients.put.Goals as goal

pub returns-in-Ok : goal.returns-in-Ok
returns-in-Ok c = put-numbered c.args.clients.now c.insert.new.self c.args.conn c.args.client
    c.in-Ok.ensures.updates
