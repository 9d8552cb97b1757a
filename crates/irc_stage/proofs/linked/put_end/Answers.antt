use Rattle.irc_stage.specs.Lemmas.Numbers.{put-numbered}
use Rattle.irc_stage.proofs.linked.put_end.Goals as goal

pub returns-in-Ok : goal.returns-in-Ok
returns-in-Ok c =
    put-numbered c.args.ends.now c.insert.new.self c.args.link c.args.end c.in-Ok.ensures.updates
