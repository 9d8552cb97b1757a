use Rattle.irc_engine.specs.Lemmas.Stills.{connected_if_ok}
use Rattle.irc_layer.proofs.layer.Layer.give_kills.Goals as goal

pub returns-in-Some-clause-connected : goal.returns-in-Some-clause-connected
returns-in-Some-clause-connected c =
    connected_if_ok c.args.self.now.server c.give_kill.new.self.server
    c.give_kill-in-Some.new.self.server c.args.out.now.outs c.give_kill.new.out.outs
    c.give_kill-in-Some.new.out.outs c.give_kill-in-Some.result c.in_ok-give_kill.ensures.connected
    c.give_kill-in-Some.ensures.connected
