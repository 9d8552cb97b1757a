use Rattle.irc_engine.specs.Lemmas.Stills.{connected_if_ok}
use Rattle.irc_layer.proofs.layer.Layer.hear_other.Goals as goal

pub returns-clause-connected : goal.returns-clause-connected
returns-clause-connected c =
    connected_if_ok c.args.self.now.server c.do_given.new.self.server c.ask_of.new.self.server
    c.args.out.now.outs c.do_given.new.out.outs c.ask_of.new.out.outs c.ask_of.result
    c.in_ok-do_given.ensures.connected c.ask_of.ensures.connected
