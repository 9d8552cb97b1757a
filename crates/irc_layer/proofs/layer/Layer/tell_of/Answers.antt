use Rattle.irc_engine.specs.Lemmas.Stills.{connected_if_ok}
use Rattle.irc_layer.proofs.layer.Layer.tell_of.Goals as goal

pub returns-clause-connected : goal.returns-clause-connected
returns-clause-connected c =
    connected_if_ok c.args.self.now.server c.spell.new.self.server c.put_out.new.self.server
    c.args.out.now.outs c.spell.new.out.outs c.put_out.new.out.outs c.put_out.result
    c.in_ok-spell.ensures.connected c.put_out.ensures.connected
