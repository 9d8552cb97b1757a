use Rattle.irc_engine.specs.Lemmas.Stills.{nobody_goes}
use Rattle.irc_layer.proofs.layer.Layer.do_given.Goals as goal

pub returns-in-LeftOut-clause-connected : goal.returns-in-LeftOut-clause-connected
returns-in-LeftOut-clause-connected c = nobody_goes c.args.self.now.server c.args.out.now.outs
