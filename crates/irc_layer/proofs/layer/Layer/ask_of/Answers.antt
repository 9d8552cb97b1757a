use Rattle.irc_engine.specs.Lemmas.Stills.{nobody_goes}
use Rattle.irc_layer.proofs.layer.Layer.ask_of.Goals as goal

pub returns-in_default-clause-connected : goal.returns-in_default-clause-connected
returns-in_default-clause-connected c = nobody_goes c.args.self.now.server c.args.out.now.outs

pub returns-in_default-2-clause-connected : goal.returns-in_default-2-clause-connected
returns-in_default-2-clause-connected c = nobody_goes c.args.self.now.server c.args.out.now.outs
