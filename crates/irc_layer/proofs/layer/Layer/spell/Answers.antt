use Rattle.irc_engine.specs.Lemmas.Stills.{nobody_goes}
use Rattle.irc_layer.proofs.layer.Layer.spell.Goals as goal

pub returns-in-None-clause-connected : goal.returns-in-None-clause-connected
returns-in-None-clause-connected c = nobody_goes c.args.self.now.server c.args.out.now.outs
