use Rattle.irc_engine.specs.Lemmas.Stills.{nobody_goes}
use Rattle.irc_layer.proofs.layer.LayerMachine.due.Goals as goal

pub returns-clause-connected : goal.returns-clause-connected
returns-clause-connected c = nobody_goes c.args.self.now.server c.args._out.now.outs
