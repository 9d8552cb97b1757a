use Rattle.irc_engine.specs.Lemmas.Stills.{nobody_goes}
use Rattle.irc_layer.proofs.Connecting.{quiet_if_ok}
use Rattle.irc_layer.specs.Ends.{end_at}
use Rattle.irc_layer.proofs.layer.Layer.hear.Goals as goal

pub returns-in-Nothing-clause-connected : goal.returns-in-Nothing-clause-connected
returns-in-Nothing-clause-connected c = nobody_goes c.args.self.now.server c.args.out.now.outs

pub returns-in_ok-hear_all-in-Piece-clause-connected :
    goal.returns-in_ok-hear_all-in-Piece-clause-connected
returns-in_ok-hear_all-in-Piece-clause-connected c =
    quiet_if_ok c.args.link (end_at c.hear_all.new.self.ends c.args.link) c.args.self.now.server
    c.hear_all.new.self.server c.args.out.now.outs c.hear_all.new.out.outs c.tell_count.new.out.outs
    c.tell_count.result c.in_ok-hear_all-in-Piece.ensures.connected c.tell_count.ensures.outs
