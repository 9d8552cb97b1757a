use Rattle.irc_pipes.specs.Loops.Rows.{direction_of}
use Rattle.irc_network.specs.Loops.Progress.{progress_of}
use Rattle.irc_network.proofs.Calls.{no_turn, one_turn}
use Rattle.irc_network.proofs.network.Network.come_in_turn.Goals as goal

pub returns-in_default : goal.returns-in_default
returns-in_default g c =
    no_turn (progress_of c.args.self.now c.args.output.now.lines.items) c.in_default.ensures

pub returns : goal.returns
returns g c =
    one_turn (progress_of c.args.self.now c.args.output.now.lines.items)
    (progress_of c.come.new.self c.come.new.output.lines.items)
    (direction_of c.in-Some.ends) c.through_line_feed-count.result c.in_ok-came.came.lines
    c.in-Some.ensures c.through_line_feed-count.ensures
    c.in_ok-came.ensures.come c.in_ok-came.ensures.lines
