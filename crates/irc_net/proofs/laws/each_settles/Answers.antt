use Rattle.irc_net.proofs.Settling.{each_settles}
use Rattle.irc_net.proofs.laws.each_settles.Goals as goal

pub returns : goal.returns
returns c = each_settles (record {
  delivered = c.delivery_keeps_sound.ensures;
  waiting = c.waiting_are_lines.ensures;
  turns = c.turn_as_lines.ensures;
}) c.turn_leaves_fewer.ensures c.each_comes_to_line.ensures c.rest_as_lines.ensures.bytes
