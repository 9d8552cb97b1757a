use Rattle.irc_net.proofs.StaysOneRoom.{kept_come, kept_given, kept_new}
use Rattle.irc_net.proofs.Settling.{kept_settled}
use Rattle.irc_net.proofs.laws.networks_stay_sound.Goals as goal

pub returns : goal.returns
returns c = record {
  new = kept_new c.new_network_is_sound.ensures c.new_is_whole.ensures;
  given = kept_given c.given_stays_sound.ensures c.waiting_are_lines.ensures
      c.given_as_lines.ensures c.rest_as_lines.ensures.lines;
  come = kept_come c.delivery_keeps_sound.ensures c.waiting_are_lines.ensures
      c.bytes_come_as_lines.ensures;
  settled = kept_settled (record {
    delivered = c.delivery_keeps_sound.ensures;
    waiting = c.waiting_are_lines.ensures;
    turns = c.turn_as_lines.ensures;
  });
}
