use Rattle.irc_net.proofs.Running.{every_network}
use Rattle.irc_net.proofs.laws.every_network_is_one_room.Goals as goal

pub returns : goal.returns
returns c = every_network (record {
  stays = c.networks_stay_sound.ensures;
  set_up = c.settings_stay.ensures;
  front = c.received_is_front.ensures;
  room = c.rest_is_one_room.ensures;
  settle = c.each_settles.ensures;
  few = c.taken_are_few.ensures;
  refusals = c.refusals_are_the_worlds.ensures;
  closes_none = c.no_link_is_closed.ensures;
  opens = c.new_link_is_open.ensures;
  rest = c.rest_as_lines.ensures.lines;
})
