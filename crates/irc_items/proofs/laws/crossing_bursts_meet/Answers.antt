use Rattle.irc_items.proofs.PartedAndBack.{crossing_bursts_meet}
use Rattle.irc_items.proofs.laws.crossing_bursts_meet.Goals as goal

pub returns : goal.returns
returns c = crossing_bursts_meet (record {
  stays = c.given_stays_sound.ensures;
  delivery = c.delivery_stays_sound.ensures;
  rest = c.rest_is_one_room.ensures;
  given_settings = c.given_keeps_settings.ensures;
  delivered_settings = c.delivery_keeps_settings.ensures;
  items = λ item net. (c.given_is_kept.ensures item net).items;
}) c.refusals_are_the_worlds.ensures c.people_meet.ensures
