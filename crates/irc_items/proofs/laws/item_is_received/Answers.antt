use Rattle.irc_items.proofs.InAnyOrder.{item_is_received}
use Rattle.irc_items.proofs.laws.item_is_received.Goals as goal

pub returns : goal.returns
returns c = item_is_received (record {
  stays = c.given_stays_sound.ensures;
  delivery = c.delivery_stays_sound.ensures;
  rest = c.rest_is_one_room.ensures;
  given_settings = c.given_keeps_settings.ensures;
  delivered_settings = c.delivery_keeps_settings.ensures;
  items = λ item net. (c.given_is_kept.ensures item net).items;
})
