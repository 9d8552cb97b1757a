-- A network stays sound by each item that is taken.
use Rattle.irc_world.specs.Stepping.{connect, cut, gone, line, link}
use Rattle.irc_world.specs.WorldHolds.{TakenMakeWorld}
use Rattle.irc_items.specs.Laws.{GivenStaysSound, RestIsOneRoom}
use Rattle.irc_items.proofs.Common.AtRest.{holds_now}
use Rattle.irc_items.proofs.Client.Items.{connect_sound, gone_sound, line_sound, AreItemLaws}
use Rattle.irc_items.proofs.Cut.Item.{cut_item_sound, AreCutItemLaws}
use Rattle.irc_items.proofs.Link.Item.{link_item_sound, AreLinkItemLaws}

pub record AreGivenLaws : Type 0 where
  pub rest : RestIsOneRoom
  pub world : TakenMakeWorld
  pub client : AreItemLaws
  pub link : AreLinkItemLaws
  pub cut : AreCutItemLaws

pub given_stays_sound : AreGivenLaws → GivenStaysSound
given_stays_sound laws net (connect server host) sound given =
    connect_sound laws.client net sound given.at_rest (laws.rest net sound given.at_rest)
    (holds_now laws.world net sound) server host given.taken given.within
given_stays_sound laws net (line client bytes) sound given =
    line_sound laws.client net sound given.at_rest (laws.rest net sound given.at_rest)
    (holds_now laws.world net sound) client bytes given.taken given.within
given_stays_sound laws net (gone client) sound given =
    gone_sound laws.client net sound given.at_rest (laws.rest net sound given.at_rest)
    (holds_now laws.world net sound) client given.taken
given_stays_sound laws net (link near far) sound given =
    link_item_sound laws.link net sound given.at_rest (laws.rest net sound given.at_rest)
    (holds_now laws.world net sound) near far given.taken
given_stays_sound laws net (cut near far) sound given =
    cut_item_sound laws.cut net sound given.at_rest (laws.rest net sound given.at_rest)
    (holds_now laws.world net sound) near far given.taken
