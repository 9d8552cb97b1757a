use Rattle.irc_net.specs.NetworkViews.{item_of}
use Rattle.tests_networks.proofs.OfRuns.{answers_as_owed, plays_on}
use Rattle.tests_networks.proofs.give.Goals as goal

pub returns-clause-answered : goal.returns-clause-answered
returns-clause-answered c =
    answers_as_owed c.every_network_is_one_room.ensures c.args.net.now c.item.new.self
    (item_of c.args.item) c.item.result c.item.ensures.given
    c.item.ensures.refused

pub returns-clause-played : goal.returns-clause-played
returns-clause-played c =
    plays_on c.args.net.now c.item.new.self (item_of c.args.item) c.item.result c.item.ensures.given
