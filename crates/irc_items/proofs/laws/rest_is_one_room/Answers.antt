use Rattle.irc_items.proofs.Common.AtRest.{rest_is_one_room}
use Rattle.irc_items.proofs.laws.rest_is_one_room.Goals as goal
use Rattle.irc_relay.specs.Lemmas.Deliveries.{comes_in_turn}
use Rattle.irc_relay.specs.Lemmas.StreamsFlow.{covers_flows}
use Rattle.irc_relay.specs.Lemmas.DeliveryRuns.{rest_final, rest_told}
use Rattle.irc_relay.specs.Relay.{streams_from}

pub returns : goal.returns
returns c = rest_is_one_room (record {
  at_rest = record {
    quiet = c.rest_stays.ensures;
    in_turn = λ m links source net t forest covers. comes_in_turn m links
        (streams_from links source) net t (covers_flows links source forest covers);
  };
  world = c.taken_make_world.ensures;
  side = c.side_at_rest_is_sound.ensures;
  final = λ m streams net u rest. (rest_final m streams net u rest, rest_told m streams net u rest);
})
