use Rattle.std.proofs.Common.{◌≡◌, ◌<◌, ◌∙◌, Some, ap, length, subst, sym}
use Rattle.irc_forest.specs.Forests.{name_at}
use Rattle.irc_network.specs.Network.{node_at}
use Rattle.irc_network.proofs.Parties.{is_party}
use Rattle.irc_network.proofs.network.Network.party.Goals as goal

pub returns : goal.returns
returns g c =
    let net = c.args.self.now.network in
    let same = sym c.index.ensures in
    is_party net (record {
      name = c.args.name;
      place = c.index.result;
      node = c.in_ok-node.node;
      room = c.in_ok-room.room;
    })
    c.place_of.result c.node_at.result c.room.result
    c.place_of.ensures.value (c.in_ok-place.was ∙ ap Some same)
    (subst (λ place. place < length net.names) same c.in_ok-place.ensures.within)
    (subst (λ place. name_at net.names place ≡ c.args.name.now) same c.in_ok-place.ensures.named)
    (c.node_at.ensures ∙ ap (node_at net) same) c.in_ok-node.was c.room.ensures c.in_ok-room.was
