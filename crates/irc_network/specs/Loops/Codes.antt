-- How the parts of a network are stored.
use Rattle.std.specs.Prelude.{◌≡◌, ◌⊎◌, ℕ, List, refl}
use Rattle.std.proofs.Common.{inl, inr}
use Rattle.std.specs.Coded.{Coded, code_by, coded×, coded⊎, coded_ℕ, coded_list}
use Rattle.irc_relay.specs.Links.{Name, Link}
use Rattle.irc_network.specs.Loops.NodeCodes.{text_code}
use Rattle.irc_network.specs.contracts.node.Node.{the_row as node_row}
use Rattle.irc_world.specs.Stepping.{Item, connect, line, gone, link, cut}
use Rattle.irc_network.specs.Histories.{Past}
use Rattle.irc_network.specs.Network.{Network, Node}
use Rattle.irc_network.specs.ByteNetwork.{ByteNetwork}
use Rattle.irc_pipes.specs.Pipes.{Pipes}
use Rattle.irc_pipes.specs.contracts.pipes.Pipes.{the_row as pipes_row}

abbrev pub link_code : Coded Link
link_code = code_by (Name × Name) (coded× text_code text_code) (λ l. (l.near, l.far))
    (λ p. record { near = p.0; far = p.1 }) (λ _. refl)

-- an item, by its kinds in turn
abbrev pub ItemParts : Type 0
ItemParts = (List ℕ × List ℕ) ⊎ ((ℕ × List ℕ) ⊎ (ℕ ⊎ ((List ℕ × List ℕ) ⊎ (List ℕ × List ℕ))))

abbrev pub item_parts : Item → ItemParts
item_parts (connect server host) = inl (server, host)
item_parts (line client bytes) = inr (inl (client, bytes))
item_parts (gone client) = inr (inr (inl client))
item_parts (link near far) = inr (inr (inr (inl (near, far))))
item_parts (cut near far) = inr (inr (inr (inr (near, far))))

abbrev pub item_made : ItemParts → Item
item_made (inl p) = connect p.0 p.1
item_made (inr (inl p)) = line p.0 p.1
item_made (inr (inr (inl client))) = gone client
item_made (inr (inr (inr (inl p)))) = link p.0 p.1
item_made (inr (inr (inr (inr p)))) = cut p.0 p.1

pub made_of_parts : (item : Item) → item_made (item_parts item) ≡ item
made_of_parts (connect server host) = refl
made_of_parts (line client bytes) = refl
made_of_parts (gone client) = refl
made_of_parts (link near far) = refl
made_of_parts (cut near far) = refl

abbrev pub names_code : Coded (List ℕ × List ℕ)
names_code = coded× text_code text_code

abbrev pub item_code : Coded Item
item_code =
    code_by ItemParts (coded⊎ names_code (coded⊎ (coded× coded_ℕ text_code)
    (coded⊎ coded_ℕ (coded⊎ names_code names_code)))) item_parts item_made
    made_of_parts

abbrev pub past_code : Coded Past
past_code =
    code_by (List Item × List (List (List ℕ)))
    (coded× (coded_list item_code) (coded_list (coded_list text_code)))
    (λ p. (p.items, p.received)) (λ p. record { items = p.0; received = p.1 }) (λ _. refl)

abbrev pub network_code : Coded Network
network_code =
    code_by (List Name
    × (List Node × (List Link × (List Name × (List (List (List ℕ)) × (List Item × ℕ))))))
    (coded× (coded_list text_code) (coded× (coded_list node_row.coded)
    (coded× (coded_list link_code) (coded× (coded_list text_code)
    (coded× (coded_list (coded_list text_code)) (coded× (coded_list item_code) coded_ℕ))))))
    (λ n. (n.names, (n.nodes, (n.links, (n.homes, (n.received, (n.items, n.taken)))))))
    (λ p. record {
      names = p.0;
      nodes = p.1.0;
      links = p.1.1.0;
      homes = p.1.1.1.0;
      received = p.1.1.1.1.0;
      items = p.1.1.1.1.1.0;
      taken = p.1.1.1.1.1.1;
    })
    (λ _. refl)

abbrev pub byte_network_code : Coded ByteNetwork
byte_network_code =
    code_by (Network × Pipes) (coded× network_code pipes_row.coded) (λ n. (n.network, n.pipes))
    (λ p. record { network = p.0; pipes = p.1 }) (λ _. refl)
