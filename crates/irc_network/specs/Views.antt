-- What the code's items, receipts and refusals say.
use Rattle.std.specs.Prelude.{ℕ, List, map}
use Rattle.arrayvec.specs.ArrayVec.{ArrayVec}
use Rattle.irc_world.specs.Refused.{Refusal, link_refused, no_such_client, no_such_server}
use Rattle.irc_world.specs.Refused.{not_linked}
use Rattle.irc_world.specs.Stepping.{Item, connect, line, gone, link, cut}
use Rattle.irc_network.specs.declared.receipt.Receipt.{Receipt as KeptReceipt}
use Rattle.irc_network.specs.declared.refusal.Refusal.{Refusal as GivenRefusal}
use Rattle.irc_network.specs.declared.refusal.Refusal.TheVariants.{NoSuchServer, NoSuchClient}
use Rattle.irc_network.specs.declared.refusal.Refusal.TheVariants.{NotLinked, LinkRefused}
use Rattle.irc_network.specs.declared.item.Item.{Item as GivenItem}
use Rattle.irc_network.specs.declared.item.Item.TheVariants.{Connect, Line, Gone, Link, Cut}
use Rattle.irc_network.specs.Network.{Receipt, receipt}

-- an item as it was given
abbrev pub item_of : GivenItem → Item
item_of (Connect server host) = connect server host
item_of (Line client bytes) = line client bytes.items
item_of (Gone client) = gone client
item_of (Link near far) = link near far
item_of (Cut near far) = cut near far

abbrev pub items_of : List GivenItem → List Item
items_of = map item_of

-- a receipt as it is handed out
abbrev pub receipt_of : KeptReceipt → Receipt
receipt_of kept = receipt kept.client kept.text.items

-- several, in the same order
abbrev pub receipts_of : List KeptReceipt → List Receipt
receipts_of = map receipt_of

abbrev pub refusal_of : GivenRefusal → Refusal
refusal_of NoSuchServer = no_such_server
refusal_of NoSuchClient = no_such_client
refusal_of NotLinked = not_linked
refusal_of LinkRefused = link_refused

-- a line is its bytes, whatever holds them
abbrev pub line_bytes : ArrayVec ℕ → List ℕ
line_bytes held = held.items
