-- A history as it is kept.
use Rattle.irc_network.specs.declared.kept.Kept.{Kept}
use Rattle.irc_network.specs.Histories.{Past}
use Rattle.irc_network.specs.Views.{items_of}

abbrev pub kept_past : Kept → Past
kept_past kept = record { items = items_of kept.items.items; received = kept.received.items }
