-- What is new, as a history that is not kept takes it.
use Rattle.irc_network.specs.declared.forgotten.HistoryEntry.{HistoryEntry}
use Rattle.irc_network.specs.declared.forgotten.HistoryEntry.TheVariants.{Given, Newcomer, Received}
use Rattle.irc_network.specs.Histories.{Past, with_item, with_line, with_newcomer}
use Rattle.irc_network.specs.Views.{item_of}

abbrev pub noted : HistoryEntry → Past → Past
noted (Given item) past = with_item (item_of item.now) past
noted Newcomer past = with_newcomer past
noted (Received earlier text) past = with_line earlier text.now past
