pub use Rattle.irc_network.specs.ByteNetwork
pub use Rattle.irc_network.specs.Turns
pub use Rattle.irc_network.specs.Whole
pub use Rattle.irc_network.specs.Network
pub use Rattle.irc_network.specs.Views as NetworkViews
pub use Rattle.irc_network.specs.Refusing
pub use Rattle.irc_network.specs.Laws as NetworkLaws
pub use Rattle.irc_network.specs.declared.receipt
pub use Rattle.irc_items.specs.Sound
pub use Rattle.irc_items.specs.SetUp
pub use Rattle.irc_items.specs.OneRoom as RoomsAtRest
pub use Rattle.irc_items.specs.Laws as ItemLaws
pub use Rattle.irc_items.specs.Lemmas as ItemLemmas
pub use Rattle.irc_world.specs.Owed
pub use Rattle.irc_world.specs.Stepping
pub use Rattle.irc_world.specs.Refused
pub use Rattle.irc_world.specs.World
pub use Rattle.irc_world.specs.WithinLimits
pub use Rattle.irc_relay.specs.Links
pub use Rattle.irc_relay.specs.Relay
pub use Rattle.irc_server.specs.declared.config
pub use Rattle.irc_stage.specs.View
pub use Rattle.irc_stage.specs.declared.peer
pub mod Views
pub mod Faults
pub mod Calls
pub mod Making
pub mod Loops
pub mod OneRoom
pub mod Running
pub mod Played
pub mod Laws
