-- What the code finds in settings, part by part.
use Rattle.std.specs.Prelude.{◌≡◌, ℕ, ⊤, Option, Result, Ok, Err, List, Some, None, Vec, option_map}
use Rattle.std.specs.Prelude.{string_bytes}
use Rattle.std.specs.declared.alloc.Global.{Global}
use Rattle.std.specs.Net.Grammar.{IsSocketText}
use Rattle.std.specs.declared.net.socket_addr.SocketAddr.{SocketAddr}
use Rattle.irc_names.specs.Names.{IsServer}
use Rattle.irc_doorman.specs.declared.asks.Asks.{Asks}
use Rattle.irc_doorman.specs.Passwords.{IsClientPassword}
use Rattle.irc_settings.specs.declared.settings.PeerSettings.{PeerSettings}
use Rattle.irc_settings.specs.declared.settings.Settings.{Settings}
use Rattle.irc_entrance.specs.Ranges.{AreRanges, IsSomeNoRange}
use Rattle.irc_entrance.specs.declared.address_range.AddressRange.{AddressRange}
use Rattle.irc_sockets.specs.declared.calls.Callee.{Callee}
use Rattle.irc_endings.specs.declared.fault.Stop.{Stop}
use Rattle.irc_endings.specs.declared.fault.Stop.TheVariants.{Usage, BadScript, BadConfiguration}
use Rattle.irc_endings.specs.declared.fault.Stop.TheVariants.{Failed}
use Rattle.ircd.specs.Serving.{AreAsksOf, AreCalled, CannotBeAsked, CannotBeCalled, IsAddress}
use Rattle.ircd.specs.Serving.{IsCallee, IsNoAddress, IsSomeUncalled}

-- the address that a text is, or that it is none
abbrev pub FindsAddress : List ℕ → Result SocketAddr Stop → Type 0
FindsAddress text (Ok address) = IsSocketText text address
FindsAddress text (Err stop) = (stop ≡ BadConfiguration) × IsNoAddress text

-- the same of a text that may be left out
abbrev pub FindsOptional : Option (List ℕ) → Result (Option SocketAddr) Stop → Type 0
FindsOptional text (Ok address) = IsAddress text address
FindsOptional (Some written) (Err stop) = (stop ≡ BadConfiguration) × IsNoAddress written
FindsOptional None (Err stop) = ⊥

-- the ranges that texts are; or one is none, or memory ran out
abbrev pub FindsRanges : List (List ℕ) → Result (Vec AddressRange Global) Stop → Type 0
FindsRanges texts (Ok ranges) = AreRanges texts ranges.items
FindsRanges texts (Err BadConfiguration) = IsSomeNoRange texts
FindsRanges texts (Err Failed) = ⊤
FindsRanges texts (Err Usage) = ⊥
FindsRanges texts (Err (BadScript line)) = ⊥

-- the server's name that a text is, or that it is none
abbrev pub FindsName : List ℕ → Result (List ℕ) Stop → Type 0
FindsName text (Ok name) = name ≡ text
FindsName text (Err stop) = (stop ≡ BadConfiguration) × ¬ (IsServer text)

-- what clients are asked, or that the name is no server's, or the password none
abbrev pub FindsAsks : Settings → Result Asks Stop → Type 0
FindsAsks settings (Ok asks) = AreAsksOf settings asks
FindsAsks settings (Err stop) = (stop ≡ BadConfiguration) × CannotBeAsked settings

-- the password that a text is, where there is one, or that it is none
abbrev pub FindsPassword : Option (List ℕ) → Result (Option (List ℕ)) Stop → Type 0
FindsPassword text (Ok password) = password ≡ text
FindsPassword (Some written) (Err stop) = (stop ≡ BadConfiguration) × ¬ (IsClientPassword written)
FindsPassword None (Err stop) = ⊥

-- a peer as one that is called, that it is not to be called, or that it cannot be
abbrev pub FindsCallee : PeerSettings → Result (Option Callee) Stop → Type 0
FindsCallee peer (Ok (Some callee)) = IsCallee peer callee
FindsCallee peer (Ok None) = IsAddress (option_map string_bytes peer.connect) None
FindsCallee peer (Err stop) = (stop ≡ BadConfiguration) × CannotBeCalled peer

-- those peers that are called; or one cannot be called, or memory ran out
abbrev pub FindsCallees : List PeerSettings → Result (Vec Callee Global) Stop → Type 0
FindsCallees peers (Ok callees) = AreCalled peers callees.items
FindsCallees peers (Err BadConfiguration) = IsSomeUncalled peers
FindsCallees peers (Err Failed) = ⊤
FindsCallees peers (Err Usage) = ⊥
FindsCallees peers (Err (BadScript line)) = ⊥
