-- Where a wire of sockets listens.
use Rattle.std.specs.Prelude.{◌≡◌, ◌⊎◌, ⊤, Some, option_map}
use Rattle.std.specs.declared.net.socket_addr.SocketAddr.{SocketAddr}
use Rattle.irc_entrance.specs.Crowds.{limited_to, nobody_open}
use Rattle.irc_turns.specs.Marks.{marks_of}
use Rattle.irc_turns.specs.Naming.{strangers_of}
use Rattle.irc_turns.specs.Numbered.{kept_to}
use Rattle.irc_turns.specs.Registering.{newcomers_of}
use Rattle.irc_sockets.specs.declared.limits.Limits.{Limits}
use Rattle.irc_sockets.specs.declared.door.Door.{Door}
use Rattle.irc_sockets.specs.declared.listen_fault.ListenFault.{ListenFault}
use Rattle.irc_sockets.specs.declared.listen_fault.ListenFault.TheVariants.{Address, Memory, Other}
use Rattle.irc_sockets.specs.declared.listening.Listening.{Listening}
use Rattle.irc_sockets.specs.declared.mio_wire.MioWire.{MioWire}

-- it was asked to listen where this says, for clients, and for links or for none; nobody has come
-- yet, and so many may from one address, and so long without naming itself or becoming a user; by
-- these rooms much waits for somebody; and clients keep to this pace, or to none
pub record ListensAt (listening : Listening) (wire : MioWire) : Type 0 where
  pub clients_at : wire.clients.asked ≡ listening.clients
  pub links_at : option_map (λ (door : Door). door.asked) wire.links ≡ listening.links
  pub limit_is : wire.crowd ≡ nobody_open listening.limits.connections_per_address
  pub unnamed_are : wire.unnamed ≡ nobody_open listening.limits.links_per_address
  pub strangers_are : wire.strangers ≡ strangers_of listening.name_within
  pub newcomers_are : wire.newcomers ≡ newcomers_of listening.register_within
  pub marks_are :
      wire.sockets.talkers.marks ≡ marks_of listening.client_room listening.link_room
  pub pace_is : wire.sockets.talkers.pace ≡ listening.limits.pace
  pub deny_is : wire.entrance.deny ≡ listening.limits.deny
  pub proxies_are : wire.entrance.proxies ≡ listening.limits.proxies

-- from now on this is who comes in, and how much of each is taken; nothing else has changed but
-- who counts as open from an address
pub record IsLimited (limits : Limits) (old new : MioWire) : Type 0 where
  pub most_is : new.crowd.most ≡ limits.connections_per_address
  pub same : new ≡ record old {
    crowd = new.crowd;
    unnamed = limited_to limits.links_per_address old.unnamed;
    entrance = record { deny = limits.deny; proxies = limits.proxies };
    sockets =
        record old.sockets { talkers = kept_to limits.pace old.sockets.talkers };
  }

-- it cannot listen at this address
abbrev pub IsFaultAt : SocketAddr → ListenFault → Type 0
IsFaultAt address (Address told error) = told ≡ address
IsFaultAt address (Other error) = ⊥
IsFaultAt address Memory = ⊥

-- it cannot listen at an address of these, or lacks something else
abbrev pub IsFaultOf : Listening → ListenFault → Type 0
IsFaultOf listening (Address told error) =
    (told ≡ listening.clients) ⊎ (listening.links ≡ Some told)
IsFaultOf listening (Other error) = ⊤
IsFaultOf listening Memory = ⊤
