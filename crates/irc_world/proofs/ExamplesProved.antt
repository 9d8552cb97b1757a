-- The examples, computed.
use Rattle.std.proofs.Common.{refl}
use Rattle.irc_world.specs.Examples.{WhoIsRefused}
use Rattle.irc_world.specs.Refused.{refused}
use Rattle.irc_relay.specs.Links.{part}

pub who_is_refused : WhoIsRefused
unfolding refused part
who_is_refused = record {
  nowhere = refl;
  to_nowhere = refl;
  nobody = refl;
  nobody_left = refl;
  apart = refl;
  to_itself = refl;
  other_password = refl;
  no_peer = refl;
  no_peer_back = refl;
}
