use Rattle.std.proofs.Common.{refl}
use Rattle.ircd.proofs.rereading.change_of.Goals as goal

pub returns-clause-read : goal.returns-clause-read
returns-clause-read g c = record {
  setup = c.in_ok-setup.setup;
  is_set_up = c.in_ok-setup.ensures.set_up;
  limits_are = refl;
  has_motd = c.in_ok-motd.ensures.has;
}
