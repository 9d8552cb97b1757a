-- What comes of a line before registration, without where its steps lie in memory.
use Rattle.std.specs.Prelude.{◌≡◌, List}
use Rattle.std.specs.Global.{Vec}
use Rattle.irc_acts.specs.declared.act.Act.{Act}
use Rattle.irc_commands.specs.declared.pending.Registration.{Registration}
use Rattle.irc_commands.specs.Register.{Registered}

abbrev pub registered_of : Registration → Registered
registered_of r = record {
  pending = r.pending;
  steps = r.steps.items;
  registered = r.registered;
  close = r.close;
}

-- These are the steps.
abbrev pub AreDecided : List Act → Vec Act → Type 0
AreDecided want steps = steps.items ≡ want
