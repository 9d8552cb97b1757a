use Rattle.std.proofs.Common.{rules}
use Rattle.irc_line.specs.MessageViews.{parsed}
use Rattle.irc_burst.proofs.EffectsRead.{effects-read, effects-want, servers-read, servers-want}
use Rattle.irc_burst.proofs.reading.read_line.Goals as goal

pub returns-in-Some-OfEffects-clause-meant : goal.returns-in-Some-OfEffects-clause-meant
returns-in-Some-OfEffects-clause-meant c =
    effects-read c.args.at
    (parsed c.args.message.now) c.in-Some-OfEffects.command c.effect_line.result
    (search rules) c.effect_line.ensures.meant

pub returns-in-Some-OfEffects-clause-memory : goal.returns-in-Some-OfEffects-clause-memory
returns-in-Some-OfEffects-clause-memory c =
    effects-want c.args.at
    (parsed c.args.message.now) c.in-Some-OfEffects.command c.effect_line.result
    (search rules) c.effect_line.ensures.memory

pub returns-in-Some-OfServers-clause-meant : goal.returns-in-Some-OfServers-clause-meant
returns-in-Some-OfServers-clause-meant c =
    servers-read c.args.at
    (parsed c.args.message.now) c.in-Some-OfServers.command c.server_deeds.result
    (search rules) c.server_deeds.ensures.meant

pub returns-in-Some-OfServers-clause-memory : goal.returns-in-Some-OfServers-clause-memory
returns-in-Some-OfServers-clause-memory c =
    servers-want c.args.at
    (parsed c.args.message.now) c.in-Some-OfServers.command c.server_deeds.result
    (search rules) c.server_deeds.ensures.memory
