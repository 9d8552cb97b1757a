use Rattle.std.proofs.Common.{◌∙◌, ap, Some, rules}
use Rattle.irc_link_reader.proofs.ChangesTold.{modes-told}
use Rattle.irc_link_reader.specs.Loops.Readings.{reader}
use Rattle.irc_link_reader.specs.Told.{first_reason, judged}
use Rattle.irc_link_reader.proofs.reading_modes.channel_mode.Goals as goal

pub returns-in-Some : goal.returns-in-Some
returns-in-Some c =
    c.change_modes.ensures
    ∙ ap (λ checked. first_reason (judged (Some c.args.name.now) checked))
    (modes-told (reader c.args.at) c.args.name.now c.args.target.now c.args.params
    c.in-Some.changes c.requires (search rules))
