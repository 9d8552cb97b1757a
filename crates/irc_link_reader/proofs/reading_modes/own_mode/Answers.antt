use Rattle.std.proofs.Common.{◌∙◌, ap, sym, Some}
use Rattle.irc_link_reader.proofs.ChangesTold.{for_user}
use Rattle.irc_link_reader.proofs.RowsTold.{own_told}
use Rattle.irc_link_reader.specs.Loops.Readings.{reader}
use Rattle.irc_link_reader.specs.Told.{first_reason, judged}
use Rattle.irc_link_reader.proofs.reading_modes.own_mode.Goals as goal

pub returns : goal.returns
returns c =
    own_told (reader c.args.at) c.args.name.now c.args.target.now c.args.params
    c.user_mode_line.result c.done.result c.user_mode_line.ensures c.done.ensures
    ∙ ap (λ checked. first_reason (judged (Some c.args.name.now) checked))
    (sym (for_user (reader c.args.at) c.args.name.now c.args.target.now c.args.params c.requires))
