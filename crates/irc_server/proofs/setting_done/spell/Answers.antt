use Rattle.std.proofs.Common.{◌∙◌, ap, sym}
use Rattle.irc_server.specs.LinesThatSet.{spelled_by}
use Rattle.irc_server.proofs.setting_done.spell.Goals as goal

pub returns-in-Spelling : goal.returns-in-Spelling
returns-in-Spelling c =
    c.respell.ensures ∙ ap (λ what. spelled_by what c.args.serving) (sym c.in-Spelling.is)
