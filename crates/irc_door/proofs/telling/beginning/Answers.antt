use Rattle.std.proofs.Common.{◌∙◌, ◌++◌, ap, codes}
use Rattle.irc_line.specs.Messages.{text}
use Rattle.irc_door.specs.MessagesOfTheDay.{reply_to, told_of}
use Rattle.irc_door.proofs.CutTexts.{text-cut}
use Rattle.irc_door.proofs.telling.beginning.Goals as goal

pub returns : goal.returns
returns c =
    let told = told_of c.args.hearer.now in
    c.numbered.ensures
    ∙ ap (λ last. text (reply_to told (codes "375") last))
    (c.as_slice.ensures.value ∙ c.behind_dash-words.ensures)
    ∙ text-cut told (codes "375") (codes "- " ++ (told.server ++ codes " Message of the day - "))
