use Rattle.std.proofs.Common.{◌∙◌, ◌++◌, [], ap, append-nil, codes}
use Rattle.irc_line.specs.Messages.{text}
use Rattle.irc_door.specs.MessagesOfTheDay.{reply_to, told_of}
use Rattle.irc_door.proofs.CutTexts.{text-cut}
use Rattle.irc_door.proofs.telling.line_told.Goals as goal

pub returns : goal.returns
returns c =
    let told = told_of c.args.hearer.now in
    c.numbered.ensures
    ∙ ap (λ last. text (reply_to told (codes "372") last))
    (c.as_slice.ensures.value ∙ c.behind_dash-words.ensures)
    ∙ text-cut told (codes "372") (codes "- " ++ (c.args.line.now ++ []))
    ∙ ap (λ line. text (reply_to told (codes "372") (codes "- " ++ line)))
    (append-nil c.args.line.now)
