use Rattle.std.proofs.Common.{◌∙◌, ap, codes, sym, if◌then◌else◌}
use Rattle.irc_line.specs.Messages.{text}
use Rattle.irc_door.specs.Capabilities.{cap_fault}
use Rattle.irc_door.specs.MessagesOfTheDay.{told_of}
use Rattle.irc_door.proofs.capabilities.cap_other.Goals as goal

pub returns-then-is_empty : goal.returns-then-is_empty
returns-then-is_empty c =
    let told = told_of c.args.hearer.now in
    c.said_to.ensures ∙ ap (λ empty. text (if empty
    then cap_fault told (codes "461") (codes "CAP") (codes "Not enough parameters")
    else cap_fault told (codes "410") c.args.word.now (codes "Invalid CAP command")))
    (sym c.if-is_empty.true ∙ c.is_empty.ensures)
