use Rattle.std.proofs.Common.{◌∙◌}
use Rattle.ircd.proofs.ClosedLines.{said_front, said_nothing}
use Rattle.ircd.proofs.closed_door.say_closed.Goals as goal

pub returns-in_default : goal.returns-in_default
returns-in_default g c = said_nothing c.args.address _

pub returns : goal.returns
returns g c =
    said_front c.args.address _ c.error_words.result.items c.as_slice.result.now
    c.write-lost.result _ _ c.in-Some.ensures (c.as_slice.ensures.value
    ∙ c.closed_line-line.ensures)
    c.write-lost.ensures.bytes
