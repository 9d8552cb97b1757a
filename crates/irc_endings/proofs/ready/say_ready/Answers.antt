use Rattle.irc_endings.specs.Ready.{ready_text}
use Rattle.irc_endings.proofs.ReadySaid.{held_front, held_whole}
use Rattle.irc_endings.proofs.ready.say_ready.Goals as goal

pub returns-clause-whole : goal.returns-clause-whole
returns-clause-whole g c =
    held_whole c.flush.result _ _ _ ready_text c.in_ok-write_whole.ensures.whole c.flush.ensures

pub returns-clause-front : goal.returns-clause-front
returns-clause-front g c =
    held_front _ _ _ ready_text c.in_ok-write_whole.ensures.whole c.flush.ensures
