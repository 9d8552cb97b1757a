use Rattle.irc_endings.proofs.ending.stop_with.Goals as goal

pub returns-clause-tells : goal.returns-clause-tells
returns-clause-tells g c = c.tell.ensures.front
