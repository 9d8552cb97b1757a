use Rattle.irc_effects.specs.Lemmas.RespelledRooms.{respelled_is_well_formed}
use Rattle.irc_effects.specs.Lemmas.RespelledRooms.{respelled_is_within_limits, one_row_respelled}
use Rattle.irc_effects.specs.Lemmas.RespelledRooms.{all_else_stays, respelled_once}
use Rattle.irc_effects.proofs.laws.one_name_is_respelled.Goals as goal

pub returns-clause-well_formed : goal.returns-clause-well_formed
returns-clause-well_formed c = respelled_is_well_formed

pub returns-clause-limits : goal.returns-clause-limits
returns-clause-limits c = respelled_is_within_limits

pub returns-clause-row : goal.returns-clause-row
returns-clause-row c = one_row_respelled

pub returns-clause-all_else : goal.returns-clause-all_else
returns-clause-all_else c = all_else_stays

pub returns-clause-once : goal.returns-clause-once
returns-clause-once c = respelled_once
