use Rattle.irc_own_order.specs.Lemmas.InTurn.{room_is_of_effects}
use Rattle.irc_own_order.proofs.laws.room_is_of_effects.Goals as goal

pub returns : goal.returns
returns c = room_is_of_effects
