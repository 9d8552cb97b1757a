use Rattle.irc_follow.specs.Lemmas.SaidEffectToldOn.{said_effect_goes_on}
use Rattle.irc_follow.proofs.laws.said_effect_goes_on.Goals as goal

pub returns : goal.returns
returns c = said_effect_goes_on c.each_is_read_back.ensures
