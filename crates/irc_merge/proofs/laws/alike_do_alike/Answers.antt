use Rattle.irc_merge.specs.Lemmas.DeedsAlike.{alike_do_alike}
use Rattle.irc_merge.proofs.laws.alike_do_alike.Goals as goal

pub returns : goal.returns
returns c =
    alike_do_alike c.alike_stay_alike.ensures c.alike_take_alike.ensures c.alike_have_alike.ensures
