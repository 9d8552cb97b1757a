use Rattle.irc_effects.specs.Lemmas.ViewerLaws.{each_viewer_once}
use Rattle.irc_effects.proofs.laws.each_viewer_once.Goals as goal

pub returns : goal.returns
returns c = each_viewer_once
