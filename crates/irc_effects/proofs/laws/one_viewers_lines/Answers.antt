use Rattle.irc_effects.specs.Lemmas.OneViewer.{one_viewers_lines}
use Rattle.irc_effects.proofs.laws.one_viewers_lines.Goals as goal

pub returns : goal.returns
returns c = one_viewers_lines
