use Rattle.std.proofs.Common.{◌∙◌}
use Rattle.ircd.proofs.run_words.Goals as goal

pub returns : goal.returns
returns c = (c.run_given.ensures.0, c.from.ensures ∙ c.run_given.ensures.1)
