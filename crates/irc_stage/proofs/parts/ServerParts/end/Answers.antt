use Rattle.std.proofs.Common.{sym, ◌∙◌}
use Rattle.irc_stage.specs.Lemmas.Numbers.{get-numbered}
use Rattle.irc_stage.proofs.parts.ServerParts.end.Goals as goal

pub returns : goal.returns
returns c = c.get.ensures.value ∙ sym (get-numbered c.args.self.now.ends c.args.link)
