use Rattle.std.proofs.Common.{◌∙◌, ap}
use Rattle.irc_line.specs.Messages.{text}
use Rattle.irc_doorman.specs.Texts.{lacking}
use Rattle.irc_doorman.proofs.texts.lacking_text.Goals as goal

pub returns : goal.returns
returns c = c.reply.ensures ∙ ap (λ server. text (lacking server)) c.as_bytes.ensures.value
