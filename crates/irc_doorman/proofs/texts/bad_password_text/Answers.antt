use Rattle.std.proofs.Common.{◌∙◌, ap}
use Rattle.irc_line.specs.Messages.{text}
use Rattle.irc_doorman.specs.Texts.{bad_password}
use Rattle.irc_doorman.proofs.texts.bad_password_text.Goals as goal

pub returns : goal.returns
returns c = c.reply.ensures ∙ ap (λ server. text (bad_password server)) c.as_bytes.ensures.value
