use Rattle.std.proofs.Common.{rules}
use Rattle.irc_numerics.proofs.replies.Visibility.as_bytes.Goals as goal

pub returns-in-Private : goal.returns-in-Private
returns-in-Private c = search rules

pub returns-in-Secret : goal.returns-in-Secret
returns-in-Secret c = search rules
