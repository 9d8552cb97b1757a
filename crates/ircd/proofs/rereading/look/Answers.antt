use Rattle.std.proofs.Common.{refl}
use Rattle.irc_journal.specs.declared.rereading.Rereading.TheVariants.{Stuck}
use Rattle.ircd.specs.Serving.{unasked, unread}
use Rattle.ircd.proofs.rereading.look.Goals as goal

pub returns-then-not-unwrap_or : goal.returns-then-not-unwrap_or
returns-then-not-unwrap_or g c = unasked

pub returns-then-is_ok : goal.returns-then-is_ok
returns-then-is_ok g c = c.read_again.ensures

pub returns-then-not-replace : goal.returns-then-not-replace
returns-then-not-replace g c = unread Stuck _ refl c.say_rereading.ensures

pub returns-else-not-replace : goal.returns-else-not-replace
returns-else-not-replace g c = unasked
