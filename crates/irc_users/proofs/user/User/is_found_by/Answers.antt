use Rattle.std.proofs.Common.{rules}
use Rattle.irc_users.proofs.user.User.is_found_by.Goals as goal

pub returns-else-mask_matches-3 : goal.returns-else-mask_matches-3
returns-else-mask_matches-3 c = search rules
