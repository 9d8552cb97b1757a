use Rattle.irc_secrets.proofs.SeenSo.{are_seen_so}
use Rattle.irc_secrets.proofs.laws.all_is_seen_so.Goals as goal

pub returns : goal.returns
returns c = are_seen_so c.one_viewers_lines.ensures
