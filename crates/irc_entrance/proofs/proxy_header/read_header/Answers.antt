use Rattle.std.proofs.Common.{◌∙◌, sym}
use Rattle.irc_entrance.proofs.ProxyHeaders.{no_kind}
use Rattle.irc_entrance.proofs.proxy_header.read_header.Goals as goal

pub returns-in-Neither : goal.returns-in-Neither
returns-in-Neither c = no_kind c.args.bytes.now _ (sym c.kind.ensures ∙ c.in-Neither.is)
