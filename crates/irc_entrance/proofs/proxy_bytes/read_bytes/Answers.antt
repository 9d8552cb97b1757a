use Rattle.std.proofs.Common.{◌∙◌, sym, true≢false}
use Rattle.irc_entrance.specs.Proxying.{wants, tells}
use Rattle.irc_entrance.proofs.ProxyHeaders.{none_left}
use Rattle.irc_entrance.proofs.proxy_bytes.read_bytes.Goals as goal

pub returns-then-more-gt0 : goal.returns-then-more-gt0
returns-then-more-gt0 c = wants c.more_of_bytes-more.ensures c.if-more-gt0.true

pub returns-then-is_whole : goal.returns-then-is_whole
returns-then-is_whole c =
    tells (none_left c.more_of_bytes-more.ensures c.if-more-gt0.false) c.named.ensures

pub returns-else-is_whole : goal.returns-else-is_whole
returns-else-is_whole c =
    tells (none_left c.more_of_bytes-more.ensures c.if-more-gt0.false)
    (λ named is. true≢false (sym is.is_whole ∙ sym c.is_whole.ensures ∙ c.if-is_whole.false))
