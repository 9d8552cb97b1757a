use Rattle.std.proofs.Common.{◌∙◌, sym}
use Rattle.irc_entrance.specs.Proxying.{wants, tells}
use Rattle.irc_entrance.proofs.ProxyHeaders.{line_named, no_line, none_left}
use Rattle.irc_entrance.proofs.proxy_line.read_line.Goals as goal

pub returns-then-more-gt0 : goal.returns-then-more-gt0
returns-then-more-gt0 c = wants c.more_of_line-more.ensures c.if-more-gt0.true

pub returns-then-not-is_line : goal.returns-then-not-is_line
returns-then-not-is_line c =
    tells (none_left c.more_of_line-more.ensures c.if-more-gt0.false)
    (no_line (sym c.is_line.ensures ∙ c.if-not-is_line.true))

pub returns : goal.returns
returns c =
    tells (none_left c.more_of_line-more.ensures c.if-more-gt0.false)
    (line_named _ c.named.result (sym c.is_line.ensures ∙ c.if-not-is_line.false) c.named.ensures)
