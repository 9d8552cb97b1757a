use Rattle.irc_layer.specs.Ends.{end_at}
use Rattle.irc_layer.proofs.Following.{ends_if_ok, nothing_there, outs_if_ok}
use Rattle.irc_layer.proofs.putting.put_all.Goals as goal

pub returns-then-is_empty-clause-outs : goal.returns-then-is_empty-clause-outs
returns-then-is_empty-clause-outs c =
    outs_if_ok c.args.cause c.args.held.now.outs (end_at c.args.ends.now)
    (nothing_there c.args.ends.now (c.is_empty.ensures.0 c.if-is_empty.true)) c.append.result
    c.append.new.self.outs c.args.out.now.outs c.append.ensures.ok

pub returns-then-is_empty-clause-ends : goal.returns-then-is_empty-clause-ends
returns-then-is_empty-clause-ends c =
    ends_if_ok c.args.cause c.args.held.now.outs (end_at c.args.ends.now)
    (nothing_there c.args.ends.now (c.is_empty.ensures.0 c.if-is_empty.true)) c.append.result
