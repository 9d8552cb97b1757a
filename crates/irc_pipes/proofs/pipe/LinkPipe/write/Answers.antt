use Rattle.irc_pipes.proofs.Texts.{kept_behind}
use Rattle.irc_pipes.proofs.pipe.LinkPipe.write.Goals as goal

pub invariant_of-self : goal.invariant_of-self
invariant_of-self c = kept_behind _ _ _ _ _ c.args.line.now _ c.self.invariant c.ended.ensures
    c.push_back.ensures.items
