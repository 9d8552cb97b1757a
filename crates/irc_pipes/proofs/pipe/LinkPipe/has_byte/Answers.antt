use Rattle.std.proofs.Common.{◌∙◌, ap, not, sym}
use Rattle.irc_pipes.specs.Pipes.{has_byte}
use Rattle.irc_pipes.proofs.Texts.{none_is}
use Rattle.irc_pipes.proofs.pipe.LinkPipe.has_byte.Goals as goal

pub returns : goal.returns
returns c =
    ap not (c.is_empty.ensures
    ∙ sym (none_is c.self.inside.come c.self.inside.texts c.self.invariant.part))
    ∙ ap has_byte c.self.view_is
