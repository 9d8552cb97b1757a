use Rattle.std.proofs.Common.{◌∙◌, ap}
use Rattle.irc_pipes.specs.Pipes.{LinkPipe, through_line_feed}
use Rattle.irc_pipes.proofs.Coming.{feed_of_all}
use Rattle.irc_pipes.proofs.pipe.LinkPipe.through_line_feed.Goals as goal

pub returns : goal.returns
returns c =
    c.through_first_feed.ensures
    ∙ ap through_line_feed c.rest_of_oldest.ensures.value
    ∙ feed_of_all c.self.inside.come c.self.inside.texts c.self.inside.framer c.self.invariant
    ∙ ap (λ (w : LinkPipe). through_line_feed w.bytes) c.self.view_is
