use Rattle.std.proofs.Common.{◌≤◌, ◌∙◌, ap, subst, take, length}
use Rattle.irc_pipes.specs.Pipes.{LinkPipe, advanced, lines_by}
use Rattle.irc_pipes.proofs.Coming.{part_advanced, part_found, used_within}
use Rattle.irc_pipes.proofs.pipe.LinkPipe.take_part.Goals as goal

pub returns-clause-within : goal.returns-clause-within
returns-clause-within c =
    subst (λ (w : LinkPipe). c.take-used.result.0 ≤ length w.bytes) c.self.view_is
    (used_within c.self.inside.come c.take-used.result.0 c.args.most c.self.inside.texts
    c.first_bytes-piece.result.now c.self.invariant.part
    (c.first_bytes-piece.ensures.value
    ∙ ap (take c.args.most) c.rest_of_oldest.ensures.value) c.take-used.ensures.used)

pub returns-clause-pipe : goal.returns-clause-pipe
returns-clause-pipe c =
    part_advanced c.pieces_complete_the_same.ensures.pieces c.self.inside.come c.take-used.result.0
    c.args.most c.self.inside.texts
    c.first_bytes-piece.result.now c.self.inside.framer c.take-used.new.self _ c.self.invariant
    (c.first_bytes-piece.ensures.value ∙ ap (take c.args.most) c.rest_of_oldest.ensures.value)
    c.take-used.ensures.used c.take-used.ensures.takes _
    c.without_come-self-inside.ensures.bytes
    ∙ ap (advanced c.take-used.result.0) c.self.view_is

pub returns-clause-lines : goal.returns-clause-lines
returns-clause-lines c =
    part_found c.pieces_complete_the_same.ensures.pieces c.self.inside.come c.take-used.result.0
    c.args.most c.self.inside.texts
    c.first_bytes-piece.result.now c.self.inside.framer c.take-used.new.self _ c.self.invariant
    (c.first_bytes-piece.ensures.value ∙ ap (take c.args.most) c.rest_of_oldest.ensures.value)
    c.take-used.ensures.used c.take-used.ensures.takes
    ∙ ap (lines_by c.take-used.result.0) c.self.view_is
