use Rattle.std.proofs.Common.{◌∙◌, sym}
use Rattle.irc_line.specs.Framed.{bytes_of}
use Rattle.irc_pipes.proofs.Taking.{all_come, lines_then, more_come, pipe_then}
use Rattle.irc_pipes.proofs.pipe.LinkPipe.take.Goals as goal

pub loop-taken-preserved : goal.loop-taken-preserved
loop-taken-preserved c =
    more_come c.pieces_complete_the_same.ensures.pieces c.args.self.now c.is_of_some_stream.ensures
    c.args.count c.loop-taken.taken c.take_part-used.result.0
    c.loop-taken.self c.take_part-used.new.self (bytes_of c.args.lines.now.items)
    (bytes_of c.loop-taken.lines.items) (bytes_of c.push_found.new.lines.items) _
    c.loop-taken.invariant c.take_part-used.ensures.at_most c.take_part-used.ensures.within
    c.take_part-used.ensures.pipe c.take_part-used.ensures.lines
    c.in_ok-push_found.ensures

pub returns-else-has_byte-clause-taken : goal.returns-else-has_byte-clause-taken
returns-else-has_byte-clause-taken c =
    all_come _ _ _ _ _ _ c.loop-taken.invariant (sym c.has_byte.ensures ∙ c.if-has_byte.false)

pub returns-else-has_byte-clause-pipe : goal.returns-else-has_byte-clause-pipe
returns-else-has_byte-clause-pipe c =
    pipe_then _ _ _ _ _ _ c.loop-taken.invariant (sym c.has_byte.ensures ∙ c.if-has_byte.false)

pub returns-else-has_byte-clause-lines : goal.returns-else-has_byte-clause-lines
returns-else-has_byte-clause-lines c =
    lines_then _ _ _ _ _ _ c.loop-taken.invariant (sym c.has_byte.ensures ∙ c.if-has_byte.false)
