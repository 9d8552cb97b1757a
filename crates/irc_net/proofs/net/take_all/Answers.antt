use Rattle.std.proofs.Common.{subst}
use Rattle.irc_network.specs.Loops.Coming.{progress_of}
use Rattle.irc_network.specs.Turns.{ComesToLine}
use Rattle.irc_net.proofs.Settling.{counted_fewer, counted_kept, lines_counted, none_counted}
use Rattle.irc_net.proofs.Settling.{settles_at}
use Rattle.irc_net.proofs.net.take_all.Goals as goal

pub loop-lines-init : goal.loop-lines-init
loop-lines-init g c = none_counted _

pub come_to_line-requires : goal.come_to_line-requires
come_to_line-requires g c =
    record {
      tidy = (counted_kept (record {
        delivered = c.delivery_keeps_sound.ensures;
        waiting = c.waiting_are_lines.ensures;
        turns = c.turn_as_lines.ensures;
      }) (progress_of c.loop-lines.network c.loop-lines.output.lines.items) c.loop-lines.count
          c.requires.sound c.loop-lines.invariant).whole.tidy;
    }

pub loop-lines-preserved : goal.loop-lines-preserved
loop-lines-preserved g c =
    lines_counted (progress_of c.loop-lines.network c.loop-lines.output.lines.items)
    (progress_of c.come_to_line.new.self c.come_to_line.new.output.lines.items)
    c.loop-lines.count c.in-Some.lines c.saturating_add-count.result c.loop-lines.invariant
    (subst (λ lines. ComesToLine lines
    (progress_of c.loop-lines.network c.loop-lines.output.lines.items)
    (progress_of c.come_to_line.new.self c.come_to_line.new.output.lines.items))
    c.in-Some.is c.in_ok-lines.ensures) c.saturating_add-count.ensures

pub loop-lines-smaller : goal.loop-lines-smaller
loop-lines-smaller g c =
    counted_fewer (record {
      delivered = c.delivery_keeps_sound.ensures;
      waiting = c.waiting_are_lines.ensures;
      turns = c.turn_as_lines.ensures;
    }) c.turn_leaves_fewer.ensures
    (progress_of c.loop-lines.network c.loop-lines.output.lines.items)
    (progress_of c.come_to_line.new.self c.come_to_line.new.output.lines.items) c.loop-lines.count
    c.in-Some.lines c.requires.sound c.loop-lines.invariant
    (subst (λ lines. ComesToLine lines
    (progress_of c.loop-lines.network c.loop-lines.output.lines.items)
    (progress_of c.come_to_line.new.self c.come_to_line.new.output.lines.items))
    c.in-Some.is c.in_ok-lines.ensures)

pub returns : goal.returns
returns g c =
    settles_at (record {
      delivered = c.delivery_keeps_sound.ensures;
      waiting = c.waiting_are_lines.ensures;
      turns = c.turn_as_lines.ensures;
    }) c.rest_as_lines.ensures.bytes
    (progress_of c.loop-lines.network c.loop-lines.output.lines.items)
    (progress_of c.come_to_line.new.self c.come_to_line.new.output.lines.items) c.loop-lines.count
    c.requires.sound c.loop-lines.invariant
    (subst (λ lines. ComesToLine lines
    (progress_of c.loop-lines.network c.loop-lines.output.lines.items)
    (progress_of c.come_to_line.new.self c.come_to_line.new.output.lines.items))
    c.in_default.is c.in_ok-lines.ensures)
