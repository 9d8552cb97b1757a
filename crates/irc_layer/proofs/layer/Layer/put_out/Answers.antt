use Rattle.std.proofs.Common.{◌++◌, ◌∙◌, ap, map}
use Rattle.irc_batch.specs.Batches.{line_on}
use Rattle.irc_burst_lines.specs.Loops.Telling.{lines_now}
use Rattle.irc_layer.specs.Ends.{end_at}
use Rattle.irc_layer.specs.Layers.{state_of}
use Rattle.irc_layer.proofs.Own.{puts_if_ok, still_if_put}
use Rattle.irc_layer.proofs.layer.Layer.put_out.Goals as goal

pub returns-clause-puts : goal.returns-clause-puts
returns-clause-puts c =
    let lines = lines_now c.args.lines.now in
    puts_if_ok c.args.cause c.args.link lines (state_of c.args.self.now c.args.out.now)
    c.hold_all.new.held.outs
    (c.in_ok-hold_all.ensures
    ∙ ap (λ b. b.outs ++ map (line_on c.args.link) lines) c.clear.ensures)
    c.put_all.result (end_at c.put_all.new.ends) c.put_all.new.out.outs c.put_all.ensures.outs
    c.put_all.ensures.ends

pub returns-clause-connected : goal.returns-clause-connected
returns-clause-connected c =
    let lines = lines_now c.args.lines.now in
    still_if_put c.args.cause c.args.link lines (state_of c.args.self.now c.args.out.now)
    c.hold_all.new.held.outs
    (c.in_ok-hold_all.ensures
    ∙ ap (λ b. b.outs ++ map (line_on c.args.link) lines) c.clear.ensures)
    c.put_all.result c.args.self.now.server c.put_all.new.out.outs c.put_all.ensures.outs
