use Rattle.std.proofs.Common.{◌≡◌, [], rules, subst}
use Rattle.irc_script.specs.Sinks.{Prints, sink}
use Rattle.irc_script.specs.Lemmas.Sinking.{printed_behind, written_out}
use Rattle.irc_script.proofs.sink.print_bytes.Goals as goal

pub returns-in_ok-write_waiting-in-Err : goal.returns-in_ok-write_waiting-in-Err
returns-in_ok-write_waiting-in-Err g c =
    let old = sink (g.W.Write.contents c.args.output.now) c.args.waiting.now.items in
    let held = g.W.Write.contents c.write_waiting.new.output in
    let waits = c.write_waiting.new.waiting.items in
    let now = g.W.Write.contents c.write_whole.new.output in
    let same : c.try_extend_from_slice.new.self.items ≡ c.args.waiting.now.items = search rules in
    printed_behind c.write_whole.result old (sink held []) (sink now waits) [] c.args.bytes.now
    (subst (λ w. Prints old (sink held w) []) c.write_waiting.ensures.none
    (subst (λ w. Prints (sink (g.W.Write.contents c.args.output.now) w) (sink held waits) []) same
    c.in_ok-write_waiting-in-Err.ensures.prints))
    (written_out c.write_whole.result held now c.args.bytes.now waits c.write_waiting.ensures.none
    c.write_whole.ensures.whole c.write_whole.ensures.front)
