use Rattle.std.proofs.Common.{subst}
use Rattle.irc_network.specs.Loops.Coming.{progress_of}
use Rattle.irc_network.specs.Turns.{TurnsBy, none_yet}
use Rattle.irc_network.proofs.Going.{fewer_on, none_come, some_come, tidily_on}
use Rattle.irc_network.proofs.network.Network.come_to_line.Goals as goal

pub loop-lines-init : goal.loop-lines-init
loop-lines-init g c = record { goes = none_yet; tidy = c.requires.tidy }

pub come_in_turn-requires : goal.come_in_turn-requires
come_in_turn-requires g c = record { tidy = c.loop-lines.invariant.tidy }

pub returns-then-lines-gt0 : goal.returns-then-lines-gt0
returns-then-lines-gt0 g c =
    let old = progress_of c.args.self.now c.args.output.now.lines.items in
    let now = progress_of c.loop-lines.self c.loop-lines.output.lines.items in
    let new = progress_of c.come_in_turn.new.self c.come_in_turn.new.output.lines.items in
    some_come old now new c.in-Some.lines c.loop-lines.invariant
    (subst (λ lines. TurnsBy lines now new) c.in-Some.is c.in_ok-lines.ensures)
    c.if-lines-gt0.true

pub loop-lines-smaller : goal.loop-lines-smaller
loop-lines-smaller g c =
    let old = progress_of c.args.self.now c.args.output.now.lines.items in
    let now = progress_of c.loop-lines.self c.loop-lines.output.lines.items in
    let new = progress_of c.come_in_turn.new.self c.come_in_turn.new.output.lines.items in
    fewer_on old now new c.in-Some.lines c.loop-lines.invariant
    (subst (λ lines. TurnsBy lines now new) c.in-Some.is c.in_ok-lines.ensures)
    c.if-lines-gt0.false

pub loop-lines-preserved : goal.loop-lines-preserved
loop-lines-preserved g c =
    let old = progress_of c.args.self.now c.args.output.now.lines.items in
    let now = progress_of c.loop-lines.self c.loop-lines.output.lines.items in
    let new = progress_of c.come_in_turn.new.self c.come_in_turn.new.output.lines.items in
    tidily_on old now new c.in-Some.lines c.loop-lines.invariant
    (subst (λ lines. TurnsBy lines now new) c.in-Some.is c.in_ok-lines.ensures)
    c.if-lines-gt0.false

pub returns : goal.returns
returns g c =
    let old = progress_of c.args.self.now c.args.output.now.lines.items in
    let now = progress_of c.loop-lines.self c.loop-lines.output.lines.items in
    let new = progress_of c.come_in_turn.new.self c.come_in_turn.new.output.lines.items in
    none_come old now new c.loop-lines.invariant
    (subst (λ lines. TurnsBy lines now new) c.in_default.is c.in_ok-lines.ensures)
