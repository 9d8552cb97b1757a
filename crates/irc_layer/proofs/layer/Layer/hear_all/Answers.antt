use Rattle.std.proofs.Common.{ap, arith}
use Rattle.std.proofs.lemmas.Grind.{common_steps}
use Rattle.std.proofs.lemmas.List.{nil_from_length}
use Rattle.std.specs.Vec.Iter.{into_iter_items}
use Rattle.irc_pieces.specs.Pieces.{lines_of}
use Rattle.irc_layer.specs.Layers.{state_of}
use Rattle.irc_engine.specs.Lemmas.Stills.{connected_on, nobody_goes}
use Rattle.irc_layer.proofs.Hearing.{heard_none, heard_on, heard_whole}
use Rattle.irc_layer.proofs.layer.Layer.hear_all.Goals as goal

pub loop-line-init : goal.loop-line-init
loop-line-init c = record {
  heard = heard_none c.args.mark c.args.link (lines_of c.args.lines.items)
      (lines_of (into_iter_items c.into_iter-rest.result))
      (state_of c.args.self.now c.args.out.now) (ap lines_of c.into_iter-rest.ensures.rest);
  connected = nobody_goes c.args.self.now.server c.args.out.now.outs;
}

pub loop-line-preserved : goal.loop-line-preserved
loop-line-preserved c = record {
  heard = heard_on c.args.mark c.args.link (lines_of c.args.lines.items)
      (lines_of (into_iter_items c.loop-line.rest)) (lines_of (into_iter_items c.next.new.self))
      c.in-Some.line.items (state_of c.args.self.now c.args.out.now)
      (state_of c.loop-line.self c.loop-line.out) (state_of c.hear_one.new.self c.hear_one.new.out)
      (ap lines_of c.in-Some.ensures.items) c.in_ok-hear_one.ensures.heard
      c.loop-line.invariant.heard;
  connected = connected_on c.args.self.now.server c.loop-line.self.server
      c.hear_one.new.self.server c.args.out.now.outs c.loop-line.out.outs c.hear_one.new.out.outs
      c.loop-line.invariant.connected c.in_ok-hear_one.ensures.connected;
}

pub returns-clause-heard : goal.returns-clause-heard
returns-clause-heard c =
    heard_whole c.args.mark c.args.link (lines_of c.args.lines.items)
    (lines_of (into_iter_items c.loop-line.rest)) (state_of c.args.self.now c.args.out.now)
    (state_of c.loop-line.self c.loop-line.out)
    (ap lines_of (nil_from_length (into_iter_items c.loop-line.rest) (grind (arith, common_steps))))
    c.loop-line.invariant.heard
