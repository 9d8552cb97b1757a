use Rattle.std.proofs.Common.{◌∙◌, ap, subst, sym}
use Rattle.irc_server.specs.LinesThatSet.{IsSetBy}
use Rattle.irc_layer.specs.Layers.{state_of}
use Rattle.irc_layer.proofs.Setting.{not_set, still_if_ok, still_there}
use Rattle.irc_layer.proofs.layer.Layer.set.Goals as goal

pub returns-in-Ok-clause-connected : goal.returns-in-Ok-clause-connected
returns-in-Ok-clause-connected c =
    still_if_ok c.args.link c.args.line.items (state_of c.args.self.now c.args.out.now)
    (state_of (record {
      server = c.set.new.self;
      ends = c.put_all.new.ends;
      plain = c.args.self.now.plain;
      held = c.put_all.new.held;
      alloc = c.args.self.now.alloc;
    }) c.put_all.new.out)
    c.clear.new.self.outs c.set.new.out.outs (ap (λ b. b.outs) c.clear.ensures)
    (subst (λ r. IsSetBy c.args.self.now.server c.args.link c.args.line.items
    c.clear.new.self.outs r c.set.new.self c.set.new.out.outs) c.in-Ok.is c.set.ensures)
    c.put_all.result c.who_is_connected_behind.ensures c.put_all.ensures.outs

pub returns-in-Err-2-clause-heard : goal.returns-in-Err-2-clause-heard
returns-in-Err-2-clause-heard c =
    not_set c.args.link c.args.line.items (state_of c.args.self.now c.args.out.now)
    c.set.new.self c.in-Err.fault c.clear.new.self.outs c.set.new.out.outs
    (ap (λ b. b.outs) c.clear.ensures)
    (sym c.is_out_of_memory.ensures ∙ c.if-is_out_of_memory.false)
    (subst (λ r. IsSetBy c.args.self.now.server c.args.link c.args.line.items
    c.clear.new.self.outs r c.set.new.self c.set.new.out.outs) c.in-Err.is c.set.ensures)

pub returns-in-Err-2-clause-connected : goal.returns-in-Err-2-clause-connected
returns-in-Err-2-clause-connected c =
    still_there c.args.link c.args.line.items (state_of c.args.self.now c.args.out.now)
    c.set.new.self c.in-Err.fault c.clear.new.self.outs c.set.new.out.outs
    (ap (λ b. b.outs) c.clear.ensures)
    (sym c.is_out_of_memory.ensures ∙ c.if-is_out_of_memory.false)
    (subst (λ r. IsSetBy c.args.self.now.server c.args.link c.args.line.items
    c.clear.new.self.outs r c.set.new.self c.set.new.out.outs) c.in-Err.is c.set.ensures)
