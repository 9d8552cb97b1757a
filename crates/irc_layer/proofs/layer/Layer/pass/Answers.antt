use Rattle.std.proofs.Common.{◌∙◌, ap, refl}
use Rattle.irc_layer.specs.Ends.{end_at, ends_followed}
use Rattle.irc_layer.specs.Layers.{state_of}
use Rattle.irc_engine.specs.Lemmas.Stills.{memory_owed}
use Rattle.irc_layer.proofs.Passing.{connects_by, passes_by}
use Rattle.irc_layer.proofs.layer.Layer.pass.Goals as goal

pub returns-in_err-follow-clause-owed : goal.returns-in_err-follow-clause-owed
returns-in_err-follow-clause-owed c = memory_owed c.args.self.now.server c.args.event.now
    c.from_residual-in_err-follow.result c.from_residual-in_err-follow.ensures.1

pub returns-in_err-put_all-clause-owed : goal.returns-in_err-put_all-clause-owed
returns-in_err-put_all-clause-owed c = memory_owed c.args.self.now.server c.args.event.now
    c.from_residual-in_err-put_all.result c.from_residual-in_err-put_all.ensures.1

pub returns-clause-passes : goal.returns-clause-passes
returns-clause-passes c =
    passes_by c.args.cause c.args.event.now (state_of c.args.self.now c.args.out.now)
    (state_of (record {
      server = c.handle.new.self;
      ends = c.put_all.new.ends;
      plain = c.args.self.now.plain;
      held = c.put_all.new.held;
      alloc = c.args.self.now.alloc;
    }) c.put_all.new.out)
    c.clear.new.self.outs c.handle.new.out.outs (end_at c.follow.new.ends)
    (ap (λ b. b.outs) c.clear.ensures)
    c.in_ok-handle.ensures.handled
    (c.in_ok-follow.ensures ∙ ap (λ plain. ends_followed c.args.event.now plain
    (end_at c.args.self.now.ends)) c.as_slice.ensures.value)
    c.in_ok-put_all.ensures.ends refl c.in_ok-put_all.ensures.outs

pub returns-clause-connected : goal.returns-clause-connected
returns-clause-connected c =
    connects_by c.args.cause c.args.event.now (state_of c.args.self.now c.args.out.now)
    (state_of (record {
      server = c.handle.new.self;
      ends = c.put_all.new.ends;
      plain = c.args.self.now.plain;
      held = c.put_all.new.held;
      alloc = c.args.self.now.alloc;
    }) c.put_all.new.out)
    c.clear.new.self.outs c.handle.new.out.outs (end_at c.follow.new.ends)
    (ap (λ b. b.outs) c.clear.ensures)
    c.in_ok-handle.ensures.connected c.in_ok-put_all.ensures.outs
