use Rattle.std.proofs.Common.{◌∙◌, ap, refl}
use Rattle.irc_engine.specs.Lemmas.Stills.{memory_owed}
use Rattle.irc_hold.specs.Holds.{gives, held_at, held_behind}
use Rattle.irc_hold.proofs.Handling.{given_lacking, given_refused}
use Rattle.irc_hold.proofs.hold.Hold.pass.Goals as goal

pub returns-in_err-handle-clause-given : goal.returns-in_err-handle-clause-given
returns-in_err-handle-clause-given g c =
    given_refused g.M.Machine.server_of c.args.fate c.args.self.now (record {
      machine = c.handle.new.self;
      negotiations = c.args.self.now.negotiations;
      helds = c.args.self.now.helds;
    }) c.args.event.now g.M.Machine.handles c.args.out.now.outs c.handle.new.out.outs
    c.from_residual.result c.in_err-handle.field-0.0 c.in_err-handle.ensures.handled refl refl
    c.from_residual.ensures.1

pub returns-in_err-note-clause-given : goal.returns-in_err-note-clause-given
returns-in_err-note-clause-given g c =
    given_lacking g.M.Machine.server_of c.args.fate c.args.self.now (record {
      machine = c.handle.new.self;
      negotiations = c.args.self.now.negotiations;
      helds = c.note.new.helds;
    }) c.args.event.now g.M.Machine.handles c.args.out.now.outs c.handle.new.out.outs
    c.from_residual-in_err-note.result c.in_err-note.ensures.memory
    c.from_residual-in_err-note.ensures.1

pub returns-in_err-note-clause-refused : goal.returns-in_err-note-clause-refused
returns-in_err-note-clause-refused g c =
    memory_owed (g.M.Machine.server_of c.args.self.now.machine) c.args.event.now
    c.from_residual-in_err-note.result c.from_residual-in_err-note.ensures.1

pub returns-clause-given : goal.returns-clause-given
returns-clause-given g c =
    gives c.in_ok-handle.ensures.handled (c.in_ok-note.ensures.ok
    ∙ ap (λ server. held_behind c.args.fate server c.args.event.now
    (held_at c.args.self.now.helds)) c.server.ensures) refl
