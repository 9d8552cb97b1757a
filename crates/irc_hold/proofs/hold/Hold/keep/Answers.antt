use Rattle.std.proofs.Common.{◌∙◌, ap, refl}
use Rattle.irc_hold.specs.declared.line.Fate.TheVariants.{Keeps}
use Rattle.irc_hold.specs.Holds.{held_at, held_behind, keeps}
use Rattle.irc_hold.proofs.Handling.{kept_lacking}
use Rattle.irc_hold.proofs.hold.Hold.keep.Goals as goal

pub returns-in_err-note : goal.returns-in_err-note
returns-in_err-note g c =
    kept_lacking g.M.Machine.server_of Keeps c.args.self.now (record {
      machine = c.args.self.now.machine;
      negotiations = c.args.self.now.negotiations;
      helds = c.note.new.helds;
    }) c.args.event.now c.from_residual.result refl c.in_err-note.ensures.memory
    c.from_residual.ensures.1

pub returns : goal.returns
returns g c =
    keeps refl (c.in_ok-note.ensures.ok
    ∙ ap (λ server. held_behind Keeps server c.args.event.now (held_at c.args.self.now.helds))
    c.server.ensures) refl
