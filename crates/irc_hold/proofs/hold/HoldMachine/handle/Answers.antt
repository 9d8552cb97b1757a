use Rattle.std.proofs.Common.{◌∙◌, sym}
use Rattle.irc_hold.specs.Holds.{conn_of, held_at, kept_of}
use Rattle.irc_hold.proofs.Standing.{kept_connected, kept_refused, released_connected}
use Rattle.irc_hold.proofs.Standing.{released_refused}
use Rattle.irc_hold.proofs.hold.HoldMachine.handle.Goals as goal

pub returns-in-Keeps-clause-connected : goal.returns-in-Keeps-clause-connected
returns-in-Keeps-clause-connected g c =
    kept_connected g.M.Machine.server_of c.args.self.now c.keep.new.self c.args.event.now
    (sym c.in-Keeps.is ∙ c.fate.ensures) c.args.out.now.outs c.keep.result c.keep.ensures

pub returns-in-Keeps-clause-refused : goal.returns-in-Keeps-clause-refused
returns-in-Keeps-clause-refused g c =
    kept_refused g.M.Machine.server_of c.args.self.now c.keep.new.self c.args.event.now
    c.keep.result c.keep.ensures

pub returns-in-Ends-clause-connected : goal.returns-in-Ends-clause-connected
returns-in-Ends-clause-connected g c =
    released_connected c.args.self.now.negotiations (held_at c.args.self.now.helds)
    (g.M.Machine.server_of c.args.self.now.machine) c.args.event.now
    (sym c.in-Ends.is ∙ c.fate.ensures)
    (kept_of (held_at c.args.self.now.helds (conn_of c.args.event.now)))
    (g.M.Machine.server_of c.release.new.self.machine) c.args.out.now.outs
    c.release.new.out.outs c.release.result c.release.ensures.connected

pub returns-in-Ends-clause-refused : goal.returns-in-Ends-clause-refused
returns-in-Ends-clause-refused g c =
    released_refused c.args.self.now.negotiations (held_at c.args.self.now.helds)
    (g.M.Machine.server_of c.args.self.now.machine) c.args.event.now
    (sym c.in-Ends.is ∙ c.fate.ensures)
    (kept_of (held_at c.args.self.now.helds (conn_of c.args.event.now))) c.release.result
    c.release.ensures.refused
