use Rattle.std.proofs.Common.{◌≡◌, drop, map}
use Rattle.irc_crossing.specs.Letters.{set_mode}
use Rattle.irc_crossing.specs.Logs.{put_out}
use Rattle.irc_crossing.proofs.log.Log.put_modes.Given as goal

-- what is put out, and the letters that are left behind it, are all
abbrev pub invariant-loop-change : goal.invariant-loop-change
invariant-loop-change l =
    put_out l.piece (map (set_mode l.modes.channel) (drop l.change-index l.modes.changes)) l.self
    ≡ put_out l.piece (map (set_mode l.modes.channel) l.modes.changes) l.fn.self
