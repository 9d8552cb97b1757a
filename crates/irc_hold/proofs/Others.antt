-- Lines of users, and of who is not there, are the machine's.
use Rattle.std.proofs.Common.{cond, is_some, refl, ap}
use Rattle.irc_hold.specs.declared.hold.Negotiations.TheVariants.{Off, Awaited}
use Rattle.irc_hold.specs.declared.line.Fate.TheVariants.{Passes}
use Rattle.irc_hold.specs.Holds.{OthersPass}
use Rattle.irc_hold.specs.Lines.{line_fate}

pub others_pass : OthersPass
others_pass Off server helds conn line is = refl
others_pass Awaited server helds conn line is =
    ap (λ b. cond b (line_fate (is_some (helds conn)) line.items) Passes) is
