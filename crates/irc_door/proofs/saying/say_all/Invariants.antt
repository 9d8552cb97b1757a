use Rattle.std.proofs.Common.{◌≡◌, ◌++◌, drop}
use Rattle.std.specs.Option.{option_map}
use Rattle.irc_door.specs.Capabilities.{asked_now}
use Rattle.irc_door.specs.Doors.{said_by}
use Rattle.irc_door.proofs.saying.say_all.Given as goal

-- what is said so far, with what is still to be said, is all
abbrev pub invariant-loop-place : goal.invariant-loop-place
invariant-loop-place l = l.out.outs ++ said_by l.manner (option_map asked_now l.asked) (drop
    l.place l.held.outs)
    ≡ l.initial.out.outs ++ said_by l.manner (option_map asked_now l.asked) l.held.outs
