use Rattle.std.proofs.Common.{◌≡◌, drop, map}
use Rattle.std.specs.List.{list_all}
use Rattle.irc_door.specs.MessagesOfTheDay.{is_told}
use Rattle.irc_door.proofs.motd.are_told.Given as goal

-- so far all may be told
abbrev pub invariant-loop-line : goal.invariant-loop-line
invariant-loop-line l = list_all is_told (map (λ line. line.now) l.fn.lines)
    ≡ list_all is_told (map (λ line. line.now) (drop l.line-index l.lines))
