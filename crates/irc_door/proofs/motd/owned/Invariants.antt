use Rattle.std.proofs.Common.{◌≡◌, ◌++◌, drop, map, string_bytes}
use Rattle.irc_door.proofs.motd.owned.Given as goal

-- the lines so far stand before those that are left
abbrev pub invariant-loop-line : goal.invariant-loop-line
invariant-loop-line l = map (λ line. line.now) l.fn.lines
    ≡ map string_bytes l.own.items ++ map (λ line. line.now) (drop l.line-index l.lines)
