use Rattle.std.proofs.Common.{◌≡◌, Some, drop}
use Rattle.irc_server.specs.DeedTold.{deeds_told, losses}
use Rattle.irc_server.proofs.losing.lose_all.Given as goal

-- those who are still lost complete what was done so far
abbrev pub invariant-loop-name : goal.invariant-loop-name
invariant-loop-name l =
    deeds_told (Some l.link) (losses l.own l.far (drop l.name-index l.name-items)) l.serving
    ≡ deeds_told (Some l.link) (losses l.own l.far l.name-items) l.initial.serving
