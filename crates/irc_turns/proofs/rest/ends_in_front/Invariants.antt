use Rattle.std.proofs.Common.{◌≡◌, ◌+◌, drop}
use Rattle.std.specs.List.{prefix_len}
use Rattle.irc_line.specs.Bytes.{is_line_end}
use Rattle.irc_turns.proofs.rest.ends_in_front.Given as goal

-- all bytes so far end lines
abbrev pub invariant-loop-place : goal.invariant-loop-place
invariant-loop-place l =
    l.place + prefix_len is_line_end (drop l.place l.bytes) ≡ prefix_len is_line_end l.bytes
