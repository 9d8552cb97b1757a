use Rattle.std.proofs.Common.{◌≡◌, false, take}
use Rattle.std.specs.List.{list_any}
use Rattle.irc_line.specs.Bytes.{is_line_end, has_nul}
use Rattle.irc_line.proofs.framing.run_before_end.Given as goal

-- none of the bytes so far ends a line
abbrev pub invariant-loop-i : goal.invariant-loop-i
invariant-loop-i l = record {
  no_end : list_any is_line_end (take l.i l.bytes) ≡ false;
  nul : l.nul_seen ≡ has_nul (take l.i l.bytes);
}
