use Rattle.std.proofs.Common.{◌≡◌, false, take}
use Rattle.std.specs.List.{list_any}
use Rattle.irc_acts.specs.CommaLists.{is_comma}
use Rattle.irc_acts.proofs.comma_lists.entry_length.Given as goal

abbrev pub invariant-loop-i : goal.invariant-loop-i
invariant-loop-i l = list_any is_comma (take l.i l.list) ≡ false
