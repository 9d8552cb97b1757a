use Rattle.std.proofs.Common.{◌≡◌, true}
use Rattle.std.specs.List.{list_all}
use Rattle.irc_users.specs.UserTable.{is_home}
use Rattle.irc_users.proofs.Finding.{AreFoundSoFar}
use Rattle.irc_users.proofs.Heads.{is_sat}
use Rattle.irc_users.proofs.users.homed_at.Given as goal

abbrev pub invariant-loop-head : goal.invariant-loop-head
invariant-loop-head l = record {
  found : AreFoundSoFar (is_home l.home) l.seats l.heads l.found.items l.head-iterator;
  sat : list_all (is_sat l.seats) l.head-iterator ≡ true;
  more : (goal.iterator-loop-head).can_next l.head-iterator;
  ends : (goal.iterator-loop-head).is_finite l.head-iterator;
}
