use Rattle.std.proofs.Common.{◌≡◌, ◌++◌, map, true}
use Rattle.std.specs.FinMap.{values}
use Rattle.std.specs.List.{list_all}
use Rattle.irc_users.specs.Rosters.{sitter}
use Rattle.irc_users.proofs.Heads.{is_sat}
use Rattle.irc_users.proofs.users.all_of.Given as goal

abbrev pub invariant-loop-head : goal.invariant-loop-head
invariant-loop-head l = record {
  found : map (λ user. user.now) l.found.items ++ map (sitter l.seats) l.head-iterator
      ≡ map (sitter l.seats) (values l.heads);
  sat : list_all (is_sat l.seats) l.head-iterator ≡ true;
  more : (goal.iterator-loop-head).can_next l.head-iterator;
  ends : (goal.iterator-loop-head).is_finite l.head-iterator;
}
