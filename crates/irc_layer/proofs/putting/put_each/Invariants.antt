use Rattle.std.proofs.Common.{◌≡◌, ◌++◌, drop}
use Rattle.std.specs.Option.{option_copied}
use Rattle.irc_layer.specs.Ends.{end_at}
use Rattle.irc_layer.specs.Loops.Rests.{IsAtHand}
use Rattle.irc_layer.specs.Putting.{all_put, ends_behind_all}
use Rattle.irc_layer.proofs.putting.put_each.Given as goal

-- what is put out so far, with what is still to be put out behind it, is all
abbrev pub invariant-loop-place : goal.invariant-loop-place
invariant-loop-place l = record {
  outs : l.out.outs ++ all_put l.cause (drop l.place l.held.outs) (end_at l.ends)
      ≡ l.initial.out.outs ++ all_put l.cause l.held.outs (end_at l.initial.ends);
  ends : ends_behind_all l.cause (drop l.place l.held.outs) (end_at l.ends)
      ≡ ends_behind_all l.cause l.held.outs (end_at l.initial.ends);
  hand : IsAtHand (option_copied l.at_hand) l.out.held;
}
