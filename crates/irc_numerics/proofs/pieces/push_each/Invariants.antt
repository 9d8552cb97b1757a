use Rattle.std.proofs.Common.{◌≡◌, ◌≤◌, ◌++◌, map, length, take}
use Rattle.std.specs.List.{flat_map}
use Rattle.irc_line.specs.Limits.{max_line}
use Rattle.irc_line.specs.Bytes.{cut}
use Rattle.irc_numerics.specs.Loops.Heads.{piece_now}
use Rattle.irc_numerics.proofs.pieces.push_each.Given as goal

abbrev pub invariant-loop-piece : goal.invariant-loop-piece
invariant-loop-piece l = record {
  still_cut : length l.line.items ≤ max_line;
  pushed : l.line.items ≡ cut (l.fn.line.items
      ++ flat_map (λ bytes. l.before ++ bytes) (map piece_now (take l.piece-index l.pieces)));
}
