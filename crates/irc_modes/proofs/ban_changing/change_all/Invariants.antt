use Rattle.std.proofs.Common.{◌≡◌, take, drop}
use Rattle.std.specs.Prelude.{vec_capacity}
use Rattle.irc_modes.specs.Bans.{IsBanList}
use Rattle.irc_modes.specs.Loops.ManyChanges.{bans_after}
use Rattle.irc_modes.proofs.BanRoom.{HasRoom}
use Rattle.irc_modes.proofs.ban_changing.change_all.Given as goal

abbrev pub invariant-loop-change : goal.invariant-loop-change
invariant-loop-change l = record {
  so_far : l.bans.items ≡ bans_after (take l.change-index l.changes) l.fn.bans.items;
  ordered : IsBanList l.bans.items;
  room : HasRoom l.fn.bans.items (drop l.change-index l.changes) l.bans.items (vec_capacity l.bans);
}
