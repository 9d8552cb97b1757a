use Rattle.irc_channels.specs.Channels.{has_member, is_invited}
use Rattle.irc_room.proofs.Memberships.{tells_empty}
use Rattle.irc_room.proofs.indexed_channels.IndexedChannels.new.Goals as goal

pub invariant_of-result : goal.invariant_of-result
invariant_of-result c = record {
  joined = tells_empty has_member c.new-2.result.rows c.new.result c.new-2.ensures c.new.ensures;
  invited = tells_empty is_invited c.new-3.result.rows c.new.result c.new-3.ensures c.new.ensures;
}
