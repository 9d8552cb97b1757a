use Rattle.std.proofs.Common.{rules}
use Rattle.irc_room.proofs.room.Room.users_at.Goals as goal

pub returns : goal.returns
returns c = search rules
