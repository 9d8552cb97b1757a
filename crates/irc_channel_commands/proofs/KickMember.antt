-- The user of a nickname, where it is a member of a channel after some leaves.
use Rattle.std.proofs.Common.{◌≡◌, ℕ, true, is_some, cond, None, List, ◌∙◌, ap}
use Rattle.irc_names.specs.Tables.{row}
use Rattle.irc_room.specs.Room.{Room}
use Rattle.irc_room.specs.Readers.{flags_at}
use Rattle.irc_acts.specs.declared.act.Act.{Act}
use Rattle.irc_acts.specs.Ahead.{ahead}
use Rattle.irc_acts.specs.Moves.{AreMoves}
use Rattle.irc_acts.specs.MoveLaws.{moves_keep_users}
use Rattle.irc_channel_commands.specs.Loops.KickList.{member_at}

-- one that has flags there is the user that the room has had all along
pub member_is : (room : Room) (acts : List Act) (nick channel : List ℕ)
    → AreMoves room acts → is_some (flags_at (ahead room acts) nick channel) ≡ true
    → member_at (ahead room acts) nick channel ≡ row room.users nick
member_is room acts nick channel moves is =
    ap (λ b. cond b (row (ahead room acts).users nick) None) is
    ∙ ap (λ users. row users nick) (moves_keep_users room acts moves)
