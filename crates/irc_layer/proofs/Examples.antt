-- Lines on links, computed.
use Rattle.std.proofs.Common.{refl}
use Rattle.std.specs.Fmt.{digits}
use Rattle.irc_line.specs.Bytes.{cut}
use Rattle.irc_line.specs.Messages.{line_text}
use Rattle.irc_line.specs.Reading.{read_of}
use Rattle.irc_names.specs.Names.{is_channel}
use Rattle.irc_layer.specs.Examples.{AskIsRead, AwayIsHeardWhereOffered, AwayIsToldWhereOffered}
use Rattle.irc_layer.specs.Examples.{CountIsInFront, KickIsUnspoken, KillDoesNotGoBack}
use Rattle.irc_layer.specs.Examples.{LostServersAreOne, SetIsMarked}

pub count_is_in_front : CountIsInFront
unfolding read_of line_text cut digits
count_is_in_front = refl

pub lost_servers_are_one : LostServersAreOne
unfolding read_of line_text cut digits
lost_servers_are_one = refl

pub kill_does_not_go_back : KillDoesNotGoBack
unfolding read_of
kill_does_not_go_back = refl

pub set_is_marked : SetIsMarked
unfolding read_of line_text cut digits
set_is_marked = refl

pub kick_is_unspoken : KickIsUnspoken
unfolding read_of
kick_is_unspoken = refl

pub ask_is_read : AskIsRead
unfolding read_of is_channel line_text cut
ask_is_read = record { written = refl; read = refl; plain = refl }

pub away_is_told_where_offered : AwayIsToldWhereOffered
unfolding read_of line_text cut digits
away_is_told_where_offered = refl

pub away_is_heard_where_offered : AwayIsHeardWhereOffered
unfolding read_of line_text cut digits
away_is_heard_where_offered = record {
  both = refl;
  one = record { away = refl; back = refl; other = refl };
  none = record { away = refl; back = refl; other = refl };
}
