use Rattle.irc_layer.proofs.Examples.{ask_is_read, away_is_heard_where_offered}
use Rattle.irc_layer.proofs.Examples.{away_is_told_where_offered, count_is_in_front}
use Rattle.irc_layer.proofs.Examples.{kick_is_unspoken, kill_does_not_go_back}
use Rattle.irc_layer.proofs.Examples.{lost_servers_are_one, set_is_marked}
use Rattle.irc_layer.proofs.laws.lines_put_out.Goals as goal

pub returns-clause-ask : goal.returns-clause-ask
returns-clause-ask c = ask_is_read

pub returns-clause-count : goal.returns-clause-count
returns-clause-count c = count_is_in_front

pub returns-clause-lost : goal.returns-clause-lost
returns-clause-lost c = lost_servers_are_one

pub returns-clause-echo : goal.returns-clause-echo
returns-clause-echo c = kill_does_not_go_back

pub returns-clause-set : goal.returns-clause-set
returns-clause-set c = set_is_marked

pub returns-clause-unspoken : goal.returns-clause-unspoken
returns-clause-unspoken c = kick_is_unspoken

pub returns-clause-away : goal.returns-clause-away
returns-clause-away c = away_is_told_where_offered

pub returns-clause-heard : goal.returns-clause-heard
returns-clause-heard c = away_is_heard_where_offered
