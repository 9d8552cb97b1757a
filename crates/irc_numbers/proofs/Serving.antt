-- Whatever happens, two servers that are alike but for numbers do the same.
use Rattle.irc_server.specs.Served.{of_client, link_up, link_says, link_down, served}
use Rattle.irc_stage.specs.Handle.{connects, says, goes}
use Rattle.irc_numbers.specs.ServedAlike.{NumbersAreNothing}
use Rattle.irc_numbers.proofs.Clients.{connects_alike, goes_alike, says_alike}
use Rattle.irc_numbers.proofs.LinksAlike.{line_served_alike, link_lost_alike, link_opened_alike}

pub numbers_are_nothing : NumbersAreNothing
unfolding served
numbers_are_nothing numbers own other (of_client (connects client host)) conn apart alike at =
    connects_alike numbers apart client conn at own other alike host
numbers_are_nothing numbers own other (of_client (says client read)) conn apart alike at =
    says_alike numbers apart client conn at own other alike read
numbers_are_nothing numbers own other (of_client (goes client)) conn apart alike at =
    goes_alike numbers apart client conn at own other alike
numbers_are_nothing numbers own other (link_up place starts) conn apart alike at =
    link_opened_alike numbers apart place conn at own other alike starts
numbers_are_nothing numbers own other (link_says place read) conn apart alike at =
    line_served_alike numbers apart place conn at own other alike read
numbers_are_nothing numbers own other (link_down place) conn apart alike at =
    link_lost_alike numbers apart place conn at own other alike
