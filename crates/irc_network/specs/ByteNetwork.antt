-- A network whose links carry bytes: what a server puts out on a link is written there at once, and
-- a line comes to the server at the other end once its bytes have come, however they are cut.
--
-- a.net and b.net are linked; al says hi at a.net, in a channel with bo at b.net:
--   given     a.net is asked for the line; the bytes of `:al PRIVMSG #c :hi` and CR LF are on their
--             way to b.net
--   20 bytes  come to b.net: `:al PRIVMSG #c :hi` is begun there, and bo has received nothing
--   1 byte    more, the CR: the line is complete, b.net is asked for it, and bo has received it
--   1 byte    more, the LF: it completes nothing
use Rattle.std.specs.Prelude.{◌≡◌, ℕ, Bool, Option, Some, None, List, [], ◌∷◌, length}
use Rattle.std.specs.FinMap.{FinMap, entries}
use Rattle.std.specs.Option.{option_map_or}
use Rattle.std.specs.Ordering.{nat_cmp}
use Rattle.irc_world.specs.Stepping.{Item, cut}
use Rattle.irc_network.specs.Network.{Progress, LinkPlaces, Network, Node, link_places}
use Rattle.irc_network.specs.Network.{given, heard, node_at, waiting}
use Rattle.irc_pipes.specs.Pipes.{LinkPipe, Pipes, advanced, are_still, lines_by, lines_to_come}
use Rattle.irc_pipes.specs.Pipes.{put_in}
use Rattle.irc_pipes.specs.Pipes.{pipe_at, pipe_in, with_pipe, without_pipe, written}
use Rattle.irc_network.specs.Behind.{Ahead, net_behind, emptied}

-- The servers, links and clients, and what is on its way along the links. No line waits in the
-- network: it is written.
pub record ByteNetwork : Type 0 where
  pub network : Network
  pub pipes : Pipes

-- each server has a row of pipes
abbrev pub HasRows : ByteNetwork → Type 0
HasRows net = length net.pipes ≡ length net.network.nodes

-- ---- what it is as a network whose links carry lines

-- the lines that what is on its way will complete
abbrev pub lines_ahead : Pipes → Ahead
lines_ahead pipes from to = lines_to_come (pipe_at pipes from to)

abbrev pub net_in_lines : ByteNetwork → Network
net_in_lines net = net_behind (lines_ahead net.pipes) net.network

abbrev pub progress_in_lines : Progress ByteNetwork → Progress Network
progress_in_lines progress =
    record { state = net_in_lines progress.state; out = progress.out }

-- ---- at rest

-- no byte is on its way, and no part of a line has come anywhere
abbrev pub is_byte_rest : ByteNetwork → Bool
is_byte_rest net = are_still net.pipes

-- ---- what is put out is written

-- one line after another
abbrev pub all_written : List (List ℕ) → LinkPipe → LinkPipe
all_written [] pipe = pipe
all_written (line ∷ lines) pipe = all_written lines (written line pipe)

abbrev pub waiting_at : Network → ℕ → ℕ → List (List ℕ)
waiting_at net from to = option_map_or (λ node. waiting node to) (node_at net from) []

-- of one server, way by way, each under the place where it goes
abbrev pub row_written : List (ℕ × List (List ℕ)) → FinMap nat_cmp LinkPipe
    → FinMap nat_cmp LinkPipe
row_written [] row = row
row_written (way ∷ ways) row =
    row_written ways (put_in way.0 (all_written way.1 (pipe_in way.0 row)) row)

-- of all servers, by their places
abbrev pub rows_written : List Node → Pipes → Pipes
rows_written [] pipes = pipes
rows_written (node ∷ nodes) [] = []
rows_written (node ∷ nodes) (row ∷ pipes) =
    row_written (entries node.queues) row ∷ rows_written nodes pipes

-- What waits is written along these pipes, and waits no more.
abbrev pub queues_written : Network → Pipes → ByteNetwork
queues_written net pipes = record { network = emptied net; pipes = rows_written net.nodes pipes }

-- what servers have put out for each other is written; what clients received is theirs already
abbrev pub progress_written : Progress Network → Pipes → Progress ByteNetwork
progress_written progress pipes =
    record { state = queues_written progress.state pipes; out = progress.out }

-- ---- what is given

-- the ends of the link that an item cuts, if it cuts one
abbrev pub cut_ends : Network → Item → Option LinkPlaces
cut_ends net (cut near far) = link_places net near far
cut_ends net other = None

-- what is on its way along the link is lost, and the framers at its ends begin anew
abbrev pub lost_along : Option LinkPlaces → Pipes → Pipes
lost_along None pipes = pipes
lost_along (Some ends) pipes =
    without_pipe ends.far ends.near (without_pipe ends.near ends.far pipes)

-- of all items only a cut changes what is on its way already
abbrev pub pipes_after : Network → Item → Pipes → Pipes
pipes_after net item pipes = lost_along (cut_ends net item) pipes

unfoldable pub item_given : Item → ByteNetwork → Progress ByteNetwork
item_given item net =
    progress_written (given item net.network) (pipes_after net.network item net.pipes)

-- ---- bytes come

-- a server is asked for lines that have come from another, in turn
abbrev pub all_heard : ℕ → ℕ → Progress Network → List (List ℕ) → Progress Network
all_heard from to progress [] = progress
all_heard from to progress (line ∷ lines) = all_heard from to (heard from to progress line) lines

-- the lines that so many bytes complete which come from one server to another
abbrev pub completed_in : ByteNetwork → ℕ → ℕ → ℕ → List (List ℕ)
completed_in net from to count = lines_by count (pipe_at net.pipes from to)

-- the pipes once they have come
abbrev pub pipes_come : ByteNetwork → ℕ → ℕ → ℕ → Pipes
pipes_come net from to count =
    with_pipe from to (advanced count (pipe_at net.pipes from to)) net.pipes

-- servers are asked as in a network of lines: what is on its way is nothing to them
abbrev pub progress_without_pipes : Progress ByteNetwork → Progress Network
progress_without_pipes progress =
    record { state = progress.state.network; out = progress.out }

-- So many bytes come from one server to another, or all that are on their way where there are
-- fewer. The server that they come to is asked for each line that they complete, in turn.
unfoldable pub bytes_come : ℕ → ℕ → ℕ → Progress ByteNetwork → Progress ByteNetwork
bytes_come from to count progress =
    progress_written (all_heard from to (progress_without_pipes progress)
    (completed_in progress.state from to count)) (pipes_come progress.state from to count)
