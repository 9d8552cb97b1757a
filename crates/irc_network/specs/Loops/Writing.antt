-- A network once what waits in it is written.
use Rattle.std.specs.Prelude.{◌≡◌, ℕ}
use Rattle.irc_network.specs.Network.{Network}
use Rattle.irc_pipes.specs.Pipes.{AreLean, Pipes, pipe_at}
use Rattle.irc_network.specs.Behind.{emptied}
use Rattle.irc_network.specs.ByteNetwork.{ByteNetwork, HasRows, all_written, waiting_at}

-- All is written: each way's lines on its pipe, and none waits any more. Each server has its row of
-- pipes, and no pipe is kept on which nothing is on its way.
pub record IsWritten (network : Network) (pipes : Pipes) (new : ByteNetwork) : Type 0 where
  pub network_is : new.network ≡ emptied network
  pub pipes_are : (from to : ℕ)
      → pipe_at new.pipes from to ≡ all_written (waiting_at network from to) (pipe_at pipes from to)
  pub rows : HasRows new
  pub lean : AreLean new.pipes
