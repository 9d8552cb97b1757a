-- The line by which an address is told at which the system lets nobody listen (our own choice).
--
--   ircd: cannot listen on 127.0.0.1:6667: Address already in use (os error 98)
use Rattle.std.specs.Prelude.{◌≡◌, ℕ, Option, List, ◌++◌, codes, take}
use Rattle.std.specs.Io.KnownBytes.{Appends}
use Rattle.std.specs.Net.Text.{socket_text}
use Rattle.std.specs.declared.net.socket_addr.SocketAddr.{SocketAddr}
use Rattle.irc_sockets.specs.declared.listen_fault.ListenFault.{ListenFault}
use Rattle.irc_sockets.specs.declared.listen_fault.ListenFault.TheVariants.{Address, Memory, Other}

-- the line of the text of an address; the words are the system's own, by the `Display` of its
-- error, which no clause has
abbrev pub closed_line : (address words : List ℕ) → List ℕ
closed_line address words =
    codes "ircd: cannot listen on " ++ address ++ codes ": " ++ words ++ codes "\n"

-- a front of such a line was said, which may be all of it, or nothing
pub record SaysClosed (address : SocketAddr) (old new : Option (List ℕ)) : Type 0 where
  pub words : List ℕ
  pub count : ℕ
  pub appended : Appends old new (take count (closed_line (socket_text address) words))

-- what is said of a fault: one of no address is not told
abbrev pub SaysFault : ListenFault → Option (List ℕ) → Option (List ℕ) → Type 0
SaysFault (Address address error) old new = SaysClosed address old new
SaysFault (Other error) old new = new ≡ old
SaysFault Memory old new = new ≡ old
