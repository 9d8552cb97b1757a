-- What a server is told of one connection: the lines that its bytes complete, and once that it is
-- gone.
use Rattle.std.specs.Prelude.{◌≡◌, ℕ, Bool, false, nat_eq, Option, Some, None, List, [], ◌∷◌, ◌++◌}
use Rattle.std.specs.Prelude.{count_by, if◌then◌else◌}
use Rattle.std.specs.List.{flat_map}
use Rattle.arrayvec.specs.ArrayVec.{ArrayVec}
use Rattle.irc_line.specs.Lines.{Begun, Takes}
use Rattle.irc_server.specs.declared.event.Event.{Event}
use Rattle.irc_server.specs.declared.event.Event.TheVariants.{Line, Gone, LinkLine, LinkDown}
use Rattle.irc_engine.specs.declared.kind.ConnectionKind.{ConnectionKind}
use Rattle.irc_engine.specs.declared.kind.ConnectionKind.TheVariants.{Client, Link}
use Rattle.irc_engine.specs.declared.connection_table.Connection.{Connection}

-- the event by which the server is told a line of a connection of some kind
abbrev pub line_event_of : ConnectionKind → ℕ → ArrayVec ℕ → Event
line_event_of Client conn line = Line conn line
line_event_of Link conn line = LinkLine conn line

-- the event by which it is told that a connection of some kind is gone
abbrev pub end_event_of : ConnectionKind → ℕ → Event
end_event_of Client conn = Gone conn
end_event_of Link conn = LinkDown conn

-- the lines of a connection among some events, in order
abbrev pub line_by : ℕ → Event → List (List ℕ)
line_by conn (Line from line) = if nat_eq from conn then line.items ∷ [] else []
line_by conn (LinkLine link line) = if nat_eq link conn then line.items ∷ [] else []
line_by conn other = []

abbrev pub lines_by : ℕ → List Event → List (List ℕ)
lines_by conn events = flat_map (line_by conn) events

abbrev pub is_gone_of : ℕ → Event → Bool
is_gone_of conn (Gone which) = nat_eq which conn
is_gone_of conn (LinkDown link) = nat_eq link conn
is_gone_of conn other = false

-- how often the server is told that a connection is gone
abbrev pub times_gone : ℕ → List Event → ℕ
times_gone conn events = count_by (is_gone_of conn) events

-- what has come of the next line of a connection; nothing where it is not there, or where the
-- server has closed it
abbrev pub begun_at : Option Connection → Option Begun
begun_at None = None
begun_at (Some connection) = connection.framer

-- the bytes, as those of one connection
abbrev pub only_of : ℕ → List ℕ → ℕ → List ℕ
only_of conn bytes q = if nat_eq conn q then bytes else []

abbrev pub nothing_of : ℕ → List ℕ
nothing_of q = []

-- These are the lines that a front of the bytes completes.
pub record HearsFront (old : Begun) (came : List ℕ) (heard : List (List ℕ)) : Type 0 where
  pub front : List ℕ
  pub rest : List ℕ
  pub new : Begun
  pub came_is : came ≡ front ++ rest
  pub takes : Takes old front heard new

-- From one connection these bytes came, and these of its lines were passed on. While it is open,
-- they are all lines that the bytes complete behind what had come before; of one that was closed or
-- lost meanwhile, those that a front of the bytes completes; of one that was not open, none.
abbrev pub Hears : Option Begun → List ℕ → List (List ℕ) → Option Begun → Type 0
Hears None came heard None = heard ≡ []
Hears None came heard (Some new) = ⊥
Hears (Some old) came heard (Some new) = Takes old came heard new
Hears (Some old) came heard None = HearsFront old came heard
