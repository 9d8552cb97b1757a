-- What a client does at its home: it is one of that server's, and what comes from outside keeps the
-- rules.
use Rattle.std.specs.Prelude.{◌≡◌, true, Some, None, is_some, Result, List, ℕ}
use Rattle.std.specs.FinMap.{get}
use Rattle.irc_names.specs.Names.{IsHost}
use Rattle.irc_line.specs.Carried.{IsCarried}
use Rattle.irc_line.specs.Messages.{Parsed}
use Rattle.irc_line.specs.Reading.{read_of}
use Rattle.irc_line.specs.declared.reading.LineFault.{LineFault}
use Rattle.irc_relay.specs.Links.{Name}
use Rattle.irc_stage.specs.Handle.{ClientEvent, connects, says, goes}
use Rattle.irc_world.specs.World.{World, home_in}
use Rattle.irc_follow.specs.SideState.{ItemSetting}

-- by whom something happens
abbrev pub client_in : ClientEvent → ℕ
client_in (connects conn host) = conn
client_in (says conn read) = conn
client_in (goes conn) = conn

-- this was read of a line that has neither NUL, CR nor LF
pub record IsReadOfLine (read : Result Parsed LineFault) : Type 0 where
  pub bytes : List ℕ
  pub carried : IsCarried bytes
  pub is_read : read ≡ read_of bytes

-- a client of this server connects, says a line or goes
abbrev pub IsDueAtHome : ItemSetting → World → Name → ClientEvent → Type 0
IsDueAtHome s world h (connects conn host) =
    (home_in s.homes conn ≡ Some h) × (IsHost host) × (get (world.hall h).clients conn ≡ None)
IsDueAtHome s world h (says conn read) = (home_in s.homes conn ≡ Some h)
    × (is_some (get (world.hall h).clients conn) ≡ true) × (IsReadOfLine read)
IsDueAtHome s world h (goes conn) =
    (home_in s.homes conn ≡ Some h) × (is_some (get (world.hall h).clients conn) ≡ true)
