-- What a request is to the network of a script.
use Rattle.std.specs.Prelude.{ℕ, List, [], ◌∷◌, ◌++◌, map}
use Rattle.irc_line.specs.Bytes.{line_feed}
use Rattle.irc_line.specs.Lines.{lines}
use Rattle.irc_relay.specs.Links.{Name}
use Rattle.irc_net.specs.Stepping.{Item, connect, line, gone, link, cut}
use Rattle.irc_script.specs.Scripts.{Request, connects, says, goes, links, cuts, delivers, takes}
use Rattle.irc_script.specs.Scripts.{settles}

-- An item is given; the bytes through the next LF come from one server to another; so many bytes
-- do, or all where there are fewer; bytes come in turn until nothing is on its way.
pub data Move : Type 0 where
  gives : (item : Item) → Move
  delivers_line : (from to : Name) → Move
  takes_bytes : (from to : Name) (count : ℕ) → Move
  settles_all : Move

abbrev pub gives_line : ℕ → List ℕ → Move
gives_line client bytes = gives (line client bytes)

-- each line of what a client says, with an LF behind it
abbrev pub lines_said : ℕ → List ℕ → List Move
lines_said client rest = map (gives_line client) (lines (rest ++ line_feed ∷ []))

abbrev pub moves_of : Request → List Move
moves_of (connects server host) = gives (connect server host) ∷ []
moves_of (says client rest) = lines_said client rest
moves_of (goes client) = gives (gone client) ∷ []
moves_of (links near far) = gives (link near far) ∷ []
moves_of (cuts near far) = gives (cut near far) ∷ []
moves_of (delivers from to) = delivers_line from to ∷ []
moves_of (takes from to count) = takes_bytes from to count ∷ []
moves_of settles = settles_all ∷ []
