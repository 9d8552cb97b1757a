-- Two servers that are the same but for numbers: one of an engine and one of a network. An engine's
-- connections have the numbers that its wire gives them, links and clients from one row; in a
-- network the end of a link has the place of the server at the other end for a number, and a client
-- its number in the network.
--
-- a.net (place 0) has the link 7 to b.net (place 1) and the link 5 to c.net (place 2), and al as
-- connection 9:
--   numbers        link 1 is 7, link 2 is 5, client 1 is 9
--   as a network   its ends are 1 and 2, and al is client 1
use Rattle.std.specs.Prelude.{◌≡◌, ℕ, ⊤, true, is_some, Option, Some, None, List}
use Rattle.std.specs.FinMap.{get}
use Rattle.std.specs.Option.{option_and_then}
use Rattle.irc_routes.specs.declared.server_row.ServerRow.{ServerRow}
use Rattle.irc_routes.specs.Known.{row_of}
use Rattle.irc_stage.specs.View.{View}

-- under which number an engine has the link with the server at a place, and a client
pub record Numbers : Type 0 where
  pub link : ℕ → Option ℕ
  pub client : ℕ → Option ℕ

-- no two have one number
pub record AreApart (numbers : Numbers) : Type 0 where
  pub links : (one other conn : ℕ)
      → numbers.link one ≡ Some conn → numbers.link other ≡ Some conn → one ≡ other
  pub clients : (one other conn : ℕ)
      → numbers.client one ≡ Some conn → numbers.client other ≡ Some conn → one ≡ other
  pub kinds : (place client conn : ℕ) → numbers.link place ≡ Some conn
      → numbers.client client ≡ Some conn → ⊥

-- ---- what they have

-- a number is one of these
pub record IsAmong (numbers : ℕ → Option ℕ) (conn : ℕ) : Type 0 where
  pub number : ℕ
  pub is : numbers number ≡ Some conn

-- a server that both know, behind the same link
abbrev pub AreRowsAlike : Numbers → Option ServerRow → Option ServerRow → Type 0
AreRowsAlike numbers None None = ⊤
AreRowsAlike numbers (Some own) (Some other) =
    (other ≡ record own { link = other.link }) × (numbers.link other.link ≡ Some own.link)
AreRowsAlike numbers None (Some other) = ⊥
AreRowsAlike numbers (Some own) None = ⊥

-- An engine's server is as one of a network.
pub record AreAlike (numbers : Numbers) (own other : View) : Type 0 where
  pub name : other.routes.name ≡ own.routes.name
  pub about : other.routes.about ≡ own.routes.about
  pub rows : (name : List ℕ)
      → AreRowsAlike numbers (row_of own.routes name) (row_of other.routes name)
  pub peers : other.peers ≡ own.peers
  pub ends : (place : ℕ)
      → get other.ends place ≡ option_and_then (get own.ends) (numbers.link place)
  pub no_other_end : (conn : ℕ) → is_some (get own.ends conn) ≡ true → IsAmong numbers.link conn
  pub clients : (client : ℕ)
      → get other.clients client ≡ option_and_then (get own.clients) (numbers.client client)
  pub no_other_client : (conn : ℕ) → is_some (get own.clients conn) ≡ true
      → IsAmong numbers.client conn
  pub room : other.room ≡ own.room

-- neither is there any more once memory ran out
abbrev pub AreAlikeIf : Numbers → Option View → Option View → Type 0
AreAlikeIf numbers None None = ⊤
AreAlikeIf numbers (Some own) (Some other) = AreAlike numbers own other
AreAlikeIf numbers None (Some other) = ⊥
AreAlikeIf numbers (Some own) None = ⊥
