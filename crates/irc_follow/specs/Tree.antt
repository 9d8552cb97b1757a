-- The servers of one side of a network while it changes: which there are, which of them the side
-- knows by now, and what each of them keeps of the others. All servers of a side come to know one
-- more, or lose one, at once: a server that has not been told yet is at an earlier moment of the
-- same tree.
--
-- a.net, b.net and c.net, linked in a row, are the places 0, 1 and 2, and all are known:
--   a.net keeps of c.net  behind link 1, linked to b.net, two links away; b.net's number for it is
--                         3, its own is 3
--   b.net keeps of c.net  behind link 2, linked to b.net, one link away; c.net's number for itself
--                         is 1, b.net's is 3
use Rattle.std.specs.Prelude.{◌≡◌, ◌⊎◌, ◌≤◌, ℕ, suc, Bool, true, false, not, ◌&&◌, ◌||◌, Some, None}
use Rattle.std.specs.Prelude.{List, [], ◌∷◌, unwrap_or, if◌then◌else◌}
use Rattle.std.specs.Option.{option_map}
use Rattle.irc_names.specs.Names.{IsServer}
use Rattle.irc_relay.specs.Distances.{EndsAreAmong, IsAmong}
use Rattle.irc_relay.specs.Links.{Name, same, Link, toward, distance, AreJoined, AreLinked}
use Rattle.irc_relay.specs.Links.{IsForest}
use Rattle.irc_routes.specs.Info.{IsInfo}
use Rattle.irc_routes.specs.Limits.{max_servers}
use Rattle.irc_routes.specs.declared.server_row.ServerRow.{ServerRow}
use Rattle.irc_routes.specs.Known.{Known, added, is_known, row_of, smallest_free, token_out}
use Rattle.irc_routes.specs.Known.{without_server, IsNumbered}

-- a server's place among the names, which is the number of the link to it at each other server. One
-- that is none of them has the number of all
abbrev pub index_in : List Name → Name → ℕ
index_in [] name = 0
index_in (first ∷ names) name = if same first name then 0 else suc (index_in names name)

-- The links, all of them, a new one and a lost one too; the servers of this side, which are told of
-- all that changes; the servers that those know by now; and what each server keeps. Servers that
-- are not of this side keep what they had at the start.
pub record Tree : Type 0 where
  pub forest : List Link
  pub here : Name → Bool
  pub knows : Name → Bool
  pub routes : Name → Known

-- ---- how it changes

-- the number by which p tells of a server: its own for it, or the one that it is about to give it
abbrev pub told_token : Tree → Name → Name → ℕ
told_token tree p name = unwrap_or (token_out (tree.routes p) name) (smallest_free (tree.routes p))

-- what a server keeps once the next one toward a new server has told it of that
abbrev pub known_told : List Name → Tree → (uplink name info : List ℕ) → Name → Known
known_told names tree uplink name info t =
    added (index_in names (toward tree.forest t name)) uplink name (distance tree.forest t name)
    (told_token tree (toward tree.forest t name) name) info
    (tree.routes t)

abbrev pub gained_at : List Name → Tree → (uplink name info : List ℕ) → Name → Known
gained_at names tree uplink name info t =
    if tree.here t && not (is_known (tree.routes t) name)
    then known_told names tree uplink name info t else tree.routes t

-- this side knows a server more, or one less
abbrev pub gained : List Name → (uplink name info : List ℕ) → Tree → Tree
gained names uplink name info tree = record tree {
  knows = λ x. tree.knows x || same x name;
  routes = gained_at names tree uplink name info;
}

abbrev pub lost_at : Tree → List ℕ → Name → Known
lost_at tree name t = if tree.here t then without_server name (tree.routes t) else tree.routes t

abbrev pub lost : List ℕ → Tree → Tree
lost name tree =
    record tree { knows = λ x. tree.knows x && not (same x name); routes = lost_at tree name }

-- ---- what always holds

-- a row, but for the two numbers that stand for its server
pub record Shape : Type 0 where
  pub link : ℕ
  pub uplink : List ℕ
  pub name : List ℕ
  pub distance : ℕ
  pub info : List ℕ

abbrev pub shape : ServerRow → Shape
shape r =
    record { link = r.link; uplink = r.uplink; name = r.name; distance = r.distance; info = r.info }

-- what t is to keep of another server
abbrev pub shape_in : List Name → (Name → List ℕ) → List Link → Name → Name → Shape
shape_in names info forest t name = record {
  link = index_in names (toward forest t name);
  uplink = toward forest name t;
  name = name;
  distance = distance forest t name;
  info = info name;
}

-- Each server of this side keeps a row of each other that is known, and just those; what it keeps
-- of it is as the links are. Numbers are low. A server's number for one that it tells a neighbour
-- of is the one that the neighbour keeps. Links tell each server who is away.
pub record IsSoundTree (names : List Name) (info : Name → List ℕ) (tree : Tree) : Type 0 where
  pub forest : IsForest tree.forest
  pub ends : EndsAreAmong names tree.forest
  pub here_known : (t : Name) → tree.here t ≡ true → tree.knows t ≡ true
  pub known_among : (x : Name) → tree.knows x ≡ true → IsAmong names x
  pub joined : (t x : Name) → tree.here t ≡ true → tree.knows x ≡ true → AreJoined tree.forest t x
  pub rows : (t x : Name) → tree.here t ≡ true
      → option_map shape (row_of (tree.routes t) x) ≡ (if tree.knows x && not (same x t)
      then Some (shape_in names info tree.forest t x) else None)
  pub numbered : (t : Name) → IsAmong names t → IsNumbered (tree.routes t)
  pub named : (t : Name) → IsAmong names t → (tree.routes t).name ≡ t
  pub told_away : (t : Name) → IsAmong names t → (tree.routes t).about.tells_away ≡ true
  pub low : (t x : Name) (r : ServerRow) → tree.here t ≡ true → row_of (tree.routes t) x ≡ Some r
      → r.ours ≤ max_servers
  pub tokens : (t u x : Name) (r : ServerRow) → tree.here u ≡ true → AreLinked tree.forest t u
      → row_of (tree.routes u) x ≡ Some r → r.link ≡ index_in names t
      → token_out (tree.routes t) x ≡ Some r.token

-- the servers keep the rules of names, and are not too many
pub record AreServers (names : List Name) (info : Name → List ℕ) : Type 0 where
  pub named : (x : Name) → IsAmong names x → IsServer x
  pub described : (x : Name) → IsAmong names x → IsInfo (info x)

-- A server that is to be gained: one that is not known yet, on whose way from each server of this
-- side the last before it is the uplink; and the next toward it, if that is none of this side,
-- knows it.
pub record CanGain (names : List Name) (info : Name → List ℕ) (tree : Tree)
    (uplink name words : List ℕ) : Type 0 where
  pub among : IsAmong names name
  pub unknown : tree.knows name ≡ false
  pub described : words ≡ info name
  pub uplink_known : tree.knows uplink ≡ true
  pub joined : (t : Name) → tree.here t ≡ true → AreJoined tree.forest t name
  pub beside : (t : Name) → tree.here t ≡ true → toward tree.forest name t ≡ uplink
  pub told : (t : Name) → tree.here t ≡ true → (tree.here (toward tree.forest t name) ≡ true)
      ⊎ (is_known (tree.routes (toward tree.forest t name)) name ≡ true)

-- A server that is to be lost: one that is known, and none of this side.
pub record CanLose (tree : Tree) (name : List ℕ) : Type 0 where
  pub known : tree.knows name ≡ true
  pub elsewhere : tree.here name ≡ false
