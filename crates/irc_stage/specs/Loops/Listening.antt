-- Who listens where, as the code keeps it: by each channel the connections of its members that are
-- clients.
use Rattle.std.specs.Prelude.{◌≡◌, ℕ, ⊤, Bool, true, false, ◌&&◌, Option, Some, None, List, [], map}
use Rattle.std.specs.Prelude.{option_to_list, unwrap_or, if◌then◌else◌}
use Rattle.std.specs.List.{flat_map, list_any}
use Rattle.std.specs.Option.{option_map_or}
use Rattle.std.specs.FinMap.{empty, entries, keys}
use Rattle.irc_names.specs.Fold.{key}
use Rattle.irc_names.specs.Tables.{Table, row, alter, moved}
use Rattle.irc_names.specs.TableLaws.{same_fold}
use Rattle.irc_channels.specs.Channels.{has_member}
use Rattle.irc_modes.specs.Modes.{is_nil}
use Rattle.irc_room.specs.effect.Effect.{Effect}
use Rattle.irc_room.specs.effect.Effect.TheVariants.{Rename, Quit, Join, Part, Kick, Say}
use Rattle.irc_room.specs.effect.Target.{Target}
use Rattle.irc_room.specs.effect.Target.TheVariants.{Channel, User}
use Rattle.irc_room.specs.Room.{Room}
use Rattle.irc_stage.specs.declared.clients.Client.{Client}
use Rattle.irc_stage.specs.declared.clients.Client.TheVariants.{Registered}

-- ---- connections of users, and what is said to whom

-- the connection of a user that is a client
abbrev pub conn_as : Table ℕ → List ℕ → List ℕ
conn_as by_nick nick = option_to_list (row by_nick (key nick))

-- the connections of these users, as far as they are clients
abbrev pub conns_of : Table ℕ → List (List ℕ) → List ℕ
conns_of by_nick nicks = flat_map (conn_as by_nick) nicks

-- somebody says something, to whom or in what this tells
abbrev pub IsSaid : (Target → Type 0) → Effect → Type 0
IsSaid IsFor (Say who notice target words) = IsFor target
IsSaid IsFor effect = ⊥

-- in this channel, or to this user
abbrev pub IsSaidIn : List ℕ → Effect → Type 0
IsSaidIn channel effect = IsSaid (λ target. target ≡ Channel channel) effect

abbrev pub IsSaidTo : List ℕ → Effect → Type 0
IsSaidTo nick effect = IsSaid (λ target. target ≡ User nick) effect

-- ---- what is kept

-- the connections of some users, each by the fold of its nickname; such lists by the folds of
-- channels' names
abbrev pub Conns : Type 0
Conns = Table ℕ

abbrev pub Lists : Type 0
Lists = Table Conns

-- the connection by a nickname's fold, if there is one, in a list, if there is one
abbrev pub conn_in : Option Conns → List ℕ → Option ℕ
conn_in None nick = None
conn_in (Some conns) nick = row conns nick

-- the same in the list of a channel, by the fold of its name
abbrev pub kept_at : Lists → List ℕ → List ℕ → Option ℕ
kept_at lists channel nick = conn_in (row lists channel) nick

-- a list in folded order of the nicknames, and the connections alone
abbrev pub conns_in : Option Conns → List (List ℕ × ℕ)
conns_in None = []
conns_in (Some conns) = entries conns

abbrev pub conns_at : Lists → List ℕ → List ℕ
conns_at lists channel = map (λ e. e.1) (conns_in (row lists channel))

-- whether a user is a member of a channel, by the folds of both names
abbrev pub is_in : Room → List ℕ → List ℕ → Bool
is_in room nick channel = option_map_or (has_member nick) (row room.channels channel) false

-- the connection of a member that is a client
abbrev pub heard_at : Room → Table ℕ → List ℕ → List ℕ → Option ℕ
heard_at room by_nick channel nick = if is_in room nick channel then row by_nick nick else None

-- no list is kept in which nothing is left
abbrev pub AreUsed : Lists → Type 0
AreUsed lists =
    (channel : List ℕ) (conns : Conns) → row lists channel ≡ Some conns
    → is_nil (keys conns) ≡ false

-- What is kept is right: by each channel the connections of its members that are clients, and
-- nothing else.
pub record AreSo (lists : Lists) (room : Room) (by_nick : Table ℕ) : Type 0 where
  pub at : (channel nick : List ℕ)
      → kept_at lists channel nick ≡ heard_at room by_nick channel nick
  pub used : AreUsed lists

-- ---- what changes it

-- By the channels of which a test holds this stands under a nickname from then on; all else stays.
pub record Sets (test : List ℕ → Bool) (nick : List ℕ) (value : Option ℕ) (old new : Lists)
    : Type 0 where
  pub at : (c n : List ℕ)
      → kept_at new c n ≡ (if test c && same_fold n nick then value else kept_at old c n)
  pub used : AreUsed old → AreUsed new

-- by one channel, and nothing by any
abbrev pub SetsAt : List ℕ → List ℕ → Option ℕ → Lists → Lists → Type 0
SetsAt channel nick value old new = Sets (λ c. same_fold c channel) nick value old new

abbrev pub Forgets : List ℕ → Lists → Lists → Type 0
Forgets nick old new = Sets (λ c. true) nick None old new

-- a user is put in the list of a channel if it is a client
abbrev pub SetsIf : Option ℕ → List ℕ → List ℕ → Lists → Lists → Type 0
SetsIf None channel nick old new = new ≡ old
SetsIf (Some conn) channel nick old new = SetsAt channel nick (Some conn) old new

-- nothing by a nickname is left in the lists of the channels that its user is in
abbrev pub Leaves : Room → List ℕ → Lists → Lists → Type 0
Leaves room nick old new = Sets (is_in room nick) nick None old new

-- a client that is a user listens wherever its user is, or nowhere any more
abbrev pub IsListenerSeated : Room → ℕ → Client → Lists → Lists → Type 0
IsListenerSeated room conn (Registered nick) old new =
    Sets (is_in room (key nick)) (key nick) (Some conn) old new
IsListenerSeated room conn client old new = new ≡ old

abbrev pub IsListenerGone : Room → Option Client → Lists → Lists → Type 0
IsListenerGone room (Some (Registered nick)) old new = Leaves room (key nick) old new
IsListenerGone room client old new = new ≡ old

-- what is left of a list, if anything is
abbrev pub while_used : Conns → Option Conns
while_used conns = if is_nil (keys conns) then None else Some conns

-- a list when a connection comes, and when one is gone
abbrev pub with_conn : List ℕ → ℕ → Option Conns → Option Conns
with_conn nick conn conns = Some (alter nick (λ _. Some conn) (unwrap_or conns empty))

abbrev pub without_conn : List ℕ → Conns → Option Conns
without_conn nick conns = while_used (alter nick (λ _. None) conns)

-- the folds of some entries, and whether one is among them
abbrev pub folds_of : {V : Type 0} → List (List ℕ × V) → List (List ℕ)
folds_of es = map (λ e. e.0) es

abbrev pub is_named : List (List ℕ) → List ℕ → Bool
is_named names name = list_any (same_fold name) names

-- the index of clients by nickname after an effect
abbrev pub index_after : Effect → Table ℕ → Table ℕ
index_after (Rename nick new) by_nick = moved (key nick) (key new) (λ value. value) by_nick
index_after effect by_nick = by_nick

-- where the user that takes a nickname is no client, no client has that nickname
abbrev pub IsNobodys : List ℕ → List ℕ → Table ℕ → Type 0
IsNobodys nick new by_nick = row by_nick (key nick) ≡ None → row by_nick (key new) ≡ None

abbrev pub BringsNone : Effect → Table ℕ → Type 0
BringsNone (Rename nick new) by_nick = IsNobodys nick new by_nick
BringsNone effect by_nick = ⊤

-- an effect by which nobody comes into a channel, leaves one, or has another nickname there
abbrev pub IsNoMove : Effect → Type 0
IsNoMove (Rename nick new) = ⊥
IsNoMove (Quit nick text) = ⊥
IsNoMove (Join nick channel op) = ⊥
IsNoMove (Part nick channel text) = ⊥
IsNoMove (Kick by channel nick text) = ⊥
IsNoMove effect = ⊤
