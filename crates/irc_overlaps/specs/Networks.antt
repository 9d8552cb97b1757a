-- Servers, each in its layer, and the links between them: what is on its way, what each client was
-- told, which ends of links servers have closed.
--
-- a.net and b.net are linked: the link is 3 at a.net, and 4 at b.net. al is connection 1 of a.net,
-- bo 1 of b.net, both in #c. al sends `TOPIC #c :one`, and bo `TOPIC #c :two` before anything is
-- delivered:
--   links            one, of a.net and b.net
--   other a.net 3    the end 4 of b.net; and `other b.net 4` is the end 3 of a.net
--   coming b.net 4   `COUNT 7 1`, `:al TOPIC #c :one`
--   coming a.net 3   `:bo TOPIC #c :two`
--   told a.net 1     last `:al!u@h TOPIC #c :one`
--   told b.net 1     last `:bo!u@h TOPIC #c :two`
-- Each of the two ends is lost in a step of its own. Once a.net is told that 3 is:
--   links            none
--   other a.net 3    none
--   other b.net 4    the end 3 of a.net still: b.net has not been told
--   coming b.net 4   the same: b.net may read both lines, one or none, until it is told
--   coming a.net 3   nothing: the line of bo is lost, and so is what b.net puts out on 4 now
use Rattle.std.specs.Prelude.{◌≡◌, ℕ, Bool, false, ◌&&◌, nat_eq, Option, Some, None, List, [], ◌∷◌}
use Rattle.std.specs.Prelude.{◌++◌, if◌then◌else◌}
use Rattle.std.specs.List.{filter_map}
use Rattle.std.specs.Option.{option_map}
use Rattle.irc_batch.specs.declared.close_reason.CloseReason.{CloseReason}
use Rattle.irc_batch.specs.Batches.{Sent, line_to, end_of, line_on, end_of_link}
use Rattle.irc_relay.specs.Links.{Name, same, Link, links_without}
use Rattle.irc_room.specs.Room.{Room}
use Rattle.irc_stage.specs.View.{View}
use Rattle.irc_layer.specs.Layers.{LayerView}

-- ---- what a network is

-- the end that a server has of a link, by the link's number there
pub record EndAt : Type 0 where
  pub server : Name
  pub link : ℕ

abbrev pub end_at : Name → ℕ → EndAt
end_at s n = record { server = s; link = n }

-- what a client was told: a line, with its CR LF, or that its connection ends
pub data Told : Type 0 where
  received : (line : List ℕ) → Told
  ended : Told

-- the end of a link that a server has closed, where the other one was, and why
pub record Closing : Type 0 where
  pub server : Name
  pub link : ℕ
  pub far : Option EndAt
  pub reason : CloseReason

-- The links of which both ends are there, the newest first; the layer of each server; of each end
-- that a server has, by the link's number there, where the other one was made; the lines that are
-- on their way to it, the oldest first, each with its CR LF; what was told to each client of a
-- server, by its connection; and what servers have closed. A number is any that is free there, so
-- it may have been another's: what is told to two clients of one connection stands in one list.
pub record Net : Type 0 where
  pub links : List Link
  pub layer : Name → LayerView
  pub other : Name → ℕ → Option EndAt
  pub coming : Name → ℕ → List (List ℕ)
  pub told : Name → ℕ → List Told
  pub closings : List Closing

-- ---- what may be asked of it

-- the room of a server, as long as memory did not run out there
abbrev pub room_at : Net → Name → Option Room
room_at net s = option_map (λ (view : View). view.room) (net.layer s).server

-- the lines among what a client was told
abbrev pub line_of : Told → Option (List ℕ)
line_of (received line) = Some line
line_of ended = None

abbrev pub lines_received : Net → Name → ℕ → List (List ℕ)
lines_received net s conn = filter_map line_of (net.told s conn)

-- whether an end or a connection, by its server x and its number k there, is the one s n
abbrev pub is_at : Name → ℕ → Name → ℕ → Bool
is_at s n x k = same x s && nat_eq k n

-- the two ends of one link. A link is whole as long as each has the other for its other one
pub record AreOneLink (other : Name → ℕ → Option EndAt) (s : Name) (n : ℕ) (t : Name) (m : ℕ)
    : Type 0 where
  pub forth : other s n ≡ Some (end_at t m)
  pub back : other t m ≡ Some (end_at s n)

abbrev pub is_back : Name → ℕ → Option EndAt → Bool
is_back s n None = false
is_back s n (Some end) = is_at end.server end.link s n

abbrev pub whole_with : Net → Name → ℕ → Option EndAt → Option EndAt
whole_with net s n None = None
whole_with net s n (Some far) =
    if is_back s n (net.other far.server far.link) then Some far else None

-- the other end of a link, while it is whole
abbrev pub far_end : Net → Name → ℕ → Option EndAt
far_end net s n = whole_with net s n (net.other s n)

-- ---- what is done to it

-- another value for one end, or for one client
abbrev pub with_at : {A : Type 0} → Name → ℕ → A → (Name → ℕ → A) → Name → ℕ → A
with_at s n now old x k = if is_at s n x k then now else old x k

abbrev pub with_layer : Name → LayerView → Net → Net
with_layer s layer net = record net { layer = λ x. if same x s then layer else net.layer x }

-- these lines are on their way to an end
abbrev pub with_coming : Name → ℕ → List (List ℕ) → Net → Net
with_coming s n lines net = record net { coming = with_at s n lines net.coming }

-- a client is told something more
abbrev pub telling : Name → ℕ → Told → Net → Net
telling s conn one net =
    record net { told = with_at s conn (net.told s conn ++ one ∷ []) net.told }

-- a line more is on its way to the other end, behind those that are; where the link is not whole it
-- is lost
abbrev pub sending : Option EndAt → List ℕ → Net → Net
sending None line net = net
sending (Some far) line net =
    with_coming far.server far.link (net.coming far.server far.link ++ line ∷ []) net

-- the links without that of a server to where the other end is
abbrev pub links_apart : List Link → Name → Option EndAt → List Link
links_apart links s None = links
links_apart links s (Some far) = links_without links s far.server

-- An end is gone, with what was on its way to it. The other end, where it is there, stays until its
-- server is told.
abbrev pub without_end : Name → ℕ → Net → Net
without_end s n net = record net {
  links = links_apart net.links s (far_end net s n);
  other = with_at s n None net.other;
  coming = with_at s n [] net.coming;
}

-- a server closes its end of a link
abbrev pub closing : Name → ℕ → CloseReason → Net → Net
closing s n reason net = record (without_end s n net) {
  closings = net.closings
      ++ record { server = s; link = n; far = net.other s n; reason = reason } ∷ [];
}

-- a link begins: its two ends are there, and nothing is on its way
abbrev pub joining : Name → ℕ → Name → ℕ → Net → Net
joining s n t m net = record net {
  links = record { near = s; far = t } ∷ net.links;
  other = with_at s n (Some (end_at t m)) (with_at t m (Some (end_at s n)) net.other);
  coming = with_at s n [] (with_at t m [] net.coming);
}

-- what a layer has put out goes its way, in order
abbrev pub sent_out : Name → Sent → Net → Net
sent_out s (line_to conn line) net = telling s conn (received line) net
sent_out s (end_of conn) net = telling s conn ended net
sent_out s (line_on n line) net = sending (far_end net s n) line net
sent_out s (end_of_link n reason) net = closing s n reason net

abbrev pub all_sent_out : Name → List Sent → Net → Net
all_sent_out s [] net = net
all_sent_out s (sent ∷ outs) net = all_sent_out s outs (sent_out s sent net)
