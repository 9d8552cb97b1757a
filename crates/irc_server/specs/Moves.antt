-- What ever happens to a server, each thing once: what is done of an event is a list of moves, and
-- who comes by it or goes. `Lemmas/ServedByMoves` proves so of whatever is served. A law of one
-- server is then a line for each move and for each way to serve, and goes by no deed.
--
-- a.net has al (connection 1) and the links 2 to b.net and 3 to d.net; cy is a user of c.net, which
-- is behind link 2. Both are in #c; dy of c.net is not.
--   al says `PRIVMSG #c :hi`          speaks: does
--   al says `TIME`                    speaks: answers
--   al says `QUIT`                    speaks: does, answers; and 1 is closed
--   connection 1 is gone              leaves: does
--   `:cy PRIVMSG #c :hi` by link 2    listens: comes
--   `:b.net SQUIT c.net :x` by 2      listens: shows (cy quits), forgets c.net, tells_on
--   `:b.net KILL al :x` by 2          listens: takes_out al, tells_on
--   `:b.net NJOIN #c :@dy` by 2       listens: respells, shows (JOIN), shows (MODE), tells_on
--   `:b.net SERVER x.net 2 2 :X`      listens: learns x.net, tells_on
--   `FOO` by link 2                   closes_link: shows, forgets and tells_on of each server lost
--   link 2 is lost                    loses_link: the same
use Rattle.std.specs.Prelude.{◌≡◌, ℕ, ⊤, Bool, true, is_some, Option, Some, None, Result, List, []}
use Rattle.std.specs.Prelude.{◌∷◌, if◌then◌else◌}
use Rattle.std.specs.FinMap.{get}
use Rattle.irc_line.specs.declared.reading.LineFault.{LineFault}
use Rattle.irc_line.specs.Messages.{Parsed, Written}
use Rattle.irc_batch.specs.Batches.{end_of_link, line_to}
use Rattle.irc_batch.specs.declared.close_reason.CloseReason.{CloseReason}
use Rattle.irc_room.specs.effect.Effect.{Effect}
use Rattle.irc_room.specs.effect.Effect.TheVariants.{Quit}
use Rattle.irc_room.specs.Effects.{has_user}
use Rattle.irc_stage.specs.Ends.{Ends}
use Rattle.irc_stage.specs.RoomMachine.{Clients}
use Rattle.irc_stage.specs.Handle.{connects, says, goes, fresh}
use Rattle.irc_stage.specs.View.{View, with_end}
use Rattle.irc_stage.specs.Ways.{IsMetEnd}
use Rattle.irc_stage.specs.EffectTold.{Served, changed, client_ended, counts, effect_told}
use Rattle.irc_stage.specs.EffectTold.{in_silence, with_sent}
use Rattle.irc_stage.specs.Linked.{told_on_all, unlinked, with_row}
use Rattle.irc_stage.specs.ClientTold.{closed_told, seated, unseated}
use Rattle.irc_server.specs.DeedTold.{forgotten, titled_view}
use Rattle.irc_server.specs.LinkServed.{on_link}
use Rattle.irc_server.specs.Served.{ReadEvent, of_client, link_up, link_says, link_down}

-- ---- moves

-- who makes a move: a client of the server; or a link, by what comes by it or by its loss, which is
-- told on to all links but this one
pub data Mover : Type 0 where
  by_client : (conn : ℕ) → Mover
  by_link : (arrival : Option ℕ) → Mover

-- One move, of a server as it is and with what it has put out so far. `By` says who may make it.
pub data Move (By : Mover → Type 0) : Served → Served → Type 0 where
  -- a line to the client itself, which is there
  answers : {s : Served} (conn : ℕ) (line : List ℕ) → By (by_client conn)
      → is_some (get s.state.clients conn) ≡ true
      → Move By s (with_sent (line_to conn line ∷ []) s)
  -- an effect of a client, shown and told on all its ways
  does : {s : Served} (conn : ℕ) (effect : Effect) → By (by_client conn)
      → Move By s (effect_told None effect s)
  -- an effect that a link tells of and that counts, shown and told on
  comes : {s : Served} (arrival : Option ℕ) (effect : Effect) → By (by_link arrival)
      → counts s.state effect ≡ true → Move By s (effect_told arrival effect s)
  -- such an effect that is not told on by itself
  shows : {s : Served} (arrival : Option ℕ) (effect : Effect) → By (by_link arrival)
      → counts s.state effect ≡ true → Move By s (changed effect s)
  -- a user is taken out, if it is there, and its client told why and closed, if it is one here
  takes_out : {s : Served} (arrival : Option ℕ) (nick words : List ℕ) (there : Bool)
      → By (by_link arrival) → has_user s.state.room nick ≡ there
      → Move By s (client_ended nick words (if there then changed (Quit nick words) s else s))
  -- a line on all links but that one
  tells_on : {s : Served} (arrival : Option ℕ) (parts : Written) → By (by_link arrival)
      → Move By s (told_on_all arrival parts s)
  -- a server more is known, behind a link that counts
  learns : {s : Served} (number : ℕ) (uplink name : List ℕ) (distance token : ℕ) (info : List ℕ)
      → By (by_link (Some number)) → IsMetEnd (get s.state.ends number)
      → Move By s (record s { state = with_row number uplink name distance token info s.state })
  -- a server less
  forgets : {s : Served} (arrival : Option ℕ) (name : List ℕ) → By (by_link arrival)
      → Move By s (forgotten name s)
  -- a channel is spelled in the greater of two ways
  respells : {s : Served} (arrival : Option ℕ) (channel : List ℕ) → By (by_link arrival)
      → Move By s (titled_view channel s)

-- one after another
pub data Moves (By : Mover → Type 0) : Served → Served → Type 0 where
  none : {s : Served} → Moves By s s
  next : {s between t : Served} → Move By s between → Moves By between t → Moves By s t

-- by this client alone; by links alone; by what goes on all links but this one
abbrev pub OfClient : ℕ → Mover → Type 0
OfClient conn (by_client who) = who ≡ conn
OfClient conn (by_link arrival) = ⊥

abbrev pub OfLinks : Mover → Type 0
OfLinks (by_client who) = ⊥
OfLinks (by_link arrival) = ⊤

abbrev pub OfLink : ℕ → Mover → Type 0
OfLink number (by_client who) = ⊥
OfLink number (by_link arrival) = arrival ≡ Some number

-- ---- events

-- the links that are closed, and why
abbrev pub Closings : Type 0
Closings = List (ℕ × CloseReason)

-- the same ends are there, and those that counted count still
pub record AreStill (old new : Ends) : Type 0 where
  pub there : (q : ℕ) → is_some (get new q) ≡ is_some (get old q)
  pub met : (q : ℕ) → IsMetEnd (get old q) → IsMetEnd (get new q)

-- What is served of an event: who comes by it or goes, the moves between, and which links are
-- closed.
pub data IsServed (view : View) : ReadEvent → Closings → Served → Type 0 where
  -- a client connects
  seats : (conn : ℕ) (host : List ℕ)
      → IsServed view (of_client (connects conn host)) []
      (in_silence (seated conn (fresh host) view))
  -- a line of a client that says nothing
  ignores : (conn : ℕ) (read : Result Parsed LineFault)
      → IsServed view (of_client (says conn read)) [] (in_silence view)
  -- A line of a client does something, and the client is closed behind it, or is not. No client is
  -- there more or less for it.
  speaks : {s : Served} (conn : ℕ) (read : Result Parsed LineFault) (close : Bool)
      (clients : Clients) → is_some (get view.clients conn) ≡ true
      → ((q : ℕ) → is_some (get clients q) ≡ is_some (get view.clients q))
      → Moves (OfClient conn) (in_silence (record view { clients = clients })) s
      → IsServed view (of_client (says conn read)) [] (closed_told close conn s)
  -- a client is gone, and then its user quits
  leaves : {s : Served} (conn : ℕ) → Moves (OfClient conn) (in_silence (unseated conn view)) s
      → IsServed view (of_client (goes conn)) [] s
  -- a link is open, and lines go out on it
  opens_link : (number : ℕ) (starts : Option (List ℕ)) (lines : List Written)
      → IsServed view (link_up number starts) []
      (with_sent (on_link number lines) (in_silence (with_end number starts view)))
  -- a link is not opened
  refuses_link : (number : ℕ) (starts : Option (List ℕ)) (why : CloseReason)
      → IsServed view (link_up number starts) ((number, why) ∷ [])
      (with_sent (end_of_link number why ∷ []) (in_silence view))
  -- a line of a link that says nothing
  ignores_link : (number : ℕ) (read : Result Parsed LineFault)
      → IsServed view (link_says number read) [] (in_silence view)
  -- A line of a link does something: what its end keeps may change, and lines go out on it.
  listens : {s : Served} (number : ℕ) (read : Result Parsed LineFault) (ends : Ends)
      (lines : List Written) → is_some (get view.ends number) ≡ true → AreStill view.ends ends
      → Moves OfLinks
      (with_sent (on_link number lines) (in_silence (record view { ends = ends }))) s
      → IsServed view (link_says number read) [] s
  -- a link is closed for a line that came by it, and all behind it is lost
  closes_link : {s : Served} (number : ℕ) (read : Result Parsed LineFault) (why : CloseReason)
      → is_some (get view.ends number) ≡ true
      → Moves OfLinks (with_sent (end_of_link number why ∷ []) (in_silence view)) s
      → IsServed view (link_says number read) ((number, why) ∷ [])
      (record s { state = unlinked number s.state })
  -- a link is lost, and all behind it
  loses_link : {s : Served} (number : ℕ) → Moves OfLinks (in_silence view) s
      → IsServed view (link_down number) [] (record s { state = unlinked number s.state })
