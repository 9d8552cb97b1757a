-- What a server with links puts out goes to its own clients and on its open links alone, and each
-- server that it knows stays behind a link that counts.
--
-- a.net has the clients al (connection 1) and cy (connection 2), and the links 3 to b.net and 4 to
-- d.net.
--   al says hi in a channel    goes to 2, and on 3 and 4 where members are behind them; never to a
--                              connection 5 or on a link 5
--   link 5 is opened to b.net  PASS and SERVER go on 5; to x.net, which is no peer: the end of 5
--   link 3 is lost             what the loss tells goes on 4; b.net is no more known, and nobody
--                              behind 3
use Rattle.std.specs.Prelude.{◌≡◌, ⊤, Bool, true, false, ◌||◌, is_some, nat_eq, None}
use Rattle.std.specs.List.{list_all}
use Rattle.std.specs.FinMap.{get}
use Rattle.irc_batch.specs.Batches.{Sent, line_to, end_of, line_on, end_of_link}
use Rattle.irc_stage.specs.Ways.{AreEnds}
use Rattle.irc_stage.specs.View.{View}
use Rattle.irc_server.specs.Served.{ReadEvent, link_up, served}

-- whether what is put out goes to a client or on an open link of a server
abbrev pub is_its_own : View → Sent → Bool
is_its_own view (line_to conn line) = is_some (get view.clients conn)
is_its_own view (end_of conn) = is_some (get view.clients conn)
is_its_own view (line_on link line) = is_some (get view.ends link)
is_its_own view (end_of_link link reason) = is_some (get view.ends link)

-- whether it goes on the link that is opened
abbrev pub is_on_new : ReadEvent → Sent → Bool
is_on_new (link_up link starts) (line_on number line) = nat_eq number link
is_on_new (link_up link starts) (end_of_link number reason) = nat_eq number link
is_on_new read_event sent = false

-- a link that is opened is not open yet
abbrev pub IsNewLink : View → ReadEvent → Type 0
IsNewLink view (link_up link starts) = get view.ends link ≡ None
IsNewLink view read_event = ⊤

-- Each known server stays behind a link that counts, whatever is served.
abbrev pub ServedKeepsEnds : Type 0
ServedKeepsEnds =
    (view : View) (read_event : ReadEvent) → AreEnds view.ends view.routes
    → IsNewLink view read_event
    → AreEnds (served view read_event).state.ends (served view read_event).state.routes

-- Whatever is served, all that is put out goes to a client that the server has, or on a link that
-- it has open, or on the one that is being opened.
abbrev pub ServedGoesToItsOwn : Type 0
ServedGoesToItsOwn =
    (view : View) (read_event : ReadEvent) → AreEnds view.ends view.routes
    → list_all (λ sent. is_its_own view sent || is_on_new read_event sent)
    (served view read_event).out ≡ true
