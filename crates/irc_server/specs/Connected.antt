-- Who is connected to a server: a client or a link is there from when it comes until it goes or is
-- closed, and nobody else comes or goes.
--
-- a.net has the clients al (connection 1) and cy (connection 2), and the link 3 to b.net:
--   connection 5 connects          5 is a client as well
--   al sends QUIT                  the end of 1 is put out, and 1 is a client no more
--   `:b.net KILL cy :x` by 3       the end of 2 is put out, and 2 is a client no more
--   `FOO` comes by 3               the end of 3 is put out, and 3 is a link no more
--   link 6 is opened to x.net      which is no peer: the end of 6 is put out, and 6 is no link
use Rattle.std.specs.Prelude.{◌≡◌, ℕ, Bool, true, false, not, ◌&&◌, ◌||◌, nat_eq, is_some, Option}
use Rattle.std.specs.Prelude.{Some, None, List, Result}
use Rattle.std.specs.FinMap.{get}
use Rattle.std.specs.List.{list_any}
use Rattle.irc_line.specs.declared.reading.LineFault.{LineFault}
use Rattle.irc_line.specs.Messages.{Parsed}
use Rattle.irc_batch.specs.Batches.{Sent, end_of, end_of_link}
use Rattle.irc_stage.specs.declared.clients.Client.{Client}
use Rattle.irc_stage.specs.declared.clients.Client.TheVariants.{Registering, Registered}
use Rattle.irc_stage.specs.Handle.{connects, goes}
use Rattle.irc_stage.specs.View.{View}
use Rattle.irc_server.specs.Served.{ReadEvent, Served, of_client, link_up, link_says, link_down}
use Rattle.irc_server.specs.Served.{served}
use Rattle.irc_server.specs.LinesThatSet.{line_set}
use Rattle.irc_server.specs.Own.{IsNewLink}

-- ---- who is there

abbrev pub has_client : View → ℕ → Bool
has_client view conn = is_some (get view.clients conn)

-- A client is a user once it has given NICK and USER (RFC 2812 section 3.1).
abbrev pub is_user : Option Client → Bool
is_user None = false
is_user (Some (Registering pending)) = false
is_user (Some (Registered nick)) = true

abbrev pub has_user : View → ℕ → Bool
has_user view conn = is_user (get view.clients conn)

abbrev pub has_link : View → ℕ → Bool
has_link view link = is_some (get view.ends link)

-- ---- who is closed

abbrev pub ends_client : ℕ → Sent → Bool
ends_client conn (end_of which) = nat_eq which conn
ends_client conn other = false

abbrev pub is_client_ended : ℕ → List Sent → Bool
is_client_ended conn outs = list_any (ends_client conn) outs

abbrev pub ends_link : ℕ → Sent → Bool
ends_link link (end_of_link which reason) = nat_eq which link
ends_link link other = false

abbrev pub is_link_ended : ℕ → List Sent → Bool
is_link_ended link outs = list_any (ends_link link) outs

-- ---- who comes and goes

abbrev pub client_comes : ℕ → ReadEvent → Bool
client_comes conn (of_client (connects new host)) = nat_eq new conn
client_comes conn other = false

abbrev pub client_goes : ℕ → ReadEvent → Bool
client_goes conn (of_client (goes gone)) = nat_eq gone conn
client_goes conn other = false

abbrev pub link_comes : ℕ → ReadEvent → Bool
link_comes link (link_up new starts) = nat_eq new link
link_comes link other = false

abbrev pub link_goes : ℕ → ReadEvent → Bool
link_goes link (link_down lost) = nat_eq lost link
link_goes link other = false

-- whether somebody is there, who was there before, comes, goes, is closed
abbrev pub is_there_after : (was came left closed : Bool) → Bool
is_there_after was came left closed = (was || came) && not (left || closed)

-- Just those are there who were there or come, and neither go nor are closed; and nobody else is
-- closed.
pub record AreConnectedAfter (view : View) (read_event : ReadEvent) : Type 0 where
  pub clients : (conn : ℕ) → has_client (served view read_event).state conn
      ≡ is_there_after (has_client view conn) (client_comes conn read_event)
      (client_goes conn read_event)
      (is_client_ended conn (served view read_event).out)
  pub links : (link : ℕ) → has_link (served view read_event).state link
      ≡ is_there_after (has_link view link) (link_comes link read_event) (link_goes link read_event)
      (is_link_ended link (served view read_event).out)
  pub clients_were_there : (conn : ℕ) → is_client_ended conn (served view read_event).out ≡ true
      → has_client view conn ≡ true
  pub links_were_there : (link : ℕ) → is_link_ended link (served view read_event).out ≡ true
      → (has_link view link || link_comes link read_event) ≡ true

-- Whatever is served, it is so. A link that is opened is not open yet.
abbrev pub WhoIsConnected : Type 0
WhoIsConnected =
    (view : View) (read_event : ReadEvent) → IsNewLink view read_event
    → AreConnectedAfter view read_event

-- ---- a line of a link by which a server sets

-- It is so of such a line as well: nobody comes or goes by it but who is closed.
pub record AreConnectedBehind (view : View) (link : ℕ) (read : Result Parsed LineFault)
    (s : Served) : Type 0 where
  pub clients : (conn : ℕ) → has_client s.state conn
      ≡ is_there_after (has_client view conn) (client_comes conn (link_says link read))
      (client_goes conn (link_says link read)) (is_client_ended conn s.out)
  pub links : (number : ℕ) → has_link s.state number
      ≡ is_there_after (has_link view number) (link_comes number (link_says link read))
      (link_goes number (link_says link read)) (is_link_ended number s.out)
  pub clients_were_there : (conn : ℕ) → is_client_ended conn s.out ≡ true
      → has_client view conn ≡ true
  pub links_were_there : (number : ℕ) → is_link_ended number s.out ≡ true
      → (has_link view number || link_comes number (link_says link read)) ≡ true

abbrev pub WhoIsConnectedBehind : Type 0
WhoIsConnectedBehind =
    (view : View) (link : ℕ) (read : Result Parsed LineFault)
    → AreConnectedBehind view link read (line_set view link read (get view.ends link))
