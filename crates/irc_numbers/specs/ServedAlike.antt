-- Two servers that are alike but for numbers do the same, whatever happens to both: they are alike
-- again, and have put out the same to each client and on each link.
--
-- a.net (place 0) has the link 7 to b.net (place 1) and the link 5 to c.net (place 2), and al as
-- connection 9, which is client 1 of the network:
--   al says hi in #c  the engine's server puts the line out on 5 and then on 7, the network's on 1
--                     and then on 2: on each link the same, in another order
use Rattle.std.specs.Prelude.{◌≡◌, ℕ, ⊤, nat_eq, Option, Some, None, Result, Ok, Err, List, [], ◌∷◌}
use Rattle.std.specs.Prelude.{if◌then◌else◌}
use Rattle.std.specs.List.{flat_map}
use Rattle.irc_batch.specs.Batches.{Sent, end_of, end_of_link, line_on, line_to}
use Rattle.irc_batch.specs.declared.close_reason.CloseReason.{CloseReason}
use Rattle.irc_stage.specs.Handle.{connects, says, goes}
use Rattle.irc_stage.specs.View.{View}
use Rattle.irc_stage.specs.EffectTold.{Served}
use Rattle.irc_server.specs.Served.{ReadEvent, of_client, link_up, link_says, link_down, served}
use Rattle.irc_numbers.specs.Alike.{AreAlike, AreApart, IsAmong, Numbers}

-- ---- what is put out to one

-- to a client: a line, or None for its end
abbrev pub to_client : ℕ → Sent → List (Option (List ℕ))
to_client client (line_to conn text) = if nat_eq conn client then Some text ∷ [] else []
to_client client (end_of conn) = if nat_eq conn client then None ∷ [] else []
to_client client other = []

abbrev pub client_part : ℕ → List Sent → List (Option (List ℕ))
client_part client outs = flat_map (to_client client) outs

-- on a link: a line, or why it ends
abbrev pub by_link : ℕ → Sent → List (Result (List ℕ) CloseReason)
by_link link (line_on number text) = if nat_eq number link then Ok text ∷ [] else []
by_link link (end_of_link number why) = if nat_eq number link then Err why ∷ [] else []
by_link link other = []

abbrev pub link_part : ℕ → List Sent → List (Result (List ℕ) CloseReason)
link_part link outs = flat_map (by_link link) outs

-- ---- both have done the same

-- the same is put out to each client and on each link, each under its numbers; and an engine's
-- server puts nothing out to a number that is nobody's
pub record ArePutOutAlike (numbers : Numbers) (own other : List Sent) : Type 0 where
  pub to_clients : (client conn : ℕ) → numbers.client client ≡ Some conn
      → client_part conn own ≡ client_part client other
  pub on_links : (place conn : ℕ) → numbers.link place ≡ Some conn
      → link_part conn own ≡ link_part place other
  pub to_no_other : (conn : ℕ) → (IsAmong numbers.client conn → ⊥) → client_part conn own ≡ []
  pub on_no_other : (conn : ℕ) → (IsAmong numbers.link conn → ⊥) → link_part conn own ≡ []

pub record AreServedAlike (numbers : Numbers) (own other : Served) : Type 0 where
  pub views : AreAlike numbers own.state other.state
  pub outs : ArePutOutAlike numbers own.out other.out

-- what is done to two servers leaves them alike
abbrev pub StaysAlike : Numbers → (Served → Served) → (Served → Served) → Type 0
StaysAlike numbers serve serves = (own other : Served) → AreServedAlike numbers own other
    → AreServedAlike numbers (serve own) (serves other)

-- a line came by the same link to both, or from a client
abbrev pub AreArrivalsAlike : Numbers → Option ℕ → Option ℕ → Type 0
AreArrivalsAlike numbers None None = ⊤
AreArrivalsAlike numbers (Some conn) (Some place) = numbers.link place ≡ Some conn
AreArrivalsAlike numbers None (Some place) = ⊥
AreArrivalsAlike numbers (Some conn) None = ⊥

-- ---- the same happens to both

-- under which number an engine has the client or the link to which this happens
abbrev pub happens_at : Numbers → ReadEvent → Option ℕ
happens_at numbers (of_client (connects client host)) = numbers.client client
happens_at numbers (of_client (says client read)) = numbers.client client
happens_at numbers (of_client (goes client)) = numbers.client client
happens_at numbers (link_up place starts) = numbers.link place
happens_at numbers (link_says place read) = numbers.link place
happens_at numbers (link_down place) = numbers.link place

-- the same happens to this number
abbrev pub renumbered : ℕ → ReadEvent → ReadEvent
renumbered conn (of_client (connects client host)) = of_client (connects conn host)
renumbered conn (of_client (says client read)) = of_client (says conn read)
renumbered conn (of_client (goes client)) = of_client (goes conn)
renumbered conn (link_up place starts) = link_up conn starts
renumbered conn (link_says place read) = link_says conn read
renumbered conn (link_down place) = link_down conn

-- Numbers are nothing to a server. Who connects, and a link that is made, have their numbers
-- already: `AreAlike` holds under these too.
abbrev pub NumbersAreNothing : Type 0
NumbersAreNothing =
    (numbers : Numbers) (own other : View) (read_event : ReadEvent) (conn : ℕ) → AreApart numbers
    → AreAlike numbers own other
    → happens_at numbers read_event ≡ Some conn
    → AreServedAlike numbers (served own (renumbered conn read_event)) (served other read_event)
