-- What a network of one server refuses of a client, that server refuses.
use Rattle.std.proofs.Common.{◌≡◌, ℕ, Bool, true, false, Option, Some, None, List, [], ◌∷◌, refl}
use Rattle.std.proofs.Common.{sym, ◌∙◌, ap, is_some, if◌then◌else◌}
use Rattle.std.specs.Option.{option_and_then}
use Rattle.std.specs.FinMap.{get}
use Rattle.std.proofs.lemmas.Option.{same_Some}
use Rattle.irc_line.specs.Reading.{read_of}
use Rattle.irc_stage.specs.declared.clients.Client.{Client}
use Rattle.irc_server.specs.declared.event.Event.{Event}
use Rattle.irc_server.specs.declared.event.Event.TheVariants.{Connect, Line, Gone, LinkUp, LinkLine}
use Rattle.irc_server.specs.declared.event.Event.TheVariants.{LinkDown}
use Rattle.irc_server.specs.declared.event.ServerFault.TheVariants.{NoSuchConnection}
use Rattle.irc_stage.specs.RoomMachine.{client_of}
use Rattle.irc_server.specs.ReadEvents.{read_event_of}
use Rattle.irc_server.specs.Served.{of_client}
use Rattle.irc_server.specs.Served.{fault_of, not_there}
use Rattle.irc_stage.specs.View.{View, machine_of}
use Rattle.irc_stage.specs.Handle.{ClientEvent, connects, says, goes}
use Rattle.irc_world.specs.World.{Setting, World, is_server}
use Rattle.irc_world.specs.Stepping.{connect, line, gone, link, cut}
use Rattle.irc_world.specs.Refused.{refused, open_client, no_such_server, no_such_client}
use Rattle.irc_world.specs.Sound.{IsSound}
use Rattle.irc_world.specs.OneServer.{IsTheServer, OneServerRefuses}
use Rattle.irc_world.proofs.ServedAlone.{one_name}

abbrev conn_of : ClientEvent → ℕ
conn_of (connects conn host) = conn
conn_of (says conn read) = conn
conn_of (goes conn) = conn

is_refused : (b : Bool) → (if b then None else Some no_such_client) ≡ Some no_such_client
    → b ≡ false
is_refused true is = absurd (cc is)
is_refused false is = refl

its_client_event : (a b : ClientEvent) → of_client a ≡ of_client b → a ≡ b
its_client_event a b is = cc is

module _ (setting : Setting) (world : World) (view : View) (sound : IsSound (setting ∷ []) world)
    (is : IsTheServer setting world view) where
  nobody : (client : ℕ) → is_some (open_client world client) ≡ false
      → client_of (machine_of view) client ≡ None
  nobody client none = ap (λ clients. get clients client) is.clients
      ∙ by (get (world.hall setting.name).clients client) refl
    where
      by : (o : Option Client) → get (world.hall setting.name).clients client ≡ o → o ≡ None
      by None _ = refl
      by (Some one) there =
          let at_home = sound.clients_home setting.name client (ap is_some there) in
          let here = one_name setting at_home.home
          (sound.homes_known client at_home.home at_home.is_home) in
          absurd (let clash = sym none
          ∙ ap (λ o. is_some (option_and_then (λ home. get (world.hall home).clients client) o))
          (at_home.is_home ∙ ap Some (sym here))
          ∙ ap is_some there in cc clash)

  event_refused : (client : ℕ) (client_event : ClientEvent) (event : Event)
      → of_client client_event ≡ read_event_of event → conn_of client_event ≡ client
      → (((conn : ℕ) (host : List ℕ) → client_event ≡ connects conn host → ⊥))
      → is_some (open_client world client) ≡ false → fault_of view event ≡ Some NoSuchConnection
  event_refused client client_event (Connect conn host) same number apart none =
      absurd (apart conn _ (its_client_event _ _ same))
  event_refused client client_event (Line conn text) same number apart none =
      ap not_there (ap (client_of (machine_of view)) (sym (ap conn_of (its_client_event _ _ same))
      ∙ number) ∙ nobody client none)
  event_refused client client_event (Gone conn) same number apart none =
      ap not_there (ap (client_of (machine_of view)) (sym (ap conn_of (its_client_event _ _ same))
      ∙ number) ∙ nobody client none)
  event_refused client client_event (LinkUp number starts) same is apart none = absurd (cc same)
  event_refused client client_event (LinkLine number text) same is apart none = absurd (cc same)
  event_refused client client_event (LinkDown number) same is apart none = absurd (cc same)

pub one_server_refuses : OneServerRefuses
unfolding refused
one_server_refuses setting world view (connect server host) event sound is same taken =
    absurd (by (is_server (setting ∷ []) server) taken)
  where
    by : (b : Bool) → (if b then None else Some no_such_server) ≡ Some no_such_client → ⊥
    by true taken = cc taken
    by false taken = cc taken
one_server_refuses setting world view (line client bytes) event sound is same taken =
    event_refused setting world view sound is client (says client (read_of bytes)) event
    (same_Some (of_client (says client (read_of bytes))) (read_event_of event) same) refl
    (λ conn host is. cc is) (is_refused (is_some (open_client world client)) taken)
one_server_refuses setting world view (gone client) event sound is same taken =
    event_refused setting world view sound is client (goes client) event
    (same_Some (of_client (goes client)) (read_event_of event) same) refl
    (λ conn host is. cc is) (is_refused (is_some (open_client world client)) taken)
one_server_refuses setting world view (link near far) event sound is same taken = absurd (cc same)
one_server_refuses setting world view (cut near far) event sound is same taken = absurd (cc same)
