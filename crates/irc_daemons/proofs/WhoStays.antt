-- Who is connected after something has happened was so before, or has come by it.
use Rattle.std.proofs.Common.{◌≡◌, true, not, ◌||◌, is_none, Option, Some, None, refl}
use Rattle.std.proofs.Common.{sym, ◌∙◌}
use Rattle.std.proofs.lemmas.Bool.{and_parts, or_parts, not-true}
use Rattle.std.specs.FinMap.{get}
use Rattle.irc_server.specs.Served.{ReadEvent, link_down, link_says, link_up, of_client, served}
use Rattle.irc_server.specs.Connected.{WhoIsConnected, client_comes, client_goes, has_client}
use Rattle.irc_server.specs.Connected.{is_client_ended}
use Rattle.irc_server.specs.Own.{IsNewLink}
use Rattle.irc_network.specs.Node.{serves_read_event}
use Rattle.irc_stage.specs.View.{End, View}
use Rattle.irc_daemons.specs.Clients.{ClientsStay}

none_there : (o : Option End) → is_none o ≡ true → o ≡ None
none_there None is = refl
none_there (Some end) is = cc is

-- a link that is served as new is
pub is_new : (view : View) (read_event : ReadEvent) → serves_read_event view read_event ≡ true
    → IsNewLink view read_event
is_new view (of_client client_event) serves = tt
is_new view (link_up link starts) serves = none_there (get view.ends link) serves
is_new view (link_says link read) serves = tt
is_new view (link_down link) serves = tt

pub clients_stay : WhoIsConnected → ClientsStay
clients_stay law view read_event conn serves there =
    let now = law view read_event (is_new view read_event serves) in
    let both = and_parts (has_client view conn || client_comes conn read_event)
    (not (client_goes conn read_event || is_client_ended conn (served view read_event).out))
    (sym (now.clients conn) ∙ there) in
    let neither =
    or_parts (client_goes conn read_event) (is_client_ended conn (served view read_event).out)
    (not-true (client_goes conn read_event
    || is_client_ended conn (served view read_event).out) both.1) in
    record { was = both.0; not_ended = neither.1; not_gone = neither.0 }
