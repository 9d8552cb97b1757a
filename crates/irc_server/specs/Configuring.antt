-- Which configurations a server is made of.
use Rattle.std.specs.Prelude.{◌≡◌, ℕ, Bool, false, not, ◌&&◌, ◌||◌, Option, Some, None, Result, Ok}
use Rattle.std.specs.Prelude.{Err, List, [], ◌∷◌, nat_eq, if◌then◌else◌}
use Rattle.std.specs.List.{list_any, list_all}
use Rattle.std.specs.Cmp.Lexicographic.{pointwise}
use Rattle.irc_names.specs.Limits.{max_created}
use Rattle.irc_names.specs.Names.{is_server, fits}
use Rattle.irc_routes.specs.declared.own.Own.{Own}
use Rattle.irc_routes.specs.declared.programs.Programs.{Programs}
use Rattle.irc_routes.specs.About.{About, about_of, serves}
use Rattle.irc_routes.specs.Info.{is_info, is_text_byte}
use Rattle.irc_routes.specs.Known.{alone_known}
use Rattle.irc_link_words.specs.Passwords.{is_password}
use Rattle.irc_stage.specs.declared.peer.Peer.{Peer}
use Rattle.irc_server.specs.declared.config.Config.{Config}
use Rattle.irc_server.specs.declared.config.ConfigFault.{ConfigFault}
use Rattle.irc_server.specs.declared.config.ConfigFault.TheVariants.{BadName, DoubleName}
use Rattle.irc_stage.specs.View.{View, new_view}

abbrev pub is_text : List ℕ → Bool
is_text bytes = list_all is_text_byte bytes

abbrev pub is_some_text : List ℕ → Bool
is_some_text [] = false
is_some_text (first ∷ rest) = is_text (first ∷ rest)

-- whether this may be what a server says of itself: it has to say when it was created
abbrev pub is_about : About → Bool
is_about about =
    is_info about.info && (is_some_text about.created && fits max_created about.created)

-- a server's name, and what it says of itself
abbrev pub is_own : Own → Bool
is_own own = is_server own.name.items && is_about (about_of own)

abbrev pub is_peer : Peer → Bool
is_peer peer = is_server peer.name.items && is_password peer.password.items

-- whether a peer has this name; servers' names have one spelling
abbrev pub is_among : List ℕ → List Peer → Bool
is_among name peers = list_any (λ peer. pointwise nat_eq peer.name.items name) peers

-- whether two of these have one name
abbrev pub has_double : List Peer → Bool
has_double [] = false
has_double (peer ∷ peers) = is_among peer.name.items peers || has_double peers

-- why no server is made of a configuration, if one is not: the causes in the order in which they
-- are looked for
abbrev pub config_fault : Config → Option ConfigFault
config_fault config =
    if not (is_own config.own && list_all is_peer config.peers.items) then Some BadName
    else (if is_among config.own.name.items config.peers.items || has_double config.peers.items
    then Some DoubleName else None)

-- the server of a configuration that says this of itself: it has no clients and no links
abbrev pub new_server : About → Config → View
new_server about config =
    new_view (alone_known config.own.name.items about) config.peers.items

-- the server that a configuration makes
abbrev pub made_view : Config → View
made_view config = new_server (about_of config.own) config

-- the same, whose links tell who is away, and whose clients have what programs expect or not
abbrev pub served_view : Programs → Config → View
served_view programs config = new_server (serves programs (about_of config.own)) config

-- what comes of a configuration of which this server is made; no memory is wanted for it
abbrev pub IsMadeAs : View → Config → Result (Option View) ConfigFault → Type 0
IsMadeAs view config (Ok server) = (config_fault config ≡ None) × (server ≡ Some view)
IsMadeAs view config (Err fault) = config_fault config ≡ Some fault

abbrev pub IsMade : Config → Result (Option View) ConfigFault → Type 0
IsMade config result = IsMadeAs (made_view config) config result

abbrev pub IsMadeServing : Programs → Config → Result (Option View) ConfigFault → Type 0
IsMadeServing programs config result = IsMadeAs (served_view programs config) config result
