-- What a configuration sets up, and how serving ends.
use Rattle.std.specs.Prelude.{◌≡◌, ℕ, Bool, true, false, Option, Some, None, Result, Ok, Err, List}
use Rattle.std.specs.Prelude.{[], ◌∷◌, map, option_map, is_some, string_bytes, ⊤}
use Rattle.std.specs.Prelude.{◌&&◌, ◌+◌, if◌then◌else◌}
use Rattle.std.specs.List.{filter_map}
use Rattle.std.specs.Str.Lines.{lines}
use Rattle.std.specs.Io.KnownBytes.{Appends}
use Rattle.std.specs.Net.Grammar.{IsSocketText}
use Rattle.std.specs.declared.net.socket_addr.SocketAddr.{SocketAddr}
use Rattle.irc_names.specs.Names.{IsServer, is_server}
use Rattle.irc_settings.specs.declared.settings.Settings.{Settings}
use Rattle.irc_settings.specs.declared.settings.LinesPace.{LinesPace as SettingsPace}
use Rattle.irc_settings.specs.declared.settings.PeerSettings.{PeerSettings}
use Rattle.irc_settings.specs.Configuration.{AreSettingsOf, is_configuration}
use Rattle.irc_settings.specs.declared.fixed.FixedKey.{FixedKey}
use Rattle.irc_settings.specs.Fixed.{differs_at, fixed_keys, key_name}
use Rattle.irc_routes.specs.declared.programs.Programs.{Programs}
use Rattle.irc_routes.specs.declared.programs.Programs.TheVariants.{Off, On}
use Rattle.irc_server.specs.declared.config.Config.{Config}
use Rattle.irc_server.specs.Configuring.{config_fault, served_view}
use Rattle.irc_stage.specs.View.{KnownPeer, View, known_peer}
use Rattle.irc_engine.specs.Machines.{never_due, Dues, Handles}
use Rattle.irc_engine.specs.Turning.{IsNew}
use Rattle.irc_engine.specs.EngineView.{EngineViewOf}
use Rattle.irc_engine.specs.declared.engine.EngineFault.{EngineFault}
use Rattle.irc_engine.specs.Altering.{IsAltered}
use Rattle.irc_engine.specs.Telling.{TellsTurnedBy}
use Rattle.irc_journal.specs.declared.rereading.Rereading.{Rereading}
use Rattle.irc_journal.specs.declared.rereading.Rereading.TheVariants.{Taken}
use Rattle.irc_journal.specs.Rereadings.{rereading_line, restart_line}
use Rattle.irc_journal.specs.Saying.{AreSomeSaid, IsFrontSaid}
use Rattle.irc_door.specs.declared.door.Door.{Door}
use Rattle.irc_door.specs.declared.manner.Manner.{Manner}
use Rattle.irc_door.specs.declared.motd.Motd.{Motd}
use Rattle.irc_door.specs.Doors.{announcing, dues_by, server_behind, IsTurned}
use Rattle.irc_door.specs.MessagesOfTheDay.{has_room, is_message, lines_of}
use Rattle.irc_doorman.specs.declared.asks.Asks.{Asks}
use Rattle.irc_doorman.specs.declared.doorman.Doorman.{Doorman}
use Rattle.irc_doorman.specs.Doormen.{server_behind as server_kept, watched_by, IsAdmitted}
use Rattle.irc_doorman.specs.Doormen.{IsNewDoorman}
use Rattle.irc_doorman.specs.Passwords.{IsClientPassword}
use Rattle.irc_hold.specs.declared.hold.Hold.{Hold}
use Rattle.irc_hold.specs.declared.hold.Negotiations.{Negotiations}
use Rattle.irc_hold.specs.declared.hold.Negotiations.TheVariants.{Off as NothingWaits, Awaited}
use Rattle.irc_hold.specs.Holds.{dues_by as dues_held, server_behind as server_held, IsHeldBack}
use Rattle.irc_hold.specs.Holds.{IsNewHold}
use Rattle.irc_layer.specs.declared.layer.Layer.{Layer}
use Rattle.irc_layer.specs.Layers.{server_of, IsAround, IsLayered}
use Rattle.irc_entrance.specs.Ranges.{AreRanges, IsSomeNoRange}
use Rattle.irc_turns.specs.Spreads.{name_spread}
use Rattle.irc_turns.specs.declared.allowance.LinesPace.{LinesPace}
use Rattle.irc_sockets.specs.declared.calls.Callee.{Callee}
use Rattle.irc_sockets.specs.declared.listening.Listening.{Listening}
use Rattle.irc_sockets.specs.declared.mio_wire.MioWire.{MioWire}
use Rattle.irc_sockets.specs.declared.limits.Limits.{Limits}
use Rattle.irc_sockets.specs.Listening.{IsLimited, ListensAt}
use Rattle.irc_endings.specs.declared.fault.Stop.{Stop}
use Rattle.irc_endings.specs.declared.fault.Stop.TheVariants.{Usage, BadScript, BadConfiguration}
use Rattle.irc_endings.specs.declared.fault.Stop.TheVariants.{Failed}
use Rattle.ircd.specs.declared.setup.Calls.{Calls}
use Rattle.ircd.specs.declared.setup.Setup.{Setup}
use Rattle.ircd.specs.declared.setup.Speech.{Speech}
use Rattle.ircd.specs.ClosedDoors.{SaysClosed}
use Rattle.irc_endings.specs.Sinks.{Wrote}
use Rattle.irc_endings.specs.Ready.{ready_text}
use Rattle.irc_endings.specs.Statuses.{ending_text, exit_status}

-- no address is written so
abbrev pub IsNoAddress : List ℕ → Type 0
IsNoAddress text = (address : SocketAddr) → ¬ (IsSocketText text address)

-- the address that a text writes, where there is a text
abbrev pub IsAddress : Option (List ℕ) → Option SocketAddr → Type 0
IsAddress None None = ⊤
IsAddress (Some text) (Some address) = IsSocketText text address
IsAddress None (Some address) = ⊥
IsAddress (Some text) None = ⊥

-- a peer is called by its name, at the address that is written for that, and again after so many
-- seconds as are set, if they are
pub record IsCallee (peer : PeerSettings) (callee : Callee) : Type 0 where
  pub name : callee.name ≡ string_bytes peer.name
  pub address : IsAddress (option_map string_bytes peer.connect) (Some callee.address)
  pub retry : callee.retry ≡ peer.retry

-- the peers that have an address for it are called, in order, each once, and no other is
pub data AreCalled : List PeerSettings → List Callee → Type 0 where
  nobody : AreCalled [] []
  uncalled : {first : PeerSettings} {rest : List PeerSettings} {callees : List Callee}
      → IsAddress (option_map string_bytes first.connect) None → AreCalled rest callees
      → AreCalled (first ∷ rest) callees
  called : {first : PeerSettings} {rest : List PeerSettings} {callee : Callee}
      {callees : List Callee} → IsCallee first callee → AreCalled rest callees
      → AreCalled (first ∷ rest) (callee ∷ callees)

-- a peer is to be called, and its address, or its name, is none
pub data CannotBeCalled (peer : PeerSettings) : Type 0 where
  no_address : {text : List ℕ} → option_map string_bytes peer.connect ≡ Some text → IsNoAddress text
      → CannotBeCalled peer
  no_name : {text : List ℕ} → option_map string_bytes peer.connect ≡ Some text
      → ¬ (IsServer (string_bytes peer.name)) → CannotBeCalled peer

-- so is one of these
pub data IsSomeUncalled : List PeerSettings → Type 0 where
  this : {first : PeerSettings} {rest : List PeerSettings} → CannotBeCalled first
      → IsSomeUncalled (first ∷ rest)
  later : {first : PeerSettings} {rest : List PeerSettings} → IsSomeUncalled rest
      → IsSomeUncalled (first ∷ rest)

-- a peer as the server knows it
abbrev pub peer_set : PeerSettings → KnownPeer
peer_set peer = record { name = string_bytes peer.name; password = string_bytes peer.password }

-- the name of a peer that knows no pieces, and the names of all such peers, in order
abbrev pub plain_name : PeerSettings → Option (List ℕ)
plain_name peer = if peer.plain && is_server (string_bytes peer.name)
    then Some (string_bytes peer.name) else None

abbrev pub plain_names : List PeerSettings → List (List ℕ)
plain_names peers = filter_map plain_name peers

-- what the server of the settings is configured to be
pub record Configures (settings : Settings) (config : Config) : Type 0 where
  pub name : config.own.name.items ≡ string_bytes settings.name
  pub info : config.own.info.items ≡ string_bytes settings.info
  pub created : config.own.created.items ≡ string_bytes settings.created
  pub peers : map known_peer config.peers.items ≡ map peer_set settings.peers.items

-- clients keep to the pace of the settings, if there is one
abbrev pub pace_set : Option SettingsPace → Option LinesPace
pace_set None = None
pace_set (Some pace) = Some (record { per_second = pace.per_second; burst = pace.burst })

-- clients have what their programs expect, if the settings ask for it
abbrev pub programs_set : Bool → Programs
programs_set true = On
programs_set false = Off

-- clients are asked for the password of the settings, if there is one, and after so many seconds
-- whether they are there, if these say so; the server speaks by their name
pub record AreAsksOf (settings : Settings) (asks : Asks) : Type 0 where
  pub server : asks.server ≡ string_bytes settings.name
  pub password : asks.password ≡ option_map string_bytes settings.password
  pub ping_after : asks.ping_after ≡ settings.ping_after

-- they cannot be: the name is no server's, or the password none that a client can give
pub data CannotBeAsked (settings : Settings) : Type 0 where
  no_server : ¬ (IsServer (string_bytes settings.name)) → CannotBeAsked settings
  no_password : {text : List ℕ} → option_map string_bytes settings.password ≡ Some text
      → ¬ (IsClientPassword text) → CannotBeAsked settings

-- the server is made of the settings, without clients; these have the commands that programs expect
-- where the door says what programs expect, and else are shown nothing of who is away
pub record IsServerOf (settings : Settings) (server : Option View) : Type 0 where
  pub config : Config
  pub configures : Configures settings config
  pub no_fault : config_fault config ≡ None
  pub server_is : server ≡ Some (served_view (programs_set settings.programs) config)

-- how many connections an address may have, how many of these for links without a name, to which
-- pace of lines clients keep, from where no client comes in, and from where proxies come
pub record AreLimitsOf (settings : Settings) (limits : Limits) : Type 0 where
  pub connections_per_address : limits.connections_per_address ≡ settings.connections_per_address
  pub links_per_address : limits.links_per_address ≡ settings.links_per_address
  pub pace : limits.pace ≡ pace_set settings.pace
  pub deny : AreRanges (map string_bytes settings.deny.items) limits.deny.items
  pub proxies : AreRanges (map string_bytes settings.proxies.items) limits.proxies.items

-- where it listens, for clients, and for links or for none, how much may wait, for how long one may
-- stay there without a name or without becoming a user, and the limits
pub record IsListeningOf (settings : Settings) (listening : Listening) : Type 0 where
  pub clients : IsSocketText (string_bytes settings.listen) listening.clients
  pub links : IsAddress (option_map string_bytes settings.listen_links) listening.links
  pub client_room : listening.client_room ≡ settings.client_room
  pub link_room : listening.link_room ≡ settings.link_room
  pub name_within : listening.name_within ≡ settings.name_within
  pub register_within : listening.register_within ≡ settings.register_within
  pub limits : AreLimitsOf settings listening.limits

-- whom it calls, without the word by which pieces are counted too, and again when, by its own name
-- too
pub record AreCallsOf (settings : Settings) (calls : Calls) : Type 0 where
  pub called : AreCalled settings.peers.items calls.callees.items
  pub plain : calls.plain.items ≡ plain_names settings.peers.items
  pub spread : calls.spread ≡ name_spread (string_bytes settings.name)

-- what clients are told beside the profile, which file holds the message of the day, and what they
-- are asked
pub record IsSpeechOf (settings : Settings) (speech : Speech) : Type 0 where
  pub programs : speech.programs ≡ programs_set settings.programs
  pub motd : option_map string_bytes speech.motd ≡ option_map string_bytes settings.motd
  pub asks : AreAsksOf settings speech.asks

-- All of it is the settings'.
pub record IsSetUp (settings : Settings) (setup : Setup) : Type 0 where
  pub server : IsServerOf settings setup.server
  pub listening : IsListeningOf settings setup.listening
  pub calls : AreCallsOf settings setup.calls
  pub speech : IsSpeechOf settings setup.speech

-- why nothing is set up by settings: an address or a range that is none, a peer that cannot be
-- called, or is named as no server is, a server that is refused, or clients that cannot be asked
pub data IsRefused (settings : Settings) : Type 0 where
  clients : IsNoAddress (string_bytes settings.listen) → IsRefused settings
  links : {text : List ℕ} → option_map string_bytes settings.listen_links ≡ Some text
      → IsNoAddress text → IsRefused settings
  deny : IsSomeNoRange (map string_bytes settings.deny.items) → IsRefused settings
  proxies : IsSomeNoRange (map string_bytes settings.proxies.items) → IsRefused settings
  called : IsSomeUncalled settings.peers.items → IsRefused settings
  server : (config : Config) → Configures settings config → is_some (config_fault config) ≡ true
      → IsRefused settings
  asked : CannotBeAsked settings → IsRefused settings

-- they are refused, or memory ran out
abbrev pub IsUnset : Settings → Stop → Type 0
IsUnset settings BadConfiguration = IsRefused settings
IsUnset settings Failed = ⊤
IsUnset settings Usage = ⊥
IsUnset settings (BadScript line) = ⊥

-- what comes of settings, where a part of what they set up is to be so
abbrev pub SetsUpPart : {A : Type 0} → (A → Type 0) → Settings → Result A Stop → Type 0
SetsUpPart IsSo settings (Ok part) = IsSo part
SetsUpPart IsSo settings (Err stop) = IsUnset settings stop

-- what comes of settings
abbrev pub SetsUp : Settings → Result Setup Stop → Type 0
SetsUp settings result = SetsUpPart (IsSetUp settings) settings result

-- what comes of a text: it is a configuration whose settings set this up; or it is none, or one
-- whose settings are refused
pub record IsTextOf (text : List ℕ) (setup : Setup) : Type 0 where
  pub settings : Settings
  pub read : AreSettingsOf text (Ok settings)
  pub is_set_up : IsSetUp settings setup

pub data IsBadText (text : List ℕ) : Type 0 where
  unreadable : is_configuration text ≡ false → IsBadText text
  refused : (settings : Settings) → AreSettingsOf text (Ok settings) → IsRefused settings
      → IsBadText text

-- what comes of reading settings
abbrev pub IsReadSettings : List ℕ → Result Settings Stop → Type 0
IsReadSettings text (Ok settings) = AreSettingsOf text (Ok settings)
IsReadSettings text (Err BadConfiguration) = IsBadText text
IsReadSettings text (Err Failed) = ⊤
IsReadSettings text (Err Usage) = ⊥
IsReadSettings text (Err (BadScript line)) = ⊥

-- ---- how clients are spoken to

-- a message of the day that was read of some text, and an outbox has room for it
pub record IsMotd (room : ℕ) (motd : Motd) : Type 0 where
  pub text : List ℕ
  pub is_one : is_message text ≡ true
  pub is_of : lines_of motd ≡ lines text
  pub fits : has_room room (lines_of motd) ≡ true

-- there is one just where a file is named; what this holds no clause can tell
abbrev pub HasMotd : (file : Option (List ℕ)) → (room : ℕ) → Option Motd → Type 0
HasMotd None room None = ⊤
HasMotd (Some file) room (Some motd) = IsMotd room motd
HasMotd None room (Some motd) = ⊥
HasMotd (Some file) room None = ⊥

abbrev pub motd_file : Setup → Option (List ℕ)
motd_file setup = option_map string_bytes setup.speech.motd

pub record IsMannerOf (setup : Setup) (manner : Manner) : Type 0 where
  pub programs : manner.programs ≡ setup.speech.programs
  pub motd : HasMotd (motd_file setup) setup.listening.client_room manner.motd

-- why nothing is served by a text: it is bad; or it names a file that cannot be read, or holds no
-- message of the day, or one without room
pub data IsUnserved (text : List ℕ) : Type 0 where
  bad_text : IsBadText text → IsUnserved text
  bad_motd : (setup : Setup) → IsTextOf text setup → is_some (motd_file setup) ≡ true
      → IsUnserved text

-- What serves: a door in front of a doorman in front of a hold in front of a layer around a server.
abbrev pub Inner : Type 0
Inner = Hold Layer

abbrev pub inner_server : Inner → Option View
inner_server = server_held server_of

abbrev pub IsInner : Handles Inner
IsInner = IsHeldBack server_of IsLayered

abbrev pub Front : Type 0
Front = Door (Doorman Inner)

abbrev pub front_server : Front → Option View
front_server = server_behind (server_kept inner_server)

abbrev pub IsAnswered : Handles Front
IsAnswered = IsTurned (IsAdmitted inner_server IsInner)

abbrev pub front_dues : Dues Front
front_dues = dues_by (watched_by inner_server IsInner (dues_held never_due))

-- USER waits for the end of a negotiation where programs are told what they expect
abbrev pub negotiations_of : Programs → Negotiations
negotiations_of Off = NothingWaits
negotiations_of On = Awaited

-- what stands in front of a layer
pub record IsFrontOf (layer : Layer) (programs : Programs) (asks : Asks) (manner : Manner)
    (door : Front) : Type 0 where
  pub manner_is : door.manner ≡ manner
  pub inner : Inner
  pub hold : IsNewHold layer (negotiations_of programs) inner
  pub asks_is : IsNewDoorman inner asks door.machine

-- An engine is open: it has served nobody, its door speaks to clients as was set up, in front of a
-- doorman who asks what was, in front of a hold and a layer around the server that was, an outbox
-- has room for as much as was set up, and its wire listens where that was, and calls whom that was
-- to call, again by that spread.
pub record IsOpened (setup : Setup) (engine : EngineViewOf MioWire Front) : Type 0 where
  pub manner : Manner
  pub speaks : IsMannerOf setup manner
  pub layer : Layer
  pub door : Front
  pub front : IsFrontOf layer setup.speech.programs setup.speech.asks manner door
  pub is_around : IsAround setup.server setup.calls.plain.items layer
  pub sockets : MioWire
  pub listens : ListensAt setup.listening sockets
  pub callees : sockets.calls.asked ≡ setup.calls.callees
  pub spread : sockets.calls.retries.spread ≡ setup.calls.spread
  pub is_new : IsNew door sockets setup.listening.client_room setup.listening.link_room engine

-- None is: nothing was said; or that it cannot listen where clients, or servers, are to come.
pub data IsUnopened (setup : Setup) (errors errors_after : Option (List ℕ)) : Type 0 where
  untold : errors_after ≡ errors → IsUnopened setup errors errors_after
  clients_closed : SaysClosed setup.listening.clients errors errors_after
      → IsUnopened setup errors errors_after
  links_closed : (address : SocketAddr) → setup.listening.links ≡ Some address
      → SaysClosed address errors errors_after → IsUnopened setup errors errors_after

-- one turn of an engine with them, with what is said behind it
abbrev pub FrontTurn : EngineViewOf MioWire Front → Option (List ℕ) → EngineViewOf MioWire Front
    → Option (List ℕ) → Result (Unit {0}) EngineFault → Type 0
FrontTurn old held new after result = TellsTurnedBy (λ wire calls. ⊤) front_server IsAnswered
    front_dues old new held after result

-- ---- what is read again

-- What of a configuration changes while the server runs: who comes in, and how much of each is
-- taken, and the message of the day.
abbrev pub Changes : Limits → Option Motd → MioWire → Front → MioWire → Front → Type 0
Changes limits motd wire door wire_after door_after =
    IsLimited limits wire wire_after × (door_after ≡ announcing motd door)

-- it is changed as was set up; an outbox of so many bytes has room for the message
pub record IsChanged (setup : Setup) (room : ℕ) (old new : EngineViewOf MioWire Front) :
    Type 0 where
  pub motd : Option Motd
  pub has_motd : HasMotd (motd_file setup) room motd
  pub altered :
      IsAltered (λ wire calls. ⊤) front_server (Changes setup.listening.limits motd) old new

-- where something else stands at a key now than the server has, it is said that it wants a restart
abbrev pub IsRestartSaid : Bool → List ℕ → Option (List ℕ) → Option (List ℕ) → Type 0
IsRestartSaid false key held after = after ≡ held
IsRestartSaid true key held after = IsFrontSaid (restart_line key) held after

-- so it is said of each of these keys
abbrev pub AreRestartsSaid : List FixedKey → Settings → Settings → Option (List ℕ)
    → Option (List ℕ) → Type 0
AreRestartsSaid [] first now held after = after ≡ held
AreRestartsSaid (key ∷ keys) first now held after =
    (between : Option (List ℕ))
    × IsRestartSaid (differs_at key first now) (key_name key) held between
    × AreRestartsSaid keys first now between after

-- something else came of it than that it was read
abbrev pub is_refusal : Rereading → Bool
is_refusal Taken = false
is_refusal what = true

-- What comes of a look: nothing was asked for; or the file is not read again, nothing has changed,
-- and it is said why; or it is, and some text sets up what is changed.
pub data Rereads (first : Settings) (old : EngineViewOf MioWire Front)
    (held : Option (List ℕ)) : EngineViewOf MioWire Front → Option (List ℕ) → Type 0 where
  unasked : Rereads first old held old held
  unread : (what : Rereading) (after : Option (List ℕ)) → is_refusal what ≡ true
      → IsFrontSaid (rereading_line what) held after → Rereads first old held old after
  reread : (text : List ℕ) (setup : Setup) (is : IsTextOf text setup)
      (new : EngineViewOf MioWire Front) (between after : Option (List ℕ))
      → IsChanged setup first.client_room old new
      → IsFrontSaid (rereading_line Taken) held between
      → AreRestartsSaid fixed_keys first is.settings between after
      → Rereads first old held new after

-- so many turns, with what is said behind each, and a look behind it or none
pub data FrontTurns (first : Settings) (old : EngineViewOf MioWire Front)
    (held : Option (List ℕ)) : ℕ → EngineViewOf MioWire Front → Option (List ℕ) → Type 0 where
  no_turn : FrontTurns first old held 0 old held
  one_more : (n : ℕ) (between turned new : EngineViewOf MioWire Front)
      (said told after : Option (List ℕ)) → FrontTurns first old held n between said
      → FrontTurn between said turned told (Ok tt) → Rereads first turned told new after
      → FrontTurns first old held (n + 1) new after

-- where the program failed: nothing was printed or said; or the text sets up a server, and nothing
-- was printed, since none is open; or a front of `ready` was, and what was said is of the journal
pub data IsCutShort (text : List ℕ) (printed printed_after errors errors_after : Option (List ℕ)) :
    Type 0 where
  unprinted : printed_after ≡ printed → errors_after ≡ errors
      → IsCutShort text printed printed_after errors errors_after
  unopened : (setup : Setup) → IsTextOf text setup → printed_after ≡ printed
      → IsUnopened setup errors errors_after
      → IsCutShort text printed printed_after errors errors_after
  printing : (setup : Setup) → IsTextOf text setup → Wrote printed printed_after ready_text
      → AreSomeSaid errors errors_after → IsCutShort text printed printed_after errors errors_after

-- A text was served: it sets up a server; once this was open, `ready` was printed, and all of so
-- many turns were taken, with what there was to tell said behind each, and the file read again
-- where that was asked for. Sockets keep no account of their calls.
pub record IsServed (text : List ℕ) (turns : ℕ)
    (printed printed_after errors errors_after : Option (List ℕ)) : Type 0 where
  pub setup : Setup
  pub is_text_of : IsTextOf text setup
  pub first : EngineViewOf MioWire Front
  pub last : EngineViewOf MioWire Front
  pub is_opened : IsOpened setup first
  pub is_ready : Appends printed printed_after ready_text
  pub taken : FrontTurns is_text_of.settings first errors turns last errors_after

-- Why a text is not served: it is bad, or its message of the day is, and nothing was printed or
-- said; or the program failed, and anything was printed or said only where it sets up a server.
abbrev pub IsNotServed : List ℕ → Stop
    → (printed printed_after errors errors_after : Option (List ℕ)) → Type 0
IsNotServed text BadConfiguration printed printed_after errors errors_after =
    IsUnserved text × (printed_after ≡ printed) × (errors_after ≡ errors)
IsNotServed text Failed printed printed_after errors errors_after =
    IsCutShort text printed printed_after errors errors_after
IsNotServed text Usage printed printed_after errors errors_after = ⊥
IsNotServed text (BadScript line) printed printed_after errors errors_after = ⊥

-- how serving by a text ends
abbrev pub ServesText : List ℕ → ℕ → Result (Unit {0}) Stop
    → (printed printed_after errors errors_after : Option (List ℕ)) → Type 0
ServesText text turns (Ok _) printed printed_after errors errors_after =
    IsServed text turns printed printed_after errors errors_after
ServesText text turns (Err stop) printed printed_after errors errors_after =
    IsNotServed text stop printed printed_after errors errors_after

-- the same of any text: a front of `ready` was printed, and what was said is of the journal; or
-- nothing was, and what was said is of an address
pub data IsFailed (printed printed_after errors errors_after : Option (List ℕ)) : Type 0 where
  failed_serving : Wrote printed printed_after ready_text → AreSomeSaid errors errors_after
      → IsFailed printed printed_after errors errors_after
  failed_opening : (address : SocketAddr) → printed_after ≡ printed
      → SaysClosed address errors errors_after
      → IsFailed printed printed_after errors errors_after

-- How serving by a file ends. What the file holds no clause can tell: some text, or none where it
-- cannot be read.
abbrev pub ServesFile : ℕ → Result (Unit {0}) Stop
    → (printed printed_after errors errors_after : Option (List ℕ)) → Type 0
ServesFile turns (Err BadConfiguration) printed printed_after errors errors_after =
    (printed_after ≡ printed) × (errors_after ≡ errors)
ServesFile turns (Err Failed) printed printed_after errors errors_after =
    IsFailed printed printed_after errors errors_after
ServesFile turns (Err Usage) printed printed_after errors errors_after = ⊥
ServesFile turns (Err (BadScript line)) printed printed_after errors errors_after = ⊥
ServesFile turns (Ok _) printed printed_after errors errors_after =
    (text : List ℕ) × IsServed text turns printed printed_after errors errors_after

-- the status is that of how serving ended, and so is what is said last on standard error, behind
-- lines of the journal
pub record EndsServing (turns status : ℕ)
    (printed printed_after errors errors_after : Option (List ℕ)) : Type 0 where
  pub ending : Result (Unit {0}) Stop
  pub by_then : Option (List ℕ)
  pub served : ServesFile turns ending printed printed_after errors by_then
  pub status_is : status ≡ exit_status ending
  pub tells : Wrote by_then errors_after (ending_text ending)
