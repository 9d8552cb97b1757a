-- A layer around a server: an event machine that sees what comes by a link before the server does,
-- and what is put out on links behind it.
--
-- What becomes of an event:
--   a client's, a link that begins or is lost    the server is given it
--   a line of a piece that is not whole yet      the server is given nothing
--   a line that makes a piece whole              the server is given each line as it is meant here,
--                                                or the other end is told of the channel it asks of
--   a count of more than was put out             the link is closed, and the server told so
use Rattle.std.specs.Prelude.{◌≡◌, ℕ, Bool, true, false, Option, Some, None, Result, Ok, Err, List}
use Rattle.std.specs.Prelude.{[], ◌∷◌, ◌++◌, is_some, map, unwrap_or, if◌then◌else◌}
use Rattle.std.specs.Option.{option_and_then, option_map}
use Rattle.irc_line.specs.Messages.{text}
use Rattle.irc_line.specs.Reading.{read_of}
use Rattle.irc_batch.specs.declared.close_reason.CloseReason.{CloseReason}
use Rattle.irc_batch.specs.Batches.{Batch, Sent, end_of_link, line_on}
use Rattle.irc_burst_lines.specs.BurstLines.{channel_parts}
use Rattle.irc_burst_lines.specs.DeedLines.{kill_parts, njoin_parts}
use Rattle.irc_pieces.specs.declared.count.Mark.{Mark}
use Rattle.irc_pieces.specs.declared.count.Mark.TheVariants.{Set}
use Rattle.irc_pieces.specs.declared.piece_end.Heard.{Heard}
use Rattle.irc_pieces.specs.declared.piece_end.Heard.TheVariants as heard
use Rattle.irc_crossing.specs.declared.hearing.Given.{Given}
use Rattle.irc_crossing.specs.declared.hearing.Given.TheVariants.{AsItCame, Changed, LeftOut}
use Rattle.irc_crossing.specs.declared.hearing.Given.TheVariants.{Brings, Kills}
use Rattle.irc_crossing.specs.declared.hearing.Given.TheVariants.{Sets as SetsLine}
use Rattle.irc_channels.specs.declared.channel.Channel.{Channel}
use Rattle.irc_channels.specs.declared.flags.Flags.{Flags}
use Rattle.irc_names.specs.Fold.{key}
use Rattle.irc_room.specs.Readers.{channel_at}
use Rattle.irc_crossing.specs.Asking.{asked}
use Rattle.irc_crossing.specs.Hearing.{given}
use Rattle.irc_crossing.specs.Raising.{raised, raises}
use Rattle.irc_stage.specs.View.{View}
use Rattle.irc_server.specs.declared.event.Event.{Event}
use Rattle.irc_server.specs.declared.event.Event.TheVariants.{Connect, Line, Gone, LinkUp, LinkLine}
use Rattle.irc_server.specs.declared.event.Event.TheVariants.{LinkDown}
use Rattle.irc_server.specs.declared.event.ServerFault.{ServerFault}
use Rattle.irc_server.specs.LinesThatSet.{IsSetBy}
use Rattle.irc_server.specs.ReadEvents.{IsHandled}
use Rattle.irc_engine.specs.Machines.{is_out_of_memory, IsConnectedBy}
use Rattle.irc_engine.specs.Noting.{far_of}
use Rattle.irc_layer.specs.declared.end.Cause.{Cause}
use Rattle.irc_layer.specs.declared.end.End.{End}
use Rattle.irc_layer.specs.declared.holding.Brought.{Brought}
use Rattle.irc_layer.specs.declared.layer.Layer.{Layer}
use Rattle.irc_layer.specs.Ends.{change_end, end_at, end_hearing, ends_followed, heard_if, met_if}
use Rattle.irc_layer.specs.Ends.{with_log_after, Ends}
use Rattle.irc_layer.specs.Asking.{asked_of, tell_parts}
use Rattle.irc_layer.specs.Holding.{brought_by, is_held, is_new}
use Rattle.irc_layer.specs.Putting.{all_put, body, count_at, ends_behind_all, with_count_out}

-- the server, the ends of its links, and the servers whose calls are without the word
pub record LayerView : Type 0 where
  pub server : Option View
  pub ends : Ends
  pub plain : List (List ℕ)

abbrev pub layer_view : Layer → LayerView
layer_view layer = record {
  server = layer.server;
  ends = end_at layer.ends;
  plain = layer.plain.items;
}

abbrev pub server_of : Layer → Option View
server_of layer = layer.server

-- what a layer was, and what was put out, before something and behind it
pub record State : Type 0 where
  pub layer : LayerView
  pub outs : List Sent

abbrev pub state_of : Layer → Batch → State
state_of layer out = record { layer = layer_view layer; outs = out.outs }

abbrev pub with_ends : Ends → State → State
with_ends ends state = record state { layer = record state.layer { ends = ends } }

abbrev pub putting : List Sent → State → State
putting more state = record state { outs = state.outs ++ more }

-- ---- the server is given an event

-- why something is put out: by the layer itself, or by an event that is no line of a link
abbrev pub by_itself : Cause
by_itself = record { arrival = None; mark = None; begins = false }

-- by a line of a link, and whether a channel begins by it
abbrev pub by_line : ℕ → (begins : Bool) → Cause
by_line link begins = record { arrival = Some link; mark = None; begins = begins }

-- what the server puts out goes on
pub record Passes (cause : Cause) (event : Event) (old new : State) : Type 0 where
  pub outs : List Sent
  pub is_handled : IsHandled old.layer.server event [] (Ok tt) new.layer.server outs
  pub ends_are : new.layer.ends ≡ ends_behind_all cause outs
      (ends_followed event old.layer.plain old.layer.ends)
  pub plain_is : new.layer.plain ≡ old.layer.plain
  pub outs_are : new.outs ≡ old.outs ++ all_put cause outs
      (ends_followed event old.layer.plain old.layer.ends)

-- the server refuses it, and nothing has changed
pub record IsRefusedBy (event : Event) (old new : State) (fault : ServerFault) : Type 0 where
  pub is_refused : IsHandled old.layer.server event [] (Err fault) old.layer.server []
  pub server_stays : new.layer.server ≡ old.layer.server
  pub ends_stay : new.layer.ends ≡ old.layer.ends
  pub plain_is : new.layer.plain ≡ old.layer.plain
  pub outs_stay : new.outs ≡ old.outs

-- it is handled; or it is refused, for another reason than want of memory
abbrev pub PassesOrNot : Bool → (cause : Cause) (event : Event) (old new : State) → Type 0
PassesOrNot true cause event old new = Passes cause event old new
PassesOrNot false cause event old new = (fault : ServerFault) × (is_out_of_memory fault ≡ false)
    × IsRefusedBy event old new fault

-- who is connected by it, or that nothing has changed
abbrev pub IsConnectedIf : Bool → Event → State → State → Type 0
IsConnectedIf true event old new =
    IsConnectedBy old.layer.server event old.outs new.layer.server new.outs
IsConnectedIf false event old new =
    (new.layer.server ≡ old.layer.server) × (new.outs ≡ old.outs)

-- ---- a line of a link

-- an end is met once the server knows who is at the other one
abbrev pub meets : ℕ → State → State
meets link state =
    with_ends (change_end link (met_if (is_some (far_of state.layer.server link)))
    state.layer.ends) state

-- the name of the server at the other end of a link, where it is known
abbrev pub peer_of : Option View → ℕ → List ℕ
peer_of server link = unwrap_or (far_of server link) []

-- the server is given a line, by which a channel begins, or none does
pub record Gives (begins : Bool) (link : ℕ) (line : List ℕ) (old new : State) : Type 0 where
  pub between : State
  pub is_taken : Bool
  pub passes : PassesOrNot is_taken (by_line link begins)
      (LinkLine link (record { items = line })) old between
  pub new_is : new ≡ meets link between

-- The server is told to set what a line of the server at the other end says; of a link that it does
-- not know it is told nothing.
abbrev pub by_setting : ℕ → Cause
by_setting link = record { arrival = Some link; mark = Some Set; begins = false }

pub record IsSet (link : ℕ) (line : List ℕ) (old new : State) : Type 0 where
  pub outs : List Sent
  pub is_set : IsSetBy old.layer.server link line [] (Ok tt) new.layer.server outs
  pub ends_are : new.layer.ends ≡ ends_behind_all (by_setting link) outs old.layer.ends
  pub plain_is : new.layer.plain ≡ old.layer.plain
  pub outs_are : new.outs ≡ old.outs ++ all_put (by_setting link) outs old.layer.ends

pub data Sets (link : ℕ) (line : List ℕ) (old new : State) : Type 0 where
  sets : IsSet link line old new → Sets link line old new
  not_open : (fault : ServerFault) → is_out_of_memory fault ≡ false
      → IsSetBy old.layer.server link line [] (Err fault) old.layer.server [] → new ≡ old
      → Sets link line old new

-- what of a line raises something in the server's channel is set, if anything does
abbrev pub raised_at : Option View → List ℕ → Option (List ℕ)
raised_at None line = None
raised_at (Some view) line = raised view.room (read_of line)

abbrev pub SetsIf : ℕ → Option (List ℕ) → State → State → Type 0
SetsIf link None old new = new ≡ old
SetsIf link (Some text) old new = Sets link (body text) old new

-- a line that is marked is set, of one that raises what it raises is, and another is given
abbrev pub Does : Option Mark → (raises begins : Bool) → ℕ → List ℕ → State → State → Type 0
Does None false begins link line old new = Gives begins link line old new
Does None true begins link line old new = SetsIf link (raised_at old.layer.server line) old new
Does (Some Set) raises begins link line old new = Sets link line old new

-- A user comes to a channel, as the server at the other end tells it.
abbrev pub member_by : List ℕ → (member : List ℕ × Flags) → (channel : List ℕ) → List ℕ
member_by peer member channel = body (text (njoin_parts peer channel (member ∷ [])))

abbrev pub BringsBy : Option (List ℕ) → (begins : Bool) → ℕ → (member : List ℕ × Flags)
    → (channel : List ℕ) → State → State → Type 0
BringsBy None begins link member channel old new = new ≡ old
BringsBy (Some peer) begins link member channel old new =
    Gives begins link (member_by peer member channel) old new

abbrev pub BringsOne : (begins : Bool) → ℕ → (member : List ℕ × Flags) → (channel : List ℕ)
    → State → State → Type 0
BringsOne begins link member channel old new =
    BringsBy (far_of old.layer.server link) begins link member channel old new

-- Users of one nickname are killed, as by the server at the other end.
abbrev pub kill_by : List ℕ → List ℕ → List ℕ
kill_by peer nick = body (text (kill_parts peer nick))

abbrev pub GivesKillBy : Option (List ℕ) → ℕ → List ℕ → State → State → Type 0
GivesKillBy None link nick old new = new ≡ old
GivesKillBy (Some peer) link nick old new = Gives false link (kill_by peer nick) old new

abbrev pub GivesKill : ℕ → List ℕ → State → State → Type 0
GivesKill link nick old new = GivesKillBy (far_of old.layer.server link) link nick old new

abbrev pub GivesKillIf : ℕ → Option (List ℕ) → State → State → Type 0
GivesKillIf link None old new = new ≡ old
GivesKillIf link (Some nick) old new = GivesKill link nick old new

pub record GivesKills (link : ℕ) (nick : List ℕ) (other : Option (List ℕ)) (old new : State)
    : Type 0 where
  pub between : State
  pub first : GivesKill link nick old between
  pub second : GivesKillIf link other between new

abbrev pub GivesAs : Given → Option Mark → (raises begins : Bool) → ℕ → List ℕ → State → State
    → Type 0
GivesAs AsItCame mark raises begins link line old new = Does mark raises begins link line old new
GivesAs (Changed text) mark raises begins link line old new =
    Does mark raises begins link (body text.items) old new
GivesAs LeftOut mark raises begins link line old new = new ≡ old
GivesAs (Kills nick other) mark raises begins link line old new =
    GivesKills link nick other old new
GivesAs (Brings nick channel op) mark raises begins link line old new =
    BringsOne begins link (nick, record { op = op; voice = false }) channel old new
GivesAs (SetsLine text) mark raises begins link line old new =
    Sets link (body text.items) old new

-- whether a line raises something where nobody of the other side may be left
abbrev pub raises_at : Option End → List ℕ → Bool
raises_at None line = false
raises_at (Some end) line = raises end.log line

-- what the server is given for a line of a piece; nothing where the link was closed before it
abbrev pub given_at : Option End → (peer : List ℕ) → Bool → List ℕ → Given
given_at None peer is_held line = LeftOut
given_at (Some end) peer is_held line = given end.log peer is_held line

-- ---- what the layer puts out itself

-- lines on a link, each of which is a piece
abbrev pub puts_out : Cause → ℕ → List (List ℕ) → State → State
puts_out cause link lines state =
    putting (all_put cause (map (line_on link) lines) state.layer.ends)
    (with_ends (ends_behind_all cause (map (line_on link) lines) state.layer.ends) state)

-- the other end is asked to tell of a channel, unless the link was closed by what it wrote
abbrev pub asked_at : Option End → (peer : List ℕ) → (is_held : Bool) → List ℕ → Option (List ℕ)
asked_at None peer is_held line = None
asked_at (Some end) peer is_held line = asked end.log peer is_held line

abbrev pub asking : Option (List ℕ) → ℕ → State → State
asking None link state = state
asking (Some channel) link state =
    if is_some (state.layer.ends link)
    then puts_out by_itself link (text (tell_parts channel) ∷ []) state else state

-- and what is told of one: all of it, whoever of it is left there by then. Lines are marked, for
-- what is set there is set also where no member is behind the link. No link has the number
-- 2^64 - 1, so that all members are on this side of it.
abbrev pub no_link : ℕ
no_link = 18446744073709551615

abbrev pub told_of : Option View → (channel : List ℕ) → List (List ℕ)
told_of None channel = []
told_of (Some view) channel = map text (channel_parts view.room view.routes no_link channel)

abbrev pub by_telling : Cause
by_telling = record { arrival = None; mark = Some Set; begins = false }

-- First of all how it is spelled: who comes to it by the lines behind that may be there already.
--   a.net has       #c, which al has begun, who is killed since, and in it bo
--   b.net has       #C, which bo has begun, and writes    TELL #C    upon :al JOIN #c\7o
--   a.net writes    :a.net NJOIN #c :, and :a.net NJOIN #c :bo
abbrev pub spelled_of : Option View → (channel : List ℕ) → Option (List ℕ)
spelled_of None channel = None
spelled_of (Some view) channel =
    option_map (λ (there : Channel). text (njoin_parts view.routes.name there.name []))
    (channel_at view.room (key channel))

abbrev pub spelling : ℕ → Option (List ℕ) → State → State
spelling link None state = state
spelling link (Some line) state = puts_out by_telling link (line ∷ []) state

abbrev pub telling : ℕ → (channel : List ℕ) → State → State
telling link channel state =
    puts_out by_telling link (told_of state.layer.server channel)
    (spelling link (spelled_of state.layer.server channel) state)

-- ---- a line of a piece

-- one that asks of no channel: what it brings decides how it is given, and whether this end asks
abbrev pub brings : State → ℕ → List ℕ → Brought
brings state link line = brought_by state.layer.server link (read_of line)

pub record HearsOther (mark : Option Mark) (link : ℕ) (line : List ℕ) (old new : State)
    : Type 0 where
  pub between : State
  pub is_given : GivesAs (given_at (old.layer.ends link) (peer_of old.layer.server link)
      (is_held (brings old link line)) line) mark (raises_at (old.layer.ends link) line)
      (is_new (brings old link line)) link line
      (with_ends (change_end link (with_log_after line) old.layer.ends) old) between
  pub new_is : new ≡ asking (asked_at (old.layer.ends link) (peer_of old.layer.server link)
      (is_held (brings old link line)) line) link between

abbrev pub HearsBy : (channel : Option (List ℕ)) → Option Mark → ℕ → List ℕ → State → State
    → Type 0
HearsBy None mark link line old new = HearsOther mark link line old new
HearsBy (Some channel) mark link line old new = new ≡ telling link channel old

abbrev pub HearsOne : Option Mark → ℕ → List ℕ → State → State → Type 0
HearsOne mark link line old new =
    HearsBy (option_and_then (asked_of line) (old.layer.ends link)) mark link line old new

-- all lines of a piece, in order
pub data HearsAll (mark : Option Mark) (link : ℕ) : List (List ℕ) → State → State → Type 0 where
  all_heard : {state : State} → HearsAll mark link [] state state
  hears_more : {line : List ℕ} {lines : List (List ℕ)} {old between new : State}
      → HearsOne mark link line old between → HearsAll mark link lines between new
      → HearsAll mark link (line ∷ lines) old new

-- the count goes alone, where so much was read that it is to
abbrev pub tells_count : ℕ → State → State
tells_count link state =
    putting (count_at link (state.layer.ends link))
    (with_ends (change_end link with_count_out state.layer.ends) state)

pub record HearsPiece (mark : Option Mark) (link : ℕ) (lines : List (List ℕ))
    (old new : State) : Type 0 where
  pub between : State
  pub heard : HearsAll mark link lines old between
  pub new_is : new ≡ tells_count link between

-- the link is closed, and the server is told that it is lost; one that it does not know is none
abbrev pub closing : Bool → ℕ → CloseReason → List Sent
closing true link reason = end_of_link link reason ∷ []
closing false link reason = []

pub record Shuts (link : ℕ) (reason : CloseReason) (old new : State) : Type 0 where
  pub between : State
  pub is_taken : Bool
  pub passes : PassesOrNot is_taken by_itself (LinkDown link) old between
  pub new_is : new ≡ putting (closing is_taken link reason) between

abbrev pub HearsAs : Heard → ℕ → State → State → Type 0
HearsAs heard.Nothing link old new = new ≡ old
HearsAs (heard.Piece piece) link old new = HearsPiece piece.mark link piece.lines old new
HearsAs (heard.Fault reason) link old new = Shuts link reason old new

abbrev pub HearsIf : Option End → ℕ → List ℕ → State → State → Type 0
HearsIf end link line old new =
    HearsAs (heard_if line end) link
    (with_ends (change_end link (end_hearing line) old.layer.ends) old) new

-- ---- an event

-- whether an event is a line of a link that has an end
abbrev pub is_heard : Event → Ends → Bool
is_heard (LinkLine link line) ends = is_some (ends link)
is_heard (LinkUp link name) ends = false
is_heard (LinkDown link) ends = false
is_heard (Connect conn host) ends = false
is_heard (Line conn line) ends = false
is_heard (Gone conn) ends = false

pub data Handles (old : State) (event : Event) (new : State) : Result (Unit {0}) ServerFault
    → Type 0 where
  passes : is_heard event old.layer.ends ≡ false → Passes by_itself event old new
      → Handles old event new (Ok tt)
  hears : (link : ℕ) (line : List ℕ) → event ≡ LinkLine link (record { items = line })
      → is_some (old.layer.ends link) ≡ true → HearsIf (old.layer.ends link) link line old new
      → Handles old event new (Ok tt)
  refuses : (fault : ServerFault) → is_heard event old.layer.ends ≡ false
      → is_out_of_memory fault ≡ false → IsRefusedBy event old new fault
      → Handles old event new (Err fault)
  wants_memory : (fault : ServerFault) → is_out_of_memory fault ≡ true
      → Handles old event new (Err fault)

-- what comes of an event that a layer is asked for
abbrev pub IsLayered : Layer → Event → List Sent → Result (Unit {0}) ServerFault → Layer
    → List Sent → Type 0
IsLayered old event before result new after =
    Handles (record { layer = layer_view old; outs = before }) event
    (record { layer = layer_view new; outs = after }) result

-- a layer around a server that no link is at
pub record IsAround (server : Option View) (plain : List (List ℕ)) (layer : Layer)
    : Type 0 where
  pub server_is : layer.server ≡ server
  pub plain_is : layer.plain.items ≡ plain
  pub no_ends : layer.ends.entries ≡ []
