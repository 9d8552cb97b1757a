-- The items of a step, as a server is told of them: what its clients do; and that items do not
-- overlap.
--
-- a.net and b.net are linked; al is client 1 at a.net, connection 9, and bo client 2 at b.net.
--   a.net reads `PRIVMSG bo :hi` of 9    an item, `line 1`; its line for b.net is in an outbox, and
--                                        then in transit
--   bo's line is read meanwhile          it overlaps with that
--   b.net reads the line of a.net        no item: what one server tells another is none
--   a.net loses 9 by a failed write      an item, `gone 1`
--   a.net loses 9, whose outbox is full  so is this
use Rattle.std.specs.Prelude.{◌≡◌, ℕ, ⊤, ◌++◌, Bool, true, false, not, ◌||◌, Some, List, [], ◌∷◌}
use Rattle.std.specs.List.{list_any, slice_get}
use Rattle.irc_outbox.specs.declared.wire.Ready.{Ready}
use Rattle.irc_outbox.specs.declared.wire.Ready.TheVariants.{Client, Linked, Idle, Readable}
use Rattle.irc_outbox.specs.declared.wire.Ready.TheVariants.{Writable}
use Rattle.irc_outbox.specs.Calls.{Call, reads}
use Rattle.arrayvec.specs.ArrayVec.{ArrayVec}
use Rattle.irc_batch.specs.Batches.{Sent, line_on}
use Rattle.irc_relay.specs.Links.{Name}
use Rattle.irc_server.specs.declared.event.Event.{Event}
use Rattle.irc_server.specs.declared.event.Event.TheVariants.{Connect, Line, Gone, LinkLine, LinkUp}
use Rattle.irc_world.specs.Stepping.{Item, connect, line, gone}
use Rattle.irc_pipes.specs.Pipes.{is_still}
use Rattle.irc_engine.specs.declared.engine.OutboxSizes.{OutboxSizes}
use Rattle.irc_engine.specs.declared.kind.ConnectionKind.{ConnectionKind}
use Rattle.irc_engine.specs.declared.kind.ConnectionKind.TheVariants as kinds
use Rattle.irc_engine.specs.Hearing.{nothing_of, only_of}
use Rattle.irc_engine.specs.Running.{Answers, AreAsked, ServerAsked, Moment, Ran, Reads, Starts}
use Rattle.irc_engine.specs.Running.{Turn}
use Rattle.irc_engine.specs.Running.{asked_at, in_use, makes_connection, not_open, read_once}
use Rattle.irc_names.specs.Names.{IsHost}
use Rattle.irc_daemons.specs.Daemons.{Daemons, pipe_between}
use Rattle.irc_daemons.specs.Doings.{ran_did}
use Rattle.irc_daemons.specs.Steps.{Steps}

-- ---- items

-- an event that a client of the server at a place causes, which connects from a host; clients have
-- their numbers in the network
pub data IsItem {W : Type 0} (names : List Name) (daemons : Daemons W) (place : ℕ) (event : Event)
    (item : Item) : Type 0 where
  is_connect : (conn : ℕ) (name host : List ℕ) → slice_get names place ≡ Some name → IsHost host
      → event ≡ Connect conn host → item ≡ connect name host → IsItem names daemons place event item
  is_line : (conn client : ℕ) (text : ArrayVec ℕ) → daemons.seats place client ≡ Some conn → event
      ≡ Line conn text → item ≡ line client text.items → IsItem names daemons place event item
  is_gone : (conn client : ℕ) → daemons.seats place client ≡ Some conn
      → event ≡ Gone conn → item ≡ gone client → IsItem names daemons place event item

abbrev pub is_link_line : Event → Bool
is_link_line (LinkLine link text) = true
is_link_line other = false

-- the items among these events, in turn; a line of another server is none
pub data AreItems {W : Type 0} (names : List Name) (daemons : Daemons W) (place : ℕ) : List Event
    → List Item → Type 0 where
  no_item : AreItems names daemons place [] []
  is_passed : (event : Event) (events : List Event) (items : List Item)
      → is_link_line event ≡ true → AreItems names daemons place events items
      → AreItems names daemons place (event ∷ events) items
  is_one : (event : Event) (events : List Event) (item : Item) (items : List Item)
      → IsItem names daemons place event item
      → AreItems names daemons place events items
      → AreItems names daemons place (event ∷ events) (item ∷ items)

-- ---- they do not overlap

-- between servers nothing is in transit or in an outbox, and no framer of a link's end has a part
-- of a line
abbrev pub IsQuiet : {W : Type 0} → Daemons W → Type 0
IsQuiet daemons = (x y : ℕ) → is_still (pipe_between daemons x y) ≡ true

-- whether there is an item among some events
abbrev pub has_item : List Event → Bool
has_item events = list_any (λ event. not (is_link_line event)) events

abbrev pub is_on_link : Sent → Bool
is_on_link (line_on link text) = true
is_on_link other = false

-- What the server puts out by each of these events goes on no link where an item comes behind,
-- among them or later.
abbrev pub AreSpaced : Bool → (events : List Event) (old new : ServerAsked) (outs : List Sent)
    → AreAsked old events outs new → Type 0
AreSpaced later [] old new outs asked = ⊤
AreSpaced later (event ∷ events) old new outs asked =
    ((later || has_item events) ≡ true → list_any is_on_link asked.first ≡ false)
    × AreSpaced later events asked.between new asked.more asked.rest_is

module _ {W : Type 0} (is_after : W → List Call → Type 0) where
  abbrev pub RanSpaced : (later : Bool) (exchanges : List Call) (first : List Event)
      (came : ℕ → List ℕ) (old new : Moment W) → Ran is_after exchanges first came old new → Type 0
  RanSpaced later exchanges first came old new ran =
      AreSpaced later (first ++ ran.events) (asked_at old) (asked_at new) ran.outs ran.are_asked

  abbrev pub StartsSpaced : (later : Bool) (kind : ConnectionKind) (room conn : ℕ) (event : Event)
      (old new : Moment W) → Starts is_after kind room conn event old new → Type 0
  StartsSpaced later kind room conn event old new (in_use used ran) =
      RanSpaced later [] [] nothing_of old new ran
  StartsSpaced later kind room conn event old new
      (makes_connection between free server journal wire lost waiting size set ran) =
      RanSpaced later [] (event ∷ []) nothing_of between new ran

  abbrev pub ReadsSpaced : (later : Bool) (conn : ℕ) (old new : Moment W)
      → Reads is_after conn old new → Type 0
  ReadsSpaced later conn old new (not_open closed ran) =
      RanSpaced later [] [] nothing_of old new ran
  ReadsSpaced later conn old new (read_once room answer bytes is_open as_large ran) =
      RanSpaced later (reads conn room answer bytes ∷ []) [] (only_of conn bytes) old new ran

  abbrev pub AnswersSpaced : (later : Bool) (sizes : OutboxSizes) (report : Ready)
      (old new : Moment W) → Answers is_after sizes report old new → Type 0
  AnswersSpaced later sizes Idle old new ran = RanSpaced later [] [] nothing_of old new ran
  AnswersSpaced later sizes (Client conn host) old new starts =
      StartsSpaced later kinds.Client sizes.client conn (Connect conn host) old new starts
  AnswersSpaced later sizes (Linked conn called) old new starts =
      StartsSpaced later kinds.Link sizes.link conn (LinkUp conn called) old new starts
  AnswersSpaced later sizes (Readable conn) old new done = ReadsSpaced later conn old new done
  AnswersSpaced later sizes (Writable conn) old new ran =
      RanSpaced later [] [] nothing_of old new ran

  -- the losses that are told as outboxes are written come last
  abbrev pub TurnSpaced : (sizes : OutboxSizes) (old new : Moment W) → Turn is_after sizes old new
      → Type 0
  TurnSpaced sizes old new turn =
      AnswersSpaced
      (has_item (ran_did is_after turn.does.writes.exchanges [] nothing_of turn.does.between new
      turn.does.writes.ran).events) sizes turn.report
      (record old { wire = turn.wire }) turn.does.between turn.does.answers
      × RanSpaced false turn.does.writes.exchanges [] nothing_of turn.does.between new
      turn.does.writes.ran

-- A step with an item begins where all is quiet, and of its items only the last puts something on
-- a link.
pub record IsApartStep {W : Type 0} {is_after : W → List Call → Type 0} {place : ℕ}
    {old new : Daemons W} (step : Steps is_after place old new) : Type 0 where
  pub quiet : has_item step.did.events ≡ true → IsQuiet old
  pub spaced : TurnSpaced is_after step.engine.sizes step.engine.now step.after.now step.turn
