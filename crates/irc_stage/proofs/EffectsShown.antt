-- An effect at a server: its line goes to those that hear it, and the room machine is the one after
-- it.
use Rattle.std.proofs.Common.{◌≡◌, ℕ, Bool, true, false, not, ◌&&◌, if◌then◌else◌, Option, Some}
use Rattle.std.proofs.Common.{None}
use Rattle.std.proofs.Common.{List, [], ◌∷◌, ◌++◌, refl, sym, ◌∙◌, ap, subst, filter}
use Rattle.std.specs.FinMap.{find, get-entries}
use Rattle.std.specs.List.{flat_map, list_all}
use Rattle.std.proofs.lemmas.Option.{none-some}
use Rattle.std.specs.Cmp.{first_so, second_so}
use Rattle.arrayvec.specs.ArrayVec.{ArrayVec}
use Rattle.irc_names.specs.Fold.{key}
use Rattle.irc_names.specs.Tables.{Table, fold_cmp, row}
use Rattle.irc_users.specs.declared.user.User.{User as Person}
use Rattle.irc_room.specs.effect.Effect.{Effect}
use Rattle.irc_room.specs.effect.Effect.TheVariants.{Say}
use Rattle.irc_room.specs.effect.Target.{Target}
use Rattle.irc_room.specs.effect.Target.TheVariants.{User, Channel}
use Rattle.irc_room.specs.After.{after}
use Rattle.irc_room.specs.Applying.{ServerRoom}
use Rattle.irc_room.specs.Effects.{has_user, needs_users, IsPossible}
use Rattle.irc_room.specs.Room.{Room, IsWellFormed}
use Rattle.irc_room.specs.Seen.{seen, shown_line}
use Rattle.irc_batch.specs.Batches.{Batch, Sent, batch_of, is_number, line_to}
use Rattle.irc_stage.specs.Loops.Around.{machine_in, StaysRight}
use Rattle.irc_stage.specs.Loops.Branching.{IsRightIn, KnowsNothing}
use Rattle.irc_stage.specs.declared.listeners.Listeners.{Listeners}
use Rattle.irc_stage.specs.declared.ways.Around.{Around}
use Rattle.irc_stage.specs.EffectTold.{changed, is_elsewhere}
use Rattle.irc_stage.specs.declared.ways.Ways.{Ways}
use Rattle.irc_stage.specs.declared.clients.ClientTable.{ClientTable}
use Rattle.irc_stage.specs.declared.origin.Origin.{Origin}
use Rattle.irc_stage.specs.declared.parts.ServerParts.{ServerParts}
use Rattle.irc_stage.specs.RoomMachine.{Clients, RoomMachine}
use Rattle.irc_stage.specs.Handle.{Handled, clients_after, machine_after, to_viewer, with_effect}
use Rattle.irc_stage.specs.Loops.Hearing.{hearers, is_nick_of, line_of, sees_fold, to_each}
use Rattle.irc_stage.specs.Loops.Hearing.{IsLineOf, SendsTo}
use Rattle.irc_stage.specs.Loops.Listening.{Conns, Lists, conn_as, conn_in, conns_at, conns_in}
use Rattle.irc_stage.specs.Loops.Listening.{index_after, is_in, AreSo}
use Rattle.irc_stage.specs.Loops.Listening.{IsSaid, IsSaidIn, IsSaidTo}
use Rattle.irc_stage.specs.Loops.Speaking.{conn_of, IsSpoken}
use Rattle.irc_stage.specs.Loops.Parts.{clients_of, served_at, view_of, IsFit, IsIndex, IsIndexed}
use Rattle.irc_stage.specs.Loops.Parts.{IsReady, IsSound}
use Rattle.irc_stage.proofs.Conns.{but_one, nick_is}
use Rattle.irc_stage.proofs.Followed.{so_in}
use Rattle.irc_stage.proofs.HeardLines.{heard_out, sent}
use Rattle.irc_stage.proofs.Hearing.{channel_heard, one_heard, told_outs}
use Rattle.irc_stage.proofs.PassedOver.{is_its_conn}

-- ---- what is said

-- whoever says something
said_is : {A : Type 0} (IsFor : Target → Type 0) (effect : Effect) → IsSaid IsFor effect
    → ((by : List ℕ) (notice : Bool) (target : Target) (words : ArrayVec ℕ)
    → effect ≡ Say by notice target words → IsFor target → A) → A
said_is IsFor (Say by notice target words) said gives = gives by notice target words refl said
said_is IsFor other said gives = absurd said

module _ (machine : RoomMachine) (by_nick : Table ℕ) (index : IsIndex machine.clients by_nick)
    (well : IsWellFormed machine.room) (effect : Effect) where
  -- in a channel those that listen there hear it, but for who says it
  pub passed_on : (origin : Origin) → IsSpoken origin machine effect → (channel : List ℕ)
      → IsSaidIn channel effect → (lists : Lists) → AreSo lists machine.room by_nick
      → filter (λ conn. not (is_number (conn_of origin) conn)) (conns_at lists (key channel))
      ≡ hearers machine.room by_nick effect
  passed_on origin spoken channel said lists so =
      said_is (λ target. target ≡ Channel channel) effect said (λ by notice target words is for.
      ap (λ o. filter (λ conn. not (is_number o conn)) (conns_at lists (key channel)))
      (is_its_conn origin machine by_nick index by notice target words
      (subst (IsSpoken origin machine) is spoken))
      ∙ ap (filter (λ conn. not (is_number (row by_nick (key by)) conn)))
      (channel_heard machine.room well by_nick lists so channel)
      ∙ but_one machine.clients by_nick index by
      (λ q. is_in machine.room q (key channel)) machine.room
      ∙ ap (hearers machine.room by_nick)
      (sym (is ∙ ap (λ target. Say by notice target words) for)))

  -- a user hears it alone
  pub told_on : (nick : List ℕ) → IsSaidTo nick effect → IsPossible machine.room effect
      → conn_as by_nick nick ≡ hearers machine.room by_nick effect
  told_on nick said possible =
      said_is (λ target. target ≡ User nick) effect said (λ by notice target words is for.
      let said_so : effect ≡ Say by notice (User nick) words =
      is ∙ ap (λ target. Say by notice target words) for in
      one_heard machine.room well by_nick nick
      (first_so _ true (second_so _ _ (sym (ap (λ e. list_all (has_user machine.room)
      (needs_users e)) said_so) ∙ possible.users_there)))
      ∙ ap (hearers machine.room by_nick) (sym said_so))

  pub told_alone : (nick : List ℕ) → IsSaidTo nick effect → (q : List ℕ)
      → sees_fold machine.room effect q ≡ true → key nick ≡ q
  told_alone nick said q sees =
      said_is (λ target. target ≡ User nick) effect said (λ by notice target words is for.
      nick_is nick q (sym (ap (λ e. sees_fold machine.room e q)
      (is ∙ ap (λ target. Say by notice target words) for)) ∙ sees))

  -- nobody hears what is said where nobody listens
  pub unheard : (channel : List ℕ) → IsSaidIn channel effect → (lists : Lists)
      → AreSo lists machine.room by_nick → conns_in (row lists (key channel)) ≡ []
      → (q : List ℕ) (conn : ℕ) → sees_fold machine.room effect q ≡ true
      → row by_nick q ≡ Some conn → ⊥
  unheard channel said lists so none q conn sees at =
      said_is (λ target. target ≡ Channel channel) effect said (λ by notice target words is for.
      none-some conn
      (sym (nothing_at (row lists (key channel)) q none)
      ∙ so.at (key channel) q
      ∙ ap (λ b. if b then row by_nick q else None)
      (second (is_nick_of by q) (is_in machine.room q (key channel))
      (sym (ap (λ e. sees_fold machine.room e q)
      (is ∙ ap (λ target. Say by notice target words) for)) ∙ sees))
      ∙ at))
    where
      second : (a b : Bool) → (not a && b) ≡ true → b ≡ true
      second true b is = cc is
      second false b is = is

      nothing_at : (o : Option Conns) (q : List ℕ) → conns_in o ≡ [] → conn_in o q ≡ None
      nothing_at None q none = refl
      nothing_at (Some conns) q none = get-entries conns q ∙ ap (find fold_cmp q) none

  -- it is never idle, and changes nothing
  said_line : (IsFor : Target → Type 0) → IsSaid IsFor effect → (viewer : Person)
      → line_of machine.room effect viewer ≡ shown_line machine.room effect viewer
  said_line IsFor said viewer =
      said_is IsFor effect said (λ by notice target words is for.
      ap (λ e. line_of machine.room e viewer) is
      ∙ ap (λ e. shown_line machine.room e viewer) (sym is))

  nothing_else : (IsFor : Target → Type 0) → IsSaid IsFor effect
      → machine_after machine effect ≡ machine
  unfolding after
  nothing_else IsFor said =
      said_is IsFor effect said (λ by notice target words is for. ap (machine_after machine) is)

  said_out : (IsFor : Target → Type 0) → IsSaid IsFor effect → IsFit machine effect
      → (line : Option (List ℕ)) → ((viewer : Person) (conn : ℕ) → sees_fold machine.room effect
      (key viewer.nick) ≡ true → row by_nick (key viewer.nick) ≡ Some conn
      → viewer.home ≡ machine.place.name → shown_line machine.room effect viewer ≡ line)
      → (conns : List ℕ) → conns ≡ hearers machine.room by_nick effect
      → (out : List Sent) → record { state = machine; out = out ++ sent line conns }
      ≡ with_effect effect (record { state = machine; out = out })
  said_out IsFor said fit line shows conns are out =
      ap (λ m. record { state = m; out = out ++ sent line conns }) (sym (nothing_else IsFor said))
      ∙ ap (λ l. record { state = machine_after machine effect; out = out ++ l })
      (ap (sent line) are
      ∙ sym (heard_out machine.room machine.clients by_nick index effect machine.place.name
      fit.at_home line
      (λ viewer conn sees at home. said_line IsFor said viewer
      ∙ shows viewer conn sees at home) well))

  -- and what is put out is what the clients are shown
  pub said_heard : (IsFor : Target → Type 0) → IsSaid IsFor effect → IsFit machine effect
      → (line : Option (List ℕ)) → ((viewer : Person) (conn : ℕ) → sees_fold machine.room effect
      (key viewer.nick) ≡ true → row by_nick (key viewer.nick) ≡ Some conn
      → viewer.home ≡ machine.place.name → shown_line machine.room effect viewer ≡ line)
      → (conns : List ℕ) → conns ≡ hearers machine.room by_nick effect
      → (out out_after : List Sent) → out_after ≡ out ++ sent line conns → out_after
      ≡ out ++ flat_map (to_viewer machine.clients) (seen machine.room effect)
  said_heard IsFor said fit line shows conns are out out_after is =
      is ∙ ap (λ (h : Handled). h.out) (said_out IsFor said fit line shows conns are out)

-- ---- what is put out

-- a line to these connections
pub put_to_each : (out after : Batch) (line conns : List ℕ) → SendsTo line conns out after
    → after.outs ≡ out.outs ++ to_each line conns
put_to_each out after line conns is = ap (λ (b : Batch). b.outs) is ∙ told_outs line conns out

pub put_to_one : (out after : Batch) (conn : ℕ) (line line' : List ℕ) (conns : List ℕ)
    → after ≡ batch_of (out.outs ++ line_to conn line ∷ []) line → line ≡ line' → conns ≡ conn ∷ []
    → after.outs ≡ out.outs ++ to_each line' conns
put_to_one out after conn line line' conns after_is line_is are =
    ap (λ (b : Batch). b.outs) after_is
    ∙ ap (λ l. out.outs ++ line_to conn l ∷ []) line_is
    ∙ ap (λ cs. out.outs ++ to_each line' cs) (sym are)

-- ---- what changes the room

-- whichever line there is, it goes to those that hear it
pub shown_to_hearers : (around : Around) (effect : Effect) → IsIndexed around.clients.now
    → IsWellFormed around.room.now.room → around.room.now.own ≡ around.routes.now.name
    → IsFit (machine_in around) effect → (line : Option (List ℕ))
    → IsLineOf around.room.now effect line
    → flat_map (to_viewer (clients_of around.clients.now)) (seen around.room.now.room effect)
    ≡ sent line (hearers around.room.now.room around.clients.now.by_nick effect)
shown_to_hearers around effect indexed well own fit line shows =
    heard_out around.room.now.room (clients_of around.clients.now) around.clients.now.by_nick
    indexed effect around.routes.now.name fit.at_home line
    (λ viewer conn sees at home. shows viewer (home ∙ sym own)) well

-- what is said leaves the room as it is
pub nothing_said : (kept : ServerRoom) (effect : Effect) (by : List ℕ) (notice : Bool)
    (target : Target)
    (words : ArrayVec ℕ) → effect ≡ Say by notice target words
    → kept ≡ record kept { room = after kept.room effect }
unfolding after
nothing_said kept effect by notice target words is =
    ap (λ e. record kept { room = after kept.room e }) (sym is)

pub right_by_none : (old new : Ways) (before now : Room) → KnowsNothing new
    → StaysRight old before new now
right_by_none old new before now none = λ known is channel at. cc (sym none ∙ at)

module _ (old : ServerParts) (effect : Effect) (kept : ServerRoom)
    (kept_is : kept ≡ record old.room { room = after old.room.room effect }) where
  -- the server after it
  pub changed_by : (clients : Clients) → clients ≡ clients_after effect (clients_of old.clients)
      → (out out_after : List Sent) → out_after
      ≡ out ++ flat_map (to_viewer (clients_of old.clients)) (seen old.room.room effect)
      → is_elsewhere (view_of old) effect ≡ false → record {
        state = record (view_of old) { clients = clients; room = kept.room };
        out = out_after;
      } ≡ changed effect (served_at old out)
  changed_by clients clients_are out out_after out_is here =
      ap (λ (k : ServerRoom). record {
        state = record (view_of old) { clients = clients; room = k.room };
        out = out_after;
      }) kept_is
      ∙ ap (λ (cs : Clients). record {
        state = record (view_of old) {
          clients = cs;
          room = after old.room.room effect;
        };
        out = out_after;
      }) clients_are
      ∙ ap (λ o. record {
        state = record (view_of old) {
          clients = clients_after effect (clients_of old.clients);
          room = after old.room.room effect;
        };
        out = o;
      }) out_is
      ∙ ap (λ b. record {
        state = record (view_of old) {
          clients = clients_after effect (clients_of old.clients);
          room = if b then old.room.room else after old.room.room effect;
        };
        out = out ++ (if b then []
            else flat_map (to_viewer (clients_of old.clients)) (seen old.room.room effect));
      }) (sym here)

  -- and it is ready still
  pub ready_after : IsReady old → IsSound kept → (clients : ClientTable) → IsIndexed clients
      → clients.by_nick ≡ index_after effect old.clients.by_nick → (listeners : Listeners)
      → AreSo listeners.lists (after old.room.room effect) (index_after effect old.clients.by_nick)
      → (ways : Ways) → IsRightIn ways kept.room old.routes
      → IsReady (record old {
        clients = clients;
        room = kept;
        listeners = listeners;
        ways = ways;
      })
  ready_after ready sound clients indexed by_nick listeners so ways right = record {
    own_is = ap (λ (k : ServerRoom). k.own) kept_is ∙ ready.own_is;
    sound = sound;
    indexed = indexed;
    heard = so_in listeners.lists old.room kept effect _ _ kept_is by_nick so;
    branches = right;
    met = ready.met;
  }

-- with other links at hand it is ready too
pub ready_with : (old : ServerParts) → IsReady old → (ways : Ways)
    → IsRightIn ways old.room.room old.routes → IsReady (record old { ways = ways })
ready_with old ready ways right = record {
  own_is = ready.own_is;
  sound = ready.sound;
  indexed = ready.indexed;
  heard = ready.heard;
  branches = right;
  met = ready.met;
}
