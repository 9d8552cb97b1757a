-- What an engine and its server know of each other stays so, step by step.
use mathlib.Core.Bool.{Bool-set}
use Rattle.std.proofs.Common.{◌≡◌, ℕ, Bool, true, false, not, ◌&&◌, ◌||◌, cond, nat_eq, is_some}
use Rattle.std.proofs.Common.{Option, Some, None, List, [], ◌∷◌, ◌++◌, refl, sym, ◌∙◌, ap}
use Rattle.std.proofs.Common.{subst}
use Rattle.std.specs.FinMap.{get}
use Rattle.std.proofs.Math.Bool.{or_comm, or-false, and-true, and-false}
use Rattle.std.proofs.lemmas.Bool.{eqb-true}
use Rattle.irc_names.specs.Lemmas.PlainFacts.{none_if_not_some}
use Rattle.arrayvec.specs.ArrayVec.{ArrayVec}
use Rattle.irc_batch.specs.Batches.{Sent, end_of, end_of_link, line_on, line_to}
use Rattle.irc_outbox.specs.Calls.{Call}
use Rattle.irc_stage.specs.View.{End, View}
use Rattle.irc_stage.specs.declared.clients.Client.{Client}
use Rattle.irc_server.specs.declared.event.Event.{Event}
use Rattle.irc_server.specs.declared.event.Event.TheVariants.{Connect, Line, Gone, LinkUp, LinkLine}
use Rattle.irc_server.specs.declared.event.Event.TheVariants.{LinkDown}
use Rattle.irc_server.specs.declared.event.ServerFault.{ServerFault}
use Rattle.irc_server.specs.Served.{ReadEvent, fault_of, link_there, no_link, not_there, there}
use Rattle.irc_server.specs.ReadEvents.{read_event_of}
use Rattle.irc_server.specs.Connected.{client_comes, client_goes, is_client_ended}
use Rattle.irc_server.specs.Connected.{is_link_ended, link_comes, link_goes}
use Rattle.irc_engine.specs.Machines.{is_out_of_memory, is_owed, ran_out_before, runs_out_now}
use Rattle.irc_engine.specs.Machines.{AreConnectedBy, AreStillConnected, IsConnectedBy, IsRefusal}
use Rattle.irc_engine.specs.Machines.{IsStillConnected}
use Rattle.irc_engine.specs.declared.connections.Connections.{Connections}
use Rattle.irc_engine.specs.declared.kind.ConnectionKind.{ConnectionKind}
use Rattle.irc_engine.specs.declared.kind.ConnectionKind.TheVariants as kinds
use Rattle.irc_engine.specs.declared.connection_table.Connection.{Connection}
use Rattle.irc_engine.specs.declared.connection_table.ConnectionTable.{ConnectionTable}
use Rattle.irc_engine.specs.Carrying.{fresh_connection, is_closed_by, is_open_at, kind_at}
use Rattle.irc_engine.specs.Carrying.{open_kind_at, Fate, KeepsKind, IsOfKind, kind_of_connection}
use Rattle.irc_engine.specs.Carrying.{kind_of_loss, Passage}
use Rattle.irc_engine.specs.Hearing.{end_event_of, line_event_of}
use Rattle.irc_engine.specs.Knowing.{is_client, is_link, kind_after, known_kind, HasAs, HasNobody}
use Rattle.irc_engine.specs.Knowing.{IsArrival, IsAtOne, IsOf, IsSettled, IsToHear}
use Rattle.irc_engine.specs.Loops.Tables.{at_connection, no_connection, FramesAt}
use Rattle.irc_engine.specs.Moments.{connection_of, lost_at}
use Rattle.irc_engine.specs.Loops.Tables.{IsSet}
use Rattle.irc_engine.specs.Loops.Connections.{lost_by, Carries, Loses}
use Rattle.irc_engine.proofs.EachConnection.{set_here}

-- ---- booleans

stays : (b : Bool) → ((b || false) && true) ≡ b
stays true = refl
stays false = refl

comes_in : (b : Bool) → ((b || true) && true) ≡ true
comes_in true = refl
comes_in false = refl

gone_or : (x g : Bool) → (x && not (g || true)) ≡ false
gone_or true true = refl
gone_or true false = refl
gone_or false g = refl

or_first : (a c x y : Bool) → c ≡ (x || y) → (a || c) ≡ ((a || x) || y)
or_first true c x y is = refl
or_first false c x y is = is

or_second : (a c x y : Bool) → c ≡ (x || y) → (a || c) ≡ (x || (a || y))
or_second true c true y is = refl
or_second true c false y is = refl
or_second false c x y is = is

-- ---- whom a server has behind an event

-- one is closed as a client or as a link
closed_by_either : (conn : ℕ) (outs : List Sent)
    → is_closed_by conn outs ≡ (is_client_ended conn outs || is_link_ended conn outs)
closed_by_either conn [] = refl
closed_by_either conn (line_to to text ∷ outs) = closed_by_either conn outs
closed_by_either conn (line_on link text ∷ outs) = closed_by_either conn outs
closed_by_either conn (end_of which ∷ outs) =
    or_first (nat_eq which conn) (is_closed_by conn outs) (is_client_ended conn outs)
    (is_link_ended conn outs) (closed_by_either conn outs)
closed_by_either conn (end_of_link which reason ∷ outs) =
    or_second (nat_eq which conn) (is_closed_by conn outs) (is_client_ended conn outs)
    (is_link_ended conn outs) (closed_by_either conn outs)

-- One of one kind is there behind an event just where it is to be, but for those that are closed,
-- as one of either kind.
module _ (f g : Option ConnectionKind → Bool) (nobody : f None ≡ false)
    (apart : (kind : Option ConnectionKind) → g kind ≡ true → f kind ≡ false) where
  of_the_other : (kind : Option ConnectionKind) (y goes : Bool) → (y && not goes) ≡ g kind
      → (goes ≡ true → kind ≡ None) → y ≡ true → f kind ≡ false
  of_the_other kind y true is gone there = ap f (gone refl) ∙ nobody
  of_the_other kind y false is gone there = apart kind (sym is ∙ and-true y ∙ there)

  there_unless_closed : (kind : Option ConnectionKind)
      (x y goes other_goes ended other_ended : Bool) → (x && not goes) ≡ f kind
      → (y && not other_goes) ≡ g kind → (other_goes ≡ true → kind ≡ None) → (other_ended ≡ true
      → y ≡ true) → (x && not (goes || ended)) ≡ f (cond (ended || other_ended) None kind)
  there_unless_closed kind x y goes other_goes true other_ended is other gone there = gone_or x goes
      ∙ sym nobody
  there_unless_closed kind x y goes other_goes false true is other gone there =
      ap (λ t. x && not t) (or-false goes) ∙ is
      ∙ of_the_other kind y other_goes other gone (there refl) ∙ sym nobody
  there_unless_closed kind x y goes other_goes false false is other gone there =
      ap (λ t. x && not t) (or-false goes) ∙ is

link_is_no_client : (kind : Option ConnectionKind) → is_link kind ≡ true → is_client kind ≡ false
link_is_no_client None is = refl
link_is_no_client (Some kinds.Client) is = cc is
link_is_no_client (Some kinds.Link) is = refl

client_is_no_link : (kind : Option ConnectionKind) → is_client kind ≡ true → is_link kind ≡ false
client_is_no_link None is = refl
client_is_no_link (Some kinds.Client) is = refl
client_is_no_link (Some kinds.Link) is = cc is

at_number : (known : ℕ → Option ConnectionKind) (conn q : ℕ) (kind : Option ConnectionKind)
    → known conn ≡ kind → nat_eq conn q ≡ true → known q ≡ kind
at_number known conn q kind is one = ap known (sym (eqb-true conn q one)) ∙ is

-- which clients an event brings and takes
client_by : (event : Event) (known : ℕ → Option ConnectionKind) → IsOf event known
    → (q : ℕ) → ((is_client (known q) || client_comes q (read_event_of event))
    && not (client_goes q (read_event_of event))) ≡ is_client (kind_after event q (known q))
client_by (Connect conn host) known due q = by (nat_eq conn q)
  where
    by : (t : Bool)
        → ((is_client (known q) || t) && true) ≡ is_client (cond t (Some kinds.Client) (known q))
    by true = comes_in (is_client (known q))
    by false = stays (is_client (known q))
client_by (Line conn line) known due q = stays (is_client (known q))
client_by (Gone conn) known due q = by (nat_eq conn q)
  where
    by : (t : Bool) → ((is_client (known q) || false) && not t) ≡ is_client (cond t None (known q))
    by true = and-false (is_client (known q) || false)
    by false = stays (is_client (known q))
client_by (LinkUp link starts) known due q = by (nat_eq link q) refl
  where
    by : (t : Bool) → nat_eq link q ≡ t
        → ((is_client (known q) || false) && true) ≡ is_client (cond t (Some kinds.Link) (known q))
    by true one = stays (is_client (known q)) ∙ ap is_client (at_number known link q None due one)
    by false two = stays (is_client (known q))
client_by (LinkLine link line) known due q = stays (is_client (known q))
client_by (LinkDown link) known due q = by (nat_eq link q) refl
  where
    by : (t : Bool) → nat_eq link q ≡ t
        → ((is_client (known q) || false) && true) ≡ is_client (cond t None (known q))
    by true one = stays (is_client (known q))
        ∙ ap is_client (at_number known link q (Some kinds.Link) due one)
    by false two = stays (is_client (known q))

-- and which links
link_by : (event : Event) (known : ℕ → Option ConnectionKind) → IsOf event known
    → (q : ℕ) → ((is_link (known q) || link_comes q (read_event_of event))
    && not (link_goes q (read_event_of event))) ≡ is_link (kind_after event q (known q))
link_by (Connect conn host) known due q = by (nat_eq conn q) refl
  where
    by : (t : Bool) → nat_eq conn q ≡ t
        → ((is_link (known q) || false) && true) ≡ is_link (cond t (Some kinds.Client) (known q))
    by true one = stays (is_link (known q)) ∙ ap is_link (at_number known conn q None due one)
    by false two = stays (is_link (known q))
link_by (Line conn line) known due q = stays (is_link (known q))
link_by (Gone conn) known due q = by (nat_eq conn q) refl
  where
    by : (t : Bool) → nat_eq conn q ≡ t
        → ((is_link (known q) || false) && true) ≡ is_link (cond t None (known q))
    by true one =
        stays (is_link (known q)) ∙ ap is_link (at_number known conn q (Some kinds.Client) due one)
    by false two = stays (is_link (known q))
link_by (LinkUp link starts) known due q = by (nat_eq link q)
  where
    by : (t : Bool)
        → ((is_link (known q) || t) && true) ≡ is_link (cond t (Some kinds.Link) (known q))
    by true = comes_in (is_link (known q))
    by false = stays (is_link (known q))
link_by (LinkLine link line) known due q = stays (is_link (known q))
link_by (LinkDown link) known due q = by (nat_eq link q)
  where
    by : (t : Bool) → ((is_link (known q) || false) && not t) ≡ is_link (cond t None (known q))
    by true = and-false (is_link (known q) || false)
    by false = stays (is_link (known q))

client_gone : (event : Event) (q : ℕ) (was : Option ConnectionKind)
    → client_goes q (read_event_of event) ≡ true → kind_after event q was ≡ None
client_gone (Connect conn host) q was is = cc is
client_gone (Line conn line) q was is = cc is
client_gone (Gone conn) q was is = ap (λ t. cond t None was) is
client_gone (LinkUp link starts) q was is = cc is
client_gone (LinkLine link line) q was is = cc is
client_gone (LinkDown link) q was is = cc is

link_gone : (event : Event) (q : ℕ) (was : Option ConnectionKind)
    → link_goes q (read_event_of event) ≡ true → kind_after event q was ≡ None
link_gone (Connect conn host) q was is = cc is
link_gone (Line conn line) q was is = cc is
link_gone (Gone conn) q was is = cc is
link_gone (LinkUp link starts) q was is = cc is
link_gone (LinkLine link line) q was is = cc is
link_gone (LinkDown link) q was is = ap (λ t. cond t None was) is

-- ---- no refusal

there_none : (client : Option Client) → is_some client ≡ false → there client ≡ None
there_none None is = refl
there_none (Some client) is = cc is

there_some : (client : Option Client) → is_some client ≡ true → not_there client ≡ None
there_some None is = cc is
there_some (Some client) is = refl

link_none : (end : Option End) → is_some end ≡ false → link_there end ≡ None
link_none None is = refl
link_none (Some end) is = cc is

link_some : (end : Option End) → is_some end ≡ true → no_link end ≡ None
link_some None is = cc is
link_some (Some end) is = refl

module _ (view : View) (known : ℕ → Option ConnectionKind)
    (has : (q : ℕ) → HasAs view q (known q)) where
  no_fault : (event : Event) → IsOf event known → fault_of view event ≡ None
  no_fault (Connect conn host) due =
      there_none (get view.clients conn) ((has conn).0 ∙ ap is_client due)
  no_fault (Line conn line) due =
      there_some (get view.clients conn) ((has conn).0 ∙ ap is_client due)
  no_fault (Gone conn) due = there_some (get view.clients conn) ((has conn).0 ∙ ap is_client due)
  no_fault (LinkUp link starts) due = link_none (get view.ends link) ((has link).1 ∙ ap is_link due)
  no_fault (LinkLine link line) due = link_some (get view.ends link) ((has link).1 ∙ ap is_link due)
  no_fault (LinkDown link) due = link_some (get view.ends link) ((has link).1 ∙ ap is_link due)

  -- behind the event it has just those whom it is to have, but for those that are closed by it
  has_after : (event : Event) → IsOf event known → (new : View) (out : List Sent)
      → AreConnectedBy view (read_event_of event) out new → (q : ℕ)
      → HasAs new q (cond (is_closed_by q out) None (kind_after event q (known q)))
  has_after event due new out after q = (
    after.clients q ∙ ap (λ t. (t || client_comes q now)
        && not (client_goes q now || is_client_ended q out)) (has q).0
        ∙ there_unless_closed is_client is_link refl link_is_no_client kind
        (is_client (known q) || client_comes q now) (is_link (known q) || link_comes q now)
        (client_goes q now) (link_goes q now) (is_client_ended q out) (is_link_ended q out)
        (client_by event known due q) (link_by event known due q)
        (link_gone event q (known q)) link_was
        ∙ ap (λ t. is_client (cond t None kind)) (sym (closed_by_either q out)),
    after.links q ∙ ap
        (λ t. (t || link_comes q now) && not (link_goes q now || is_link_ended q out)) (has q).1
        ∙ there_unless_closed is_link is_client refl client_is_no_link kind
        (is_link (known q) || link_comes q now) (is_client (known q) || client_comes q now)
        (link_goes q now) (client_goes q now) (is_link_ended q out) (is_client_ended q out)
        (link_by event known due q) (client_by event known due q)
        (client_gone event q (known q)) client_was
        ∙ ap (λ t. is_link (cond t None kind))
        (or_comm (is_link_ended q out) (is_client_ended q out) ∙ sym (closed_by_either q out)),
  )
    where
      now : ReadEvent
      now = read_event_of event

      kind : Option ConnectionKind
      kind = kind_after event q (known q)

      link_was : is_link_ended q out ≡ true → (is_link (known q) || link_comes q now) ≡ true
      link_was ended =
          sym (ap (λ t. t || link_comes q now) (has q).1) ∙ after.links_were_there q ended

      client_was : is_client_ended q out ≡ true → (is_client (known q) || client_comes q now) ≡ true
      client_was ended =
          ap (λ t. t || client_comes q now) (sym (has q).0 ∙ after.clients_were_there q ended)

  -- and so behind what is put out by no event
  has_still : (new : View) (out : List Sent) → AreStillConnected view out new → (q : ℕ)
      → HasAs new q (cond (is_closed_by q out) None (known q))
  has_still new out after q = (
    after.clients q ∙ ap (λ t. t && not (is_client_ended q out)) (has q).0
        ∙ there_unless_closed is_client is_link refl link_is_no_client (known q)
        (is_client (known q)) (is_link (known q)) false false (is_client_ended q out)
        (is_link_ended q out) (and-true (is_client (known q))) (and-true (is_link (known q)))
        (λ never. cc never) link_was
        ∙ ap (λ t. is_client (cond t None (known q))) (sym (closed_by_either q out)),
    after.links q ∙ ap (λ t. t && not (is_link_ended q out)) (has q).1
        ∙ there_unless_closed is_link is_client refl client_is_no_link (known q)
        (is_link (known q)) (is_client (known q)) false false (is_link_ended q out)
        (is_client_ended q out) (and-true (is_link (known q))) (and-true (is_client (known q)))
        (λ never. cc never) client_was
        ∙ ap (λ t. is_link (cond t None (known q)))
        (or_comm (is_link_ended q out) (is_client_ended q out) ∙ sym (closed_by_either q out)),
  )
    where
      link_was : is_link_ended q out ≡ true → is_link (known q) ≡ true
      link_was ended = sym (has q).1 ∙ after.links_were_there q ended

      client_was : is_client_ended q out ≡ true → is_client (known q) ≡ true
      client_was ended = sym (has q).0 ∙ after.clients_were_there q ended

-- what a machine that does not refuse an event answers, where it does not handle it
pub only_memory : (event : Event) (server : Option View) (fault : ServerFault)
    (connections : ℕ → Option Connection) (lost : ℕ → Option ConnectionKind)
    → IsToHear event server connections lost → IsRefusal server event fault
    → is_out_of_memory fault ≡ true
only_memory event server fault connections lost awaits runs_out_now = refl
only_memory event server fault connections lost awaits ran_out_before = refl
only_memory event server fault connections lost awaits (is_owed view owed is refused) =
    cc (sym (no_fault view awaits.kinds (λ q. awaits.has q view is) event awaits.is_of) ∙ refused)

-- ---- the connections

open_then : (b c : Bool) → true ≡ ((false || (b && c)) && true) → b ≡ true
open_then true c is = refl
open_then false c is = cc is

shut_then : (b : Bool) → false ≡ ((false || (b && true)) && true) → b ≡ false
shut_then true is = cc is
shut_then false is = refl

lost_before : (a b c : Bool) → true ≡ ((a || (b && false)) && c) → a ≡ true
lost_before true b c is = refl
lost_before false true c is = cc is
lost_before false false c is = cc is

of_loss : (kind was : ConnectionKind) → IsOfKind kind None (Some was) → Some kind ≡ Some was
of_loss kind was (kind_of_connection is) = cc is
of_loss kind was (kind_of_loss is) = sym is

of_connection : (kind : ConnectionKind) (connection : Option Connection)
    → IsOfKind kind connection None → kind_at connection ≡ Some kind
of_connection kind connection (kind_of_connection is) = is
of_connection kind connection (kind_of_loss is) = cc is

-- As what the server is to have a connection stays as it was, unless the server closes it.
module _ (conn : ℕ) (calls : List Call) (outs : List Sent) where
  known_by : (closed : Bool) → is_closed_by conn outs ≡ closed
      → (old : Option Connection) (was : Option ConnectionKind) (new : Option Connection)
      (now : Option ConnectionKind) → Fate conn old calls outs new
      → is_some now ≡ ((is_some was || (is_open_at old && not (is_some new))) && not closed)
      → KeepsKind old was new now → (is_some was ≡ true → old ≡ None)
      → known_kind new now ≡ cond closed None (known_kind old was)
  known_by true is old was new (Some k) fate lost keeps gone =
      cc (lost ∙ and-false (is_some was || (is_open_at old && not (is_some new))))
  known_by true is old was None None fate lost keeps gone = refl
  known_by true is None was (Some n) None fate lost keeps gone = absurd fate
  known_by true is (Some o) was (Some n) None fate lost keeps gone =
      ap (λ t. cond t (Some n.kind) None) (fate.still_open ∙ ap (λ t. is_some o.framer && not t) is
      ∙ and-false (is_some o.framer))
  known_by false is old (Some w) new (Some k) fate lost keeps gone =
      of_loss k w (subst (λ (s : Option Connection). IsOfKind k s (Some w)) (gone refl)
      (keeps k (kind_of_loss refl)))
  known_by false is old None new (Some k) fate lost keeps gone =
      sym (ap (λ t. cond t (kind_at old) None) (open_then (is_open_at old) (not (is_some new)) lost)
      ∙ of_connection k old (keeps k (kind_of_loss refl)))
  known_by false is old (Some w) new None fate lost keeps gone = cc lost
  known_by false is None None None None fate lost keeps gone = refl
  known_by false is None None (Some n) None fate lost keeps gone = absurd fate
  known_by false is (Some o) None None None fate lost keeps gone =
      sym (ap (λ t. cond t (Some o.kind) None) (shut_then (is_some o.framer) lost))
  known_by false is (Some o) None (Some n) None fate lost keeps gone =
      ap (λ t. cond t (Some n.kind) None) (fate.still_open ∙ ap (λ t. is_some o.framer && not t) is
      ∙ and-true (is_some o.framer))
      ∙ ap (λ (k : Option ConnectionKind). cond (is_some o.framer) k None)
      (sym (of_connection n.kind (Some o) (keeps n.kind (kind_of_connection refl))))

  known_passage : (old : Option Connection) (was : Option ConnectionKind) (new : Option Connection)
      (now : Option ConnectionKind) → Passage conn old was calls outs new now → (is_some was ≡ true
      → old ≡ None) → known_kind new now ≡ cond (is_closed_by conn outs) None (known_kind old was)
  known_passage old was new now passed gone = known_by (is_closed_by conn outs) refl old was new now
      passed.fate passed.lost_is passed.keeps_kind gone

  -- one that was lost is not there
  gone_passage : (old : Option Connection) (was : Option ConnectionKind) (new : Option Connection)
      (now : Option ConnectionKind) → Passage conn old was calls outs new now
      → (is_some was ≡ true → old ≡ None) → is_some now ≡ true → new ≡ None
  gone_passage old was None now passed gone lost = refl
  gone_passage None was (Some n) now passed gone lost = absurd passed.fate
  gone_passage (Some o) was (Some n) now passed gone lost =
      cc (gone (lost_before (is_some was) (is_some o.framer) (not (is_closed_by conn outs))
      (sym lost ∙ passed.lost_is)))

-- something was put out by no event
at_one_still : (server after : Option View) (before outs : List Sent)
    (old new : ℕ → Option Connection) (lost now : ℕ → Option ConnectionKind) → before ≡ []
    → IsStillConnected server before after outs → IsAtOne server old lost
    → ((q : ℕ) → known_kind (new q) (now q)
    ≡ cond (is_closed_by q outs) None (known_kind (old q) (lost q)))
    → ((q : ℕ) → is_some (now q) ≡ true → new q ≡ None) → IsAtOne after new now
at_one_still server after before outs old new lost now none still one known gone = record {
  has = λ q seen is.
      let was = still.connected seen is in
      subst (λ (k : Option ConnectionKind). HasAs seen q k)
      (sym (known q
      ∙ ap (λ os. cond (is_closed_by q os) None (known_kind (old q) (lost q)))
      (still.after_is ∙ ap (λ os. os ++ still.outs) none)))
      (has_still was.0 (λ p. known_kind (old p) (lost p)) (λ p. one.has p was.0 was.1) seen
      still.outs was.2 q);
  lost_is_gone = gone;
}

-- nothing was put out
pub at_one_quiet : (server after : Option View) (before outs : List Sent)
    (connections : ℕ → Option Connection) (lost : ℕ → Option ConnectionKind) → before ≡ []
    → IsStillConnected server before after outs → outs ≡ [] → IsAtOne server connections lost
    → IsAtOne after connections lost
at_one_quiet server after before outs connections lost none still quiet one =
    at_one_still server after before outs connections connections lost lost none still one
    (λ q. ap (λ os. cond (is_closed_by q os) None (known_kind (connections q) (lost q)))
    (sym quiet)) one.lost_is_gone

-- the machine has handled an event, and what it put out is done
module _ {W : Type 0} (is_after : W → List Call → Type 0) where
  pub at_one_after : (event : Event) (server after : Option View) (before outs : List Sent)
      (old new : Connections W) → before ≡ [] → IsConnectedBy server event before after outs
      → IsToHear event server (connection_of old.table) (lost_at old.lost)
      → Carries is_after [] old outs new
      → IsAtOne after (connection_of new.table) (lost_at new.lost)
  at_one_after event server after before outs old new none by awaits carries = record {
    has = λ q seen is.
        let was = by.connected seen is in
        subst (λ (k : Option ConnectionKind). HasAs seen q k) (sym (known_now q))
        (has_after was.0 awaits.kinds (λ p. awaits.has p was.0 was.1) event awaits.is_of seen
        by.outs was.2 q);
    lost_is_gone = λ q. gone_passage q carries.calls outs (connection_of old.table q)
        (lost_at old.lost q) (connection_of new.table q) (lost_at new.lost q)
        (carries.passage q) (awaits.lost_is_gone q);
  }
    where
      put_out : outs ≡ by.outs
      put_out = by.after_is ∙ ap (λ os. os ++ by.outs) none

      known_now : (q : ℕ) → known_kind (connection_of new.table q) (lost_at new.lost q)
          ≡ cond (is_closed_by q by.outs) None (kind_after event q (awaits.kinds q))
      known_now q =
          known_passage q carries.calls outs (connection_of old.table q) (lost_at old.lost q)
          (connection_of new.table q) (lost_at new.lost q) (carries.passage q)
          (awaits.lost_is_gone q)
          ∙ ap (λ os. cond (is_closed_by q os) None
          (known_kind (connection_of old.table q) (lost_at old.lost q))) put_out
          ∙ ap (λ (k : Option ConnectionKind). cond (is_closed_by q by.outs) None k)
          (awaits.known q)

  -- something was due, and what was put out by it is done
  pub at_one_due : (server after : Option View) (before outs : List Sent) (old new : Connections W)
      → before ≡ [] → IsStillConnected server before after outs → Carries is_after [] old outs new
      → IsAtOne server (connection_of old.table) (lost_at old.lost)
      → IsAtOne after (connection_of new.table) (lost_at new.lost)
  at_one_due server after before outs old new none still carries one =
      at_one_still server after before outs (connection_of old.table) (connection_of new.table)
      (lost_at old.lost) (lost_at new.lost) none still one
      (λ q. known_passage q carries.calls outs (connection_of old.table q) (lost_at old.lost q)
      (connection_of new.table q) (lost_at new.lost q) (carries.passage q) (one.lost_is_gone q))
      (λ q. gone_passage q carries.calls outs (connection_of old.table q)
      (lost_at old.lost q) (connection_of new.table q) (lost_at new.lost q)
      (carries.passage q) (one.lost_is_gone q))

  -- something is done that no event asks for
  pub at_one_carried : (server : Option View) (exchanges : List Call) (old new : Connections W)
      → Carries is_after exchanges old [] new → IsAtOne server (connection_of old.table)
      (lost_at old.lost) → IsAtOne server (connection_of new.table) (lost_at new.lost)
  at_one_carried server exchanges old new carries one = record {
    has = λ q view is. subst (λ (k : Option ConnectionKind). HasAs view q k)
        (sym (known_passage q carries.calls [] (connection_of old.table q) (lost_at old.lost q)
        (connection_of new.table q) (lost_at new.lost q) (carries.passage q)
        (one.lost_is_gone q))) (one.has q view is);
    lost_is_gone = λ q. gone_passage q carries.calls [] (connection_of old.table q)
        (lost_at old.lost q) (connection_of new.table q) (lost_at new.lost q)
        (carries.passage q) (one.lost_is_gone q);
  }

  -- an open connection is lost
  pub at_one_lost : (server : Option View) (conn : ℕ) (old new : Connections W)
      → Loses is_after conn old new → is_open_at (connection_of old.table conn) ≡ true
      → IsAtOne server (connection_of old.table) (lost_at old.lost)
      → IsAtOne server (connection_of new.table) (lost_at new.lost)
  at_one_lost server conn old new loses is_open one = record {
    has = λ q view is. subst (λ (k : Option ConnectionKind). HasAs view q k)
        (sym (known_now q (nat_eq conn q) refl)) (one.has q view is);
    lost_is_gone = λ q. gone_now q (nat_eq conn q) refl;
  }
    where
      not_lost : (l : Option ConnectionKind) (c : Option Connection) → is_open_at c ≡ true
          → (is_some l ≡ true → c ≡ None) → l ≡ None
      not_lost None c opened gone = refl
      not_lost (Some k) c opened gone = cc (sym opened ∙ ap is_open_at (gone refl))

      open_kind : (c : Option Connection) (l : Option ConnectionKind) → is_open_at c ≡ true
          → l ≡ None → known_kind None (lost_by true c l) ≡ known_kind c l
      open_kind None l opened never = cc opened
      open_kind (Some c) l opened never =
          ap (λ t. known_kind None (cond t (Some c.kind) l)) opened
          ∙ sym (ap (λ (m : Option ConnectionKind). known_kind (Some c) m) never
          ∙ ap (λ t. cond t (Some c.kind) None) opened)

      both : (a c : Option Connection) (b d : Option ConnectionKind) → a ≡ c → b ≡ d
          → known_kind a b ≡ known_kind c d
      both a c b d one other = ap (λ (x : Option Connection). known_kind x b) one
          ∙ ap (λ (y : Option ConnectionKind). known_kind c y) other

      known_now : (q : ℕ) (t : Bool) → nat_eq conn q ≡ t → known_kind (connection_of new.table q)
          (lost_at new.lost q) ≡ known_kind (connection_of old.table q) (lost_at old.lost q)
      known_now q true same =
          both (connection_of new.table q) None (lost_at new.lost q)
          (lost_by true (connection_of old.table q) (lost_at old.lost q))
          (loses.table q ∙ ap (λ t. cond t None (connection_of old.table q)) same)
          (loses.lost q
          ∙ ap (λ t. lost_by t (connection_of old.table conn) (lost_at old.lost q)) same
          ∙ ap (λ p. lost_by true (connection_of old.table p) (lost_at old.lost q))
          (eqb-true conn q same))
          ∙ open_kind (connection_of old.table q) (lost_at old.lost q) opened
          (not_lost (lost_at old.lost q) (connection_of old.table q) opened (one.lost_is_gone q))
        where
          opened : is_open_at (connection_of old.table q) ≡ true
          opened = ap (λ p. is_open_at (connection_of old.table p)) (sym (eqb-true conn q same))
              ∙ is_open
      known_now q false two =
          both (connection_of new.table q) (connection_of old.table q) (lost_at new.lost q)
          (lost_at old.lost q)
          (loses.table q ∙ ap (λ t. cond t None (connection_of old.table q)) two)
          (loses.lost q
          ∙ ap (λ t. lost_by t (connection_of old.table conn) (lost_at old.lost q)) two)

      gone_now : (q : ℕ) (t : Bool) → nat_eq conn q ≡ t → is_some (lost_at new.lost q) ≡ true
          → connection_of new.table q ≡ None
      gone_now q true same lost =
          loses.table q ∙ ap (λ t. cond t None (connection_of old.table q)) same
      gone_now q false two lost =
          loses.table q ∙ ap (λ t. cond t None (connection_of old.table q)) two
          ∙ one.lost_is_gone q (sym (ap is_some (loses.lost q ∙ ap (λ t.
          lost_by t (connection_of old.table conn) (lost_at old.lost q)) two)) ∙ lost)

-- ---- before an event

arrival_of : (kind : ConnectionKind) (conn : ℕ) (known : ℕ → Option ConnectionKind)
    → known conn ≡ Some kind → IsOf (end_event_of kind conn) known
arrival_of kinds.Client conn known is = is
arrival_of kinds.Link conn known is = is

kind_behind : (kind : ConnectionKind) (conn q : ℕ) (was : Option ConnectionKind)
    → kind_after (end_event_of kind conn) q was ≡ cond (nat_eq conn q) None was
kind_behind kinds.Client conn q was = refl
kind_behind kinds.Link conn q was = refl

line_is_of : (kind : ConnectionKind) (conn : ℕ) (line : ArrayVec ℕ) (known : ℕ
    → Option ConnectionKind) → known conn ≡ Some kind → IsOf (line_event_of kind conn line) known
line_is_of kinds.Client conn line known is = is
line_is_of kinds.Link conn line known is = is

no_kind_changes : (kind : ConnectionKind) (conn : ℕ) (line : ArrayVec ℕ) (q : ℕ)
    (was : Option ConnectionKind) → kind_after (line_event_of kind conn line) q was ≡ was
no_kind_changes kinds.Client conn line q was = refl
no_kind_changes kinds.Link conn line q was = refl

module _ (server : Option View) (connections : ℕ → Option Connection)
    (lost : ℕ → Option ConnectionKind)
    (one : IsAtOne server connections lost) where
  -- the server is to be told that a connection is gone, which was lost
  pub hears_end : (event : Event) (kind : ConnectionKind) (conn : ℕ)
      (left : ℕ → Option ConnectionKind) → event ≡ end_event_of kind conn
      → lost conn ≡ Some kind → ((q : ℕ) → left q ≡ cond (nat_eq conn q) None (lost q))
      → IsToHear event server connections left
  hears_end event kind conn left event_is is popped =
      subst (λ (e : Event). IsToHear e server connections left) (sym event_is) (record {
        kinds = λ q. known_kind (connections q) (lost q);
        has = one.has;
        is_of = arrival_of kind conn (λ q. known_kind (connections q) (lost q))
            (ap (known_kind (connections conn)) is);
        known = λ q. known_then q (nat_eq conn q) refl
            ∙ sym (kind_behind kind conn q (known_kind (connections q) (lost q)));
        lost_is_gone = λ q is_lost. one.lost_is_gone q
            (still_lost (nat_eq conn q) (lost q) (sym (ap is_some (popped q)) ∙ is_lost));
      })
    where
      still_lost : (t : Bool) (l : Option ConnectionKind) → is_some (cond t None l) ≡ true
          → is_some l ≡ true
      still_lost true l is_lost = cc is_lost
      still_lost false l is_lost = is_lost

      known_then : (q : ℕ) (t : Bool) → nat_eq conn q ≡ t → known_kind (connections q) (left q)
          ≡ cond (nat_eq conn q) None (known_kind (connections q) (lost q))
      known_then q true same =
          ap (known_kind (connections q)) (popped q ∙ ap (λ t. cond t None (lost q)) same)
          ∙ ap open_kind_at
          (one.lost_is_gone q (ap is_some (at_number lost conn q (Some kind) is same)))
          ∙ sym (ap (λ t. cond t None (known_kind (connections q) (lost q))) same)
      known_then q false two =
          ap (known_kind (connections q)) (popped q ∙ ap (λ t. cond t None (lost q)) two)
          ∙ sym (ap (λ t. cond t None (known_kind (connections q) (lost q))) two)

  -- a line of a connection that is open
  pub open_is_not_lost : (conn : ℕ) (kind : ConnectionKind)
      → open_kind_at (connections conn) ≡ Some kind → lost conn ≡ None
  open_is_not_lost conn kind is = by (lost conn) (one.lost_is_gone conn)
    where
      by : (l : Option ConnectionKind) → (is_some l ≡ true → connections conn ≡ None) → l ≡ None
      by None gone = refl
      by (Some k) gone = cc (sym (ap open_kind_at (gone refl)) ∙ is)

  pub hears_line : (event : Event) (kind : ConnectionKind) (conn : ℕ) (line : ArrayVec ℕ)
      → event ≡ line_event_of kind conn line → open_kind_at (connections conn) ≡ Some kind
      → IsToHear event server connections lost
  hears_line event kind conn line event_is is =
      subst (λ (e : Event). IsToHear e server connections lost) (sym event_is) (record {
        kinds = λ q. known_kind (connections q) (lost q);
        has = one.has;
        is_of = line_is_of kind conn line (λ q. known_kind (connections q) (lost q))
            (ap (known_kind (connections conn)) (open_is_not_lost conn kind is) ∙ is);
        known = λ q. sym (no_kind_changes kind conn line q (known_kind (connections q) (lost q)));
        lost_is_gone = one.lost_is_gone;
      })

  -- a connection has come, where none of its number was, and no loss is to be told
  pub hears_arrival : (event : Event) (kind : ConnectionKind) (room conn : ℕ)
      (new : ℕ → Option Connection) → IsArrival kind conn event → ((q : ℕ) → lost q ≡ None)
      → connections conn ≡ None → IsSet connections conn (Some (fresh_connection kind room)) new
      → IsToHear event server new lost
  hears_arrival event kind room conn new arrival told free set = record {
    kinds = λ q. known_kind (connections q) (lost q);
    has = one.has;
    is_of = arrival.is_of (λ q. known_kind (connections q) (lost q))
        (ap (known_kind (connections conn)) (told conn) ∙ ap open_kind_at free);
    known = λ q. ap (known_kind (new q)) (told q) ∙ ap open_kind_at (set q)
        ∙ by (nat_eq conn q) (connections q)
        ∙ ap (λ (l : Option ConnectionKind). cond (nat_eq conn q) (Some kind)
        (known_kind (connections q) l))
        (sym (told q))
        ∙ sym (arrival.comes q (known_kind (connections q) (lost q)));
    lost_is_gone = λ q is_lost. cc (sym (ap is_some (told q)) ∙ is_lost);
  }
    where
      by : (t : Bool) (c : Option Connection) → open_kind_at
          (cond t (Some (fresh_connection kind room)) c) ≡ cond t (Some kind) (open_kind_at c)
      by true c = refl
      by false c = refl

  -- a framer has taken bytes, or none, where the connection is not open
  pub at_one_as : (new : ℕ → Option Connection)
      → ((q : ℕ) → open_kind_at (new q) ≡ open_kind_at (connections q))
      → ((q : ℕ) → is_some (new q) ≡ is_some (connections q)) → IsAtOne server new lost
  at_one_as new kinds_as there_as = record {
    has = λ q view is. subst (λ (k : Option ConnectionKind). HasAs view q k) (sym (by (lost q) q))
        (one.has q view is);
    lost_is_gone =
        λ q is_lost. none_if_not_some (new q)
        (there_as q ∙ ap is_some (one.lost_is_gone q is_lost));
  }
    where
      by : (l : Option ConnectionKind) (q : ℕ) → known_kind (new q) l ≡ known_kind (connections q) l
      by None q = kinds_as q
      by (Some k) q = refl

-- ---- framers

framed_same : (conn : ℕ) (piece : List ℕ) (old new : ConnectionTable)
    (result : Option (ℕ × ConnectionKind × Option (ArrayVec ℕ)))
    → FramesAt conn piece old result new
    → (q : ℕ) → (open_kind_at (connection_of new q) ≡ open_kind_at (connection_of old q))
    × (is_some (connection_of new q) ≡ is_some (connection_of old q))
framed_same conn piece old new result (no_connection none same never) q =
    (ap open_kind_at (same q), ap is_some (same q))
framed_same conn piece old new (Some (used, kind, line))
    (at_connection connection now was set so) q = by (nat_eq conn q) refl
  where
    by : (t : Bool) → nat_eq conn q ≡ t → (open_kind_at (connection_of new q) ≡ open_kind_at
        (connection_of old q)) × (is_some (connection_of new q) ≡ is_some (connection_of old q))
    by true one =
        let here = set q ∙ ap (λ t. cond t (Some now) (connection_of old q)) one in
        let there = ap (connection_of old) (sym (eqb-true conn q one)) ∙ was in (
          ap open_kind_at here ∙ ap (λ (s : Connection). open_kind_at (Some s)) so.is
              ∙ sym (ap open_kind_at there
              ∙ ap (λ o. cond (is_some o) (Some connection.kind) None) so.was),
          ap is_some here ∙ sym (ap is_some there),
        )
    by false two =
        let here = set q ∙ ap (λ t. cond t (Some now) (connection_of old q)) two in
        (ap open_kind_at here, ap is_some here)
framed_same conn piece old new None (at_connection connection now was set so) q =
    by (nat_eq conn q) refl
  where
    by : (t : Bool) → nat_eq conn q ≡ t → (open_kind_at (connection_of new q) ≡ open_kind_at
        (connection_of old q)) × (is_some (connection_of new q) ≡ is_some (connection_of old q))
    by true one =
        let here = set q ∙ ap (λ t. cond t (Some now) (connection_of old q)) one ∙ ap Some so.1 in
        let there = ap (connection_of old) (sym (eqb-true conn q one)) ∙ was in
        (ap open_kind_at (here ∙ sym there), ap is_some (here ∙ sym there))
    by false two =
        let here = set q ∙ ap (λ t. cond t (Some now) (connection_of old q)) two in
        (ap open_kind_at here, ap is_some here)

pub at_one_framed : (server : Option View) (conn : ℕ) (piece : List ℕ) (old new : ConnectionTable)
    (lost : ℕ → Option ConnectionKind)
    (result : Option (ℕ × ConnectionKind × Option (ArrayVec ℕ)))
    → FramesAt conn piece old result new
    → IsAtOne server (connection_of old) lost
    → IsAtOne server (connection_of new) lost
at_one_framed server conn piece old new lost result frames one =
    at_one_as server (connection_of old) lost one (connection_of new)
    (λ q. (framed_same conn piece old new result frames q).0)
    (λ q. (framed_same conn piece old new result frames q).1)

pub framed_open : (conn : ℕ) (piece : List ℕ) (old new : ConnectionTable) (used : ℕ)
    (kind : ConnectionKind)
    (line : Option (ArrayVec ℕ)) → FramesAt conn piece old (Some (used, kind, line)) new
    → open_kind_at (connection_of new conn) ≡ Some kind
framed_open conn piece old new used kind line (no_connection none same never) = cc never
framed_open conn piece old new used kind line (at_connection connection now was set so) =
    ap open_kind_at (set_here (connection_of old) (connection_of new) conn (Some now) set)
    ∙ ap (λ (s : Connection). open_kind_at (Some s)) so.is
    ∙ ap Some (sym so.kind_is)

-- ---- between two turns

module _ (server : Option View) (connections : ℕ → Option Connection)
    (lost : ℕ → Option ConnectionKind) where
  pub none_to_tell : IsSettled server connections lost → (q : ℕ) → lost q ≡ None
  none_to_tell settled q = none_if_not_some (lost q) (settled q).0

  pub at_one_between : IsSettled server connections lost → IsAtOne server connections lost
  at_one_between settled = record {
    has = λ q view is.
        subst (λ (l : Option ConnectionKind). HasAs view q (known_kind (connections q) l))
        (sym (none_to_tell settled q)) ((settled q).1 view is);
    lost_is_gone = λ q is_lost. cc (sym (settled q).0 ∙ is_lost);
  }

  pub settled_again : ((q : ℕ) → lost q ≡ None) → IsAtOne server connections lost
      → IsSettled server connections lost
  settled_again told one q = (
    ap is_some (told q),
    λ view is. subst (λ (l : Option ConnectionKind). HasAs view q (known_kind (connections q) l))
        (told q)
        (one.has q view is),
  )

-- that it is so has one proof
pub settled_once : (failed : Bool) (server : Option View) (connections : ℕ → Option Connection)
    (lost : ℕ → Option ConnectionKind) → IsProp (failed ≡ false → IsSettled server connections lost)
settled_once failed server connections lost = hlevel (Bool-set)

-- a server that has nobody, and no connections
pub settled_new : (server : Option View) (connections : ℕ → Option Connection)
    (lost : ℕ → Option ConnectionKind) → HasNobody server → ((q : ℕ) → connections q ≡ None)
    → ((q : ℕ) → lost q ≡ None) → IsSettled server connections lost
settled_new server connections lost nobody none told q = (
  ap is_some (told q),
  λ view is. subst (λ (c : Option Connection). HasAs view q (open_kind_at c)) (sym (none q))
      (nobody q view is),
)

-- ---- who comes

pub client_arrives : (conn : ℕ) (host : List ℕ) → IsArrival kinds.Client conn (Connect conn host)
client_arrives conn host = record { is_of = λ known none. none; comes = λ q was. refl }

pub link_arrives : (conn : ℕ) (starts : Option (List ℕ))
    → IsArrival kinds.Link conn (LinkUp conn starts)
link_arrives conn starts = record { is_of = λ known none. none; comes = λ q was. refl }
