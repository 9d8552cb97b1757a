-- Single connections, pipes and servers, as lemmas on turns take them.
use Rattle.std.proofs.Common.{◌≡◌, ℕ, Bool, true, false, not, is_some, Option, Some, None, List, []}
use Rattle.std.proofs.Common.{◌∷◌, ◌++◌, append_assoc, refl, sym, ◌∙◌, ap, subst, unwrap_or, filter}
use Rattle.std.proofs.Common.{if◌then◌else◌}
use Rattle.std.proofs.lemmas.Bool.{and_parts, not-true}
use Rattle.std.specs.FinMap.{get}
use Rattle.std.specs.List.{list_all}
use Rattle.std.specs.Option.{option_and_then, option_map_or}
use Rattle.std.proofs.lemmas.Option.{same_Some}
use Rattle.irc_line.specs.Lines.{Begun}
use Rattle.irc_outbox.specs.Calls.{Call, asks, reads, writes, closes, taken, taken_by, written}
use Rattle.irc_batch.specs.Batches.{Sent}
use Rattle.irc_stage.specs.View.{View}
use Rattle.irc_network.specs.Network.{Network, Node, node_at, waiting}
use Rattle.irc_pipes.specs.Pipes.{LinkPipe}
use Rattle.irc_network.specs.ByteNetwork.{waiting_at}
use Rattle.irc_network.specs.Whole.{has_way}
use Rattle.irc_network.specs.Lemmas.NewFramer.{new_is_real}
use Rattle.irc_engine.specs.declared.connection_table.Connection.{Connection}
use Rattle.irc_engine.specs.declared.kind.ConnectionKind.{ConnectionKind}
use Rattle.irc_engine.specs.declared.kind.ConnectionKind.TheVariants as kinds
use Rattle.irc_engine.specs.Carrying.{Fate, IsOfKind, KeepsKind, answers, bytes_owed, is_closed_by}
use Rattle.irc_engine.specs.Carrying.{is_exchange, is_open_at, kind_at, kind_of_connection}
use Rattle.irc_engine.specs.Carrying.{kind_of_loss, open_kind_at}
use Rattle.irc_engine.specs.Hearing.{begun_at}
use Rattle.irc_engine.specs.EngineView.{EngineView}
use Rattle.irc_engine.specs.Writing.{is_some_write}
use Rattle.irc_daemons.specs.Alike.{AreServersAlike, AreServersAlikeIf, Numbers}
use Rattle.irc_daemons.specs.AsBytes.{IsServerIf, IsServerOf}
use Rattle.irc_daemons.specs.Daemons.{unsent}
use Rattle.irc_daemons.proofs.Sent.{Lines}
use Rattle.irc_daemons.proofs.Told.{IsRealBegun, IsRealIf, begun_or_none}

-- ---- what was read

pub taken_in : (q : ℕ) (calls : List Call) → taken q calls ≡ taken q (filter is_exchange calls)
taken_in q [] = refl
taken_in q (closes which ∷ calls) = taken_in q calls
taken_in q (asks answer ∷ calls) = taken_in q calls
taken_in q (reads from room answer bytes ∷ calls) =
    ap (λ xs. taken_by q (reads from room answer bytes) ++ xs) (taken_in q calls)
taken_in q (writes to bytes answer ∷ calls) = taken_in q calls

pub none_read : (q : ℕ) (calls : List Call) → list_all is_some_write calls ≡ true
    → taken q calls ≡ []
none_read q [] all = refl
none_read q (closes which ∷ calls) all = cc all
none_read q (asks answer ∷ calls) all = cc all
none_read q (reads from room answer bytes ∷ calls) all = cc all
none_read q (writes to bytes answer ∷ calls) all = none_read q calls
    (and_parts (is_some_write (writes to bytes answer)) (list_all is_some_write calls) all).1

-- ---- one connection

pub record IsOpenLink (connection : Option Connection) : Type 0 where
  pub is_open : is_open_at connection ≡ true
  pub kind : kind_at connection ≡ Some kinds.Link

pub open_link : (connection : Option Connection) → open_kind_at connection ≡ Some kinds.Link
    → IsOpenLink connection
open_link connection is = by (is_open_at connection) refl is
  where
    by : (b : Bool) → is_open_at connection ≡ b
        → (if b then kind_at connection else None) ≡ Some kinds.Link → IsOpenLink connection
    by true opened kind = record { is_open = opened; kind = kind }
    by false closed kind = cc kind

pub has_framer : (connection : Option Connection) → is_open_at connection ≡ true
    → is_some (begun_at connection) ≡ true
has_framer None opened = cc opened
has_framer (Some connection) opened = opened

-- of one that is open still
pub record IsCarried (conn : ℕ) (old new : Option Connection) (calls : List Call)
    (outs : List Sent) : Type 0 where
  pub not_closed : is_closed_by conn outs ≡ false
  pub bytes : unsent old ++ answers conn outs ≡ written conn calls ++ unsent new

pub is_carried : (conn : ℕ) (old new : Option Connection) (calls : List Call) (outs : List Sent)
    → Fate conn old calls outs new → is_open_at new ≡ true → IsCarried conn old new calls outs
is_carried conn None None calls outs fate opened = cc opened
is_carried conn None (Some new) calls outs fate opened = absurd fate
is_carried conn (Some old) None calls outs fate opened = cc opened
is_carried conn (Some old) (Some new) calls outs fate opened =
    let parts = and_parts (is_some old.framer) (not (is_closed_by conn outs))
    (sym fate.still_open ∙ opened) in record {
      not_closed = not-true (is_closed_by conn outs) parts.1;
      bytes = ap (λ b. old.outbox.bytes ++ bytes_owed b conn outs) (sym parts.0) ∙ fate.carried;
    }

pub kind_then : (old new : Option Connection) (was now : Option ConnectionKind)
    → KeepsKind old was new now → was ≡ None → (kind : ConnectionKind) → IsOfKind kind new now
    → kind_at old ≡ Some kind
kind_then old new was now keeps none kind is = by (keeps kind is)
  where
    by : IsOfKind kind old was → kind_at old ≡ Some kind
    by (kind_of_connection is) = is
    by (kind_of_loss is) = cc (sym none ∙ is)

-- ---- ways

pub no_way_waits : (net : Network) (x y : ℕ) → has_way net x y ≡ false → waiting_at net x y ≡ []
no_way_waits net x y none = by (node_at net x) refl
  where
    by_way : (node : Node) → node_at net x ≡ Some node → (o : Option Lines) → get node.queues y ≡ o
        → unwrap_or o [] ≡ []
    by_way node at None is = refl
    by_way node at (Some lines) is =
        cc (sym (ap (λ o. is_some (option_and_then (λ (s : Node). get s.queues y) o)) at
        ∙ ap is_some is) ∙ none)

    by : (o : Option Node) → node_at net x ≡ o → option_map_or (λ node. waiting node y) o [] ≡ []
    by None at = refl
    by (Some node) at = by_way node at (get node.queues y) refl

-- ---- pipes

abbrev pub pipe_of : Begun → List ℕ → LinkPipe
pipe_of begun bytes = record { begun = begun; bytes = bytes }

pub same_pipe : (b c : Begun) (xs ys : List ℕ) → b ≡ c → xs ≡ ys → pipe_of b xs ≡ pipe_of c ys
same_pipe b c xs ys one two = λ i. pipe_of (one i) (two i)

pub real_or_none : (framer : Option Begun) → IsRealIf framer → IsRealBegun (begun_or_none framer)
real_or_none None real = new_is_real
real_or_none (Some begun) real = real begun refl

-- three stretches of bytes, as they go from the server to the wire
pub moved : (sent held more gone left : List ℕ) → held ++ more ≡ gone ++ left
    → (sent ++ held) ++ more ≡ (sent ++ gone) ++ left
moved sent held more gone left is = append_assoc sent held more ∙ ap (λ xs. sent ++ xs) is
    ∙ sym (append_assoc sent gone left)

-- ---- servers

pub record HasServer {W : Type 0} (numbers : Numbers) (engine : EngineView W)
    (found : Option Node) : Type 0 where
  pub node : Node
  pub at : found ≡ Some node
  pub of : IsServerOf numbers engine node

pub has_server : {W : Type 0} (numbers : Numbers) (engine : EngineView W) (found : Option Node)
    → IsServerIf numbers (Some engine) found → HasServer numbers engine found
has_server numbers engine None is = absurd is
has_server numbers engine (Some node) is = record { node = node; at = refl; of = is }

pub record HasView (server : Option View) : Type 0 where
  pub state : View
  pub is : server ≡ Some state

pub has_view : (server : Option View) → is_some server ≡ true → HasView server
has_view None is = cc is
has_view (Some view) is = record { state = view; is = refl }

-- a server that is there is alike to one that is there
pub record HaveViews (numbers : Numbers) (own other : Option View) (view : View) : Type 0 where
  pub theirs : View
  pub is : other ≡ Some theirs
  pub alike : AreServersAlike numbers view theirs

pub have_views : (numbers : Numbers) (own other : Option View) (view : View) → own ≡ Some view
    → AreServersAlikeIf numbers own other → HaveViews numbers own other view
have_views numbers None other view is alike = cc is
have_views numbers (Some own) None view is alike = absurd alike
have_views numbers (Some own) (Some other) view is alike =
    record {
      theirs = other;
      is = refl;
      alike = subst (λ v. AreServersAlike numbers v other) (same_Some own view is) alike;
    }
