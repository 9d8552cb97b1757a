-- What the parts of functions over connections do together.
use Rattle.std.proofs.Common.{◌≡◌, ℕ, ◌≤◌, Bool, true, false, not, ◌&&◌, ◌||◌, cond, nat_eq}
use Rattle.std.proofs.Common.{is_some, Option, Some, None, Result, Ok, Err, List, [], ◌∷◌, ◌++◌}
use Rattle.std.proofs.Common.{length, refl, sym, ◌∙◌, ap, subst, append-nil, arith}
use Rattle.std.specs.List.{filter}
use Rattle.std.proofs.lemmas.List.Elements.{filter-append}
use Rattle.std.specs.BTreeMap.{BTreeMap}
use Rattle.std.proofs.Math.Bool.{and-false}
use Rattle.std.proofs.lemmas.Bool.{eq-eqb}
use Rattle.irc_names.specs.Lemmas.PlainFacts.{and_not}
use Rattle.irc_outbox.specs.declared.outbox.Overflow.{Overflow}
use Rattle.irc_outbox.specs.Calls.{Call, closes, is_some_bytes}
use Rattle.irc_batch.specs.Batches.{Sent, end_of, end_of_link, line_on, line_to}
use Rattle.irc_batch.specs.declared.close_reason.CloseReason.{CloseReason}
use Rattle.irc_engine.specs.declared.connections.Connections.{Connections}
use Rattle.irc_engine.specs.declared.connection_table.Pushed.{Pushed}
use Rattle.irc_engine.specs.declared.connection_table.Pushed.TheVariants.{Nothing}
use Rattle.irc_engine.specs.declared.kind.ConnectionKind.{ConnectionKind}
use Rattle.irc_engine.specs.declared.connection_table.Connection.{Connection}
use Rattle.irc_line.specs.Lines.{Begun}
use Rattle.irc_engine.specs.Hearing.{Hears}
use Rattle.irc_engine.specs.Lemmas.HearingLaws.{hears_gone, hears_same}
use Rattle.irc_engine.specs.Carrying.{bytes_owed, is_closed_by, is_exchange, AddsAll, Passage}
use Rattle.irc_engine.specs.Carrying.{finished}
use Rattle.irc_engine.specs.Loops.Counts.{count_of}
use Rattle.irc_engine.specs.Loops.Tables.{connection_count, is_done_at, AreSame}
use Rattle.irc_engine.specs.Moments.{connection_of, lost_at}
use Rattle.irc_engine.specs.Loops.Tables.{at_connection, no_connection, IsPushedAt, IsClosedAt}
use Rattle.irc_engine.specs.Loops.Connections.{lost_by, IsLostAs, Ends, Loses, EndsOrWaits}
use Rattle.irc_engine.specs.Loops.Connections.{ended, stayed, Carries}
use Rattle.irc_engine.proofs.TableLaws.{IsQueuedAt}
use Rattle.irc_engine.proofs.KindLaws.{kind_kept, kind_forgotten, kind_gone}
use Rattle.irc_engine.specs.Lemmas.CarryingLaws.{IsElsewhere, nothing_owed, passage_as, passage_on}
use Rattle.irc_engine.specs.Lemmas.CarryingLaws.{untouched, kept_none, kept_some}
use Rattle.irc_engine.proofs.EachConnection.{adds_none, adds_both, at_once, by_number, set_here}
use Rattle.irc_engine.proofs.EachConnection.{set_other, nothing_else, close_elsewhere}
use Rattle.irc_engine.proofs.EachConnection.{line_elsewhere, closed_elsewhere, ends_fewer}
use Rattle.irc_engine.proofs.EachConnection.{last_close, line_drops}

module _ {W : Type 0} (is_after : W → List Call → Type 0) where
  pub carries_on : (old mid new : Connections W) (a b : List Call) (x y : List Sent)
      → Carries is_after a old x mid → Carries is_after b mid y new
      → Carries is_after (a ++ b) old (x ++ y) new
  carries_on old mid new a b x y one other = record {
    calls = one.calls ++ other.calls;
    account = adds_both is_after old.wire mid.wire new.wire one.calls other.calls one.account
        other.account;
    passage = λ conn. passage_on conn one.calls other.calls x y (connection_of old.table conn)
        (connection_of mid.table conn) (connection_of new.table conn)
        (lost_at old.lost conn) (lost_at mid.lost conn) (lost_at new.lost conn) (one.passage conn)
        (other.passage conn);
    exchanged = filter-append is_exchange one.calls other.calls
        ∙ ap (λ cs. cs ++ filter is_exchange other.calls) one.exchanged ∙ ap
        (λ cs. a ++ cs) other.exchanged;
    count = omega (arith, one.count, other.count);
  }

  -- nothing has happened
  pub carries_none : (old new : Connections W) → new.wire ≡ old.wire
      → AreSame (connection_of old.table) (connection_of new.table) → new.lost ≡ old.lost
      → count_of new ≤ count_of old → Carries is_after [] old [] new
  carries_none old new wire same lost count = record {
    calls = [];
    account = adds_none is_after old.wire new.wire wire;
    passage = λ conn. untouched conn [] [] (nothing_else conn) (connection_of old.table conn)
        (connection_of new.table conn) (lost_at old.lost conn) (lost_at new.lost conn)
        (same conn) (ap (λ l. lost_at l conn) lost);
    exchanged = refl;
    count = count;
  }

  module _ (conn : ℕ) (old new : Connections W) where
    -- one connection alone has changed
    pub one_connection : (calls : List Call) (outs : List Sent) (was now : Option Connection)
        → connection_of old.table conn ≡ was → connection_of new.table conn ≡ now
        → ((q : ℕ) → nat_eq conn q ≡ false → connection_of new.table q ≡ connection_of old.table q)
        → ((q : ℕ) → nat_eq conn q ≡ false → lost_at new.lost q ≡ lost_at old.lost q)
        → ((q : ℕ) → nat_eq conn q ≡ false → IsElsewhere q calls outs)
        → Passage conn was (lost_at old.lost conn) calls outs now (lost_at new.lost conn)
        → (q : ℕ) → Passage q (connection_of old.table q) (lost_at old.lost q) calls outs
        (connection_of new.table q) (lost_at new.lost q)
    one_connection calls outs was now is_was is_now same lost apart here =
        by_number conn (connection_of old.table) (connection_of new.table) (lost_at old.lost)
        (lost_at new.lost) calls outs same lost apart
        (subst (λ (s : Option Connection). Passage conn s (lost_at old.lost conn) calls outs
        (connection_of new.table conn) (lost_at new.lost conn)) (sym is_was)
        (subst (λ (s : Option Connection). Passage conn was (lost_at old.lost conn) calls outs s
        (lost_at new.lost conn)) (sym is_now) here))

    module _ (text : List ℕ) (wire : new.wire ≡ old.wire) (lost : new.lost ≡ old.lost)
        (count : count_of new ≤ count_of old) where
      same_lost : (q : ℕ) → lost_at new.lost q ≡ lost_at old.lost q
      same_lost q = ap (λ l. lost_at l q) lost

      -- a line that its outbox takes
      pub line_taken : IsQueuedAt conn text old.table new.table
          → Carries is_after [] old (line_to conn text ∷ []) new
      line_taken (no_connection none same never) = absurd never
      line_taken (at_connection connection now was set queued) =
          let outs : List Sent = line_to conn text ∷ [] in
          let owes : bytes_owed (is_some connection.framer) conn outs ≡ text =
          ap (λ t. bytes_owed t conn outs) queued.is_open
          ∙ ap (λ xs. xs ++ []) (at_once conn text []) ∙ append-nil text in
          record {
            calls = [];
            account = adds_none is_after old.wire new.wire wire;
            passage = one_connection [] outs (Some connection) (Some now) was
                (set_here (connection_of old.table) (connection_of new.table) conn (Some now) set)
                (set_other (connection_of old.table) (connection_of new.table) conn (Some now) set)
                (λ q two. same_lost q) (λ q two. line_elsewhere conn q text two)
                (record {
                  fate = record {
                    carried = ap (λ xs. connection.outbox.bytes ++ xs) owes
                        ∙ sym (ap (λ (s : Connection). s.outbox.bytes) queued.is);
                    same_room = ap (λ (s : Connection). s.outbox.room) queued.is;
                    still_open = ap (λ (s : Connection). is_some s.framer) queued.is
                        ∙ and_not (is_some connection.framer) false refl;
                    never = refl;
                    never_cut = refl;
                  };
                  lost_is = ap is_some (same_lost conn)
                      ∙ kept_some (is_some (lost_at old.lost conn)) (is_some connection.framer);
                  keeps_kind = kind_kept (Some connection) (Some now) (lost_at old.lost conn)
                      (lost_at new.lost conn) (ap (λ (s : Connection). Some s.kind) queued.is)
                      (same_lost conn);
                  hears_none = hears_same connection.framer now.framer
                      (ap (λ (s : Connection). s.framer) queued.is);
                });
            exchanged = refl;
            count = count;
          }

      none_owed : (is_open : Bool) → (is_open ≡ true → text ≡ [])
          → bytes_owed is_open conn (line_to conn text ∷ []) ≡ []
      none_owed true never = ap (λ xs. xs ++ []) (at_once conn text []) ∙ append-nil text
          ∙ never refl
      none_owed false never = refl

      -- a line of nothing, or to a connection that the server has closed, or that is not there
      pub line_passed : (result : Result Pushed Overflow) → result ≡ Ok Nothing
          → IsPushedAt conn text old.table result new.table
          → Carries is_after [] old (line_to conn text ∷ []) new
      line_passed result is pushed =
          by (subst (λ r. IsPushedAt conn text old.table r new.table) is pushed)
        where
          by : IsPushedAt conn text old.table (Ok Nothing) new.table
              → Carries is_after [] old (line_to conn text ∷ []) new
          by (no_connection none same never) = record {
            calls = [];
            account = adds_none is_after old.wire new.wire wire;
            passage = one_connection [] (line_to conn text ∷ []) None None none (same conn ∙ none)
                (λ q two. same q) (λ q two. same_lost q)
                (λ q two. line_elsewhere conn q text two)
                (record {
                  fate = record { nothing = refl; never = refl };
                  lost_is =
                      ap is_some (same_lost conn) ∙ kept_none (is_some (lost_at old.lost conn));
                  keeps_kind = kind_kept None None (lost_at old.lost conn)
                      (lost_at new.lost conn) refl (same_lost conn);
                  hears_none = refl;
                });
            exchanged = refl;
            count = count;
          }
          by (at_connection connection now was set (never, now_is)) = record {
            calls = [];
            account = adds_none is_after old.wire new.wire wire;
            passage = one_connection [] (line_to conn text ∷ []) (Some connection) (Some now) was
                (set_here (connection_of old.table) (connection_of new.table) conn (Some now) set)
                (set_other (connection_of old.table) (connection_of new.table) conn (Some now) set)
                (λ q two. same_lost q) (λ q two. line_elsewhere conn q text two)
                (record {
                  fate = record {
                    carried = ap (λ xs. connection.outbox.bytes ++ xs) (none_owed
                        (is_some connection.framer) never) ∙ append-nil connection.outbox.bytes
                        ∙ sym (ap (λ (s : Connection). s.outbox.bytes) now_is);
                    same_room = ap (λ (s : Connection). s.outbox.room) now_is;
                    still_open = ap (λ (s : Connection). is_some s.framer) now_is
                        ∙ and_not (is_some connection.framer) false refl;
                    never = refl;
                    never_cut = refl;
                  };
                  lost_is = ap is_some (same_lost conn)
                      ∙ kept_some (is_some (lost_at old.lost conn)) (is_some connection.framer);
                  keeps_kind = kind_kept (Some connection) (Some now) (lost_at old.lost conn)
                      (lost_at new.lost conn) (ap (λ (s : Connection). Some s.kind) now_is)
                      (same_lost conn);
                  hears_none = hears_same connection.framer now.framer
                      (ap (λ (s : Connection). s.framer) now_is);
                });
            exchanged = refl;
            count = count;
          }

    closed_now : (x : Bool) → (x && not (nat_eq conn conn || false)) ≡ false
    closed_now x = ap (λ t. x && not (t || false)) (eq-eqb conn conn refl) ∙ and-false x

    -- the server has closed a connection
    pub carries_close : IsClosedAt conn old.table new.table
        → IsLostAs old.lost conn None new.lost → new.wire ≡ old.wire → count_of new ≤ count_of old
        → Carries is_after [] old (end_of conn ∷ []) new
    carries_close closed forgotten wire count = by closed
      where
        others_lost : (q : ℕ) → nat_eq conn q ≡ false → lost_at new.lost q ≡ lost_at old.lost q
        others_lost q two =
            forgotten q ∙ ap (λ t. cond {A = Option ConnectionKind} t None (lost_at old.lost q)) two

        not_lost : lost_at new.lost conn ≡ None
        not_lost =
            forgotten conn ∙ at_once {A = Option ConnectionKind} conn None (lost_at old.lost conn)

        by : IsClosedAt conn old.table new.table → Carries is_after [] old (end_of conn ∷ []) new
        by (no_connection none same so) = record {
          calls = [];
          account = adds_none is_after old.wire new.wire wire;
          passage = one_connection [] (end_of conn ∷ []) None None none (same conn ∙ none)
              (λ q two. same q) others_lost (λ q two. closed_elsewhere conn q two)
              (record {
                fate = record { nothing = refl; never = refl };
                lost_is = ap is_some not_lost ∙ sym (closed_now _);
                keeps_kind = kind_forgotten None None (lost_at old.lost conn)
                    (lost_at new.lost conn) refl not_lost;
                hears_none = refl;
              });
          exchanged = refl;
          count = count;
        }
        by (at_connection connection now was set now_is) = record {
          calls = [];
          account = adds_none is_after old.wire new.wire wire;
          passage = one_connection [] (end_of conn ∷ []) (Some connection) (Some now) was
              (set_here (connection_of old.table) (connection_of new.table) conn (Some now) set)
              (set_other (connection_of old.table) (connection_of new.table) conn
              (Some now) set) others_lost (λ q two. closed_elsewhere conn q two)
              (record {
                fate = record {
                  carried = ap (λ xs. connection.outbox.bytes ++ xs) (nothing_owed
                      (is_some connection.framer) conn (end_of conn ∷ []) (at_once conn [] []))
                      ∙ append-nil connection.outbox.bytes
                      ∙ sym (ap (λ (s : Connection). s.outbox.bytes) now_is);
                  same_room = ap (λ (s : Connection). s.outbox.room) now_is;
                  still_open = ap (λ (s : Connection). is_some s.framer) now_is
                      ∙ sym (closed_now (is_some connection.framer));
                  never = refl;
                  never_cut = refl;
                };
                lost_is = ap is_some not_lost ∙ sym (closed_now _);
                keeps_kind = kind_forgotten (Some connection) (Some now) (lost_at old.lost conn)
                    (lost_at new.lost conn) (ap (λ (s : Connection). Some s.kind) now_is) not_lost;
                hears_none = subst (λ (b : Option Begun). Hears connection.framer [] [] b)
                    (sym (ap (λ (s : Connection). s.framer) now_is)) (hears_gone connection.framer);
              });
          exchanged = refl;
          count = count;
        }

    closed_and_empty : (o : Bool) (bytes : List ℕ) → (not o && not (is_some_bytes bytes)) ≡ true
        → (o ≡ false) × (bytes ≡ [])
    closed_and_empty true bytes is = cc is
    closed_and_empty false [] is = (refl, refl)
    closed_and_empty false (b ∷ bytes) is = cc is

    closed_lost : (l o : Bool) → o ≡ false → l ≡ ((l || (o && true)) && true)
    closed_lost true o is = refl
    closed_lost false true is = sym is
    closed_lost false false is = refl

    -- a connection that the server has closed ends, once nothing is left
    pub ends_done : is_done_at (connection_of old.table conn) ≡ true → Ends is_after conn old new
        → Carries is_after [] old [] new
    ends_done done ends = by (connection_of old.table conn) refl done
      where
        by : (s : Option Connection) → connection_of old.table conn ≡ s → is_done_at s ≡ true
            → Carries is_after [] old [] new
        by None was never = cc never
        by (Some connection) was is =
            let parts = closed_and_empty (is_some connection.framer) connection.outbox.bytes is in
            record {
              calls = closes conn ∷ [];
              account = ends.account;
              passage = one_connection (closes conn ∷ []) [] (Some connection) None was (set_here
                  (connection_of old.table) (connection_of new.table) conn None ends.table)
                  (set_other (connection_of old.table) (connection_of new.table) conn None
                  ends.table) (λ q two. ap (λ l. lost_at l q) ends.lost)
                  (λ q two. close_elsewhere conn q two)
                  (record {
                    fate = record {
                      left = [];
                      carried =
                          ap (λ xs. xs ++ bytes_owed (is_some connection.framer) conn []) parts.1
                          ∙ nothing_owed (is_some connection.framer) conn [] refl;
                      once = last_close conn;
                      why = finished (ap (λ o. o && true) parts.0) refl;
                    };
                    lost_is = ap (λ l. is_some (lost_at l conn)) ends.lost ∙ closed_lost
                        (is_some (lost_at old.lost conn)) (is_some connection.framer) parts.0;
                    keeps_kind = kind_gone (Some connection) (lost_at old.lost conn)
                        (lost_at new.lost conn) (ap (λ l. lost_at l conn) ends.lost);
                    hears_none = hears_gone connection.framer;
                  });
              exchanged = refl;
              count = ends_fewer is_after conn old new ends;
            }

  pub ended_or_waits : (conn : ℕ) (old new : Connections W) → EndsOrWaits is_after conn old new
      → Carries is_after [] old [] new
  ended_or_waits conn old new (ended done ends) = ends_done conn old new done ends
  ended_or_waits conn old new (stayed undone wire table lost noted) =
      carries_none old new wire (λ q. ap (λ s. connection_of s q) table) lost (omega (
        arith,
        ap connection_count table,
        ap (λ (m : BTreeMap ℕ ConnectionKind). length m.entries) lost,
      ))

  module _ (conn : ℕ) (old mid new : Connections W) (loses : Loses is_after conn mid new)
      (lost : mid.lost ≡ old.lost) (count : count_of mid ≤ count_of old) where
    -- a line does not fit, and the connection is lost
    pub line_lost : (text : List ℕ) (overflow : Overflow) (result : Result Pushed Overflow)
        → result ≡ Err overflow → IsPushedAt conn text old.table result mid.table
        → mid.wire ≡ old.wire → Carries is_after [] old (line_to conn text ∷ []) new
    line_lost text overflow result is pushed wire =
        by (subst (λ r. IsPushedAt conn text old.table r mid.table) is pushed)
      where
        by : IsPushedAt conn text old.table (Err overflow) mid.table
            → Carries is_after [] old (line_to conn text ∷ []) new
        by (no_connection none same never) = cc never
        by (at_connection connection now was set (is_open, more, now_is)) =
            line_drops is_after conn old new connection text is_open more (record {
              was = was;
              account =
                  subst (λ w. AddsAll is_after w (closes conn ∷ []) new.wire) wire loses.account;
              table = λ q. loses.table q ∙ over q (nat_eq conn q) refl (set q);
              lost = λ q. loses.lost q
                  ∙ ap (λ l. lost_by (nat_eq conn q) (connection_of mid.table conn)
                  (lost_at l q)) lost
                  ∙ ap (λ (s : Option Connection). lost_by (nat_eq conn q) s (lost_at old.lost q))
                  (set_here (connection_of old.table) (connection_of mid.table) conn
                  (Some now) set ∙ ap Some now_is);
              count = omega (arith, loses.count, count);
            })
          where
            over : (q : ℕ) (t : Bool) → nat_eq conn q ≡ t → connection_of mid.table q ≡ cond
                (nat_eq conn q) (Some now) (connection_of old.table q) → cond (nat_eq conn q) None
                (connection_of mid.table q) ≡ cond (nat_eq conn q) None (connection_of old.table q)
            over q true e is = ap (λ t. cond t None (connection_of mid.table q)) e
                ∙ sym (ap (λ t. cond t None (connection_of old.table q)) e)
            over q false e is = ap (λ s. cond (nat_eq conn q) None s)
                (is ∙ ap (λ t. cond t (Some now) (connection_of old.table q)) e)

-- a link is a connection of the wire: what is put out on it goes there as to a client
pub carries_as : {W : Type 0} (is_after : W → List Call → Type 0) (exchanges : List Call)
    (old : Connections W) (outs outs' : List Sent) (new : Connections W)
    → ((conn : ℕ) (is_open : Bool) → bytes_owed is_open conn outs ≡ bytes_owed is_open conn outs')
    → ((conn : ℕ) → is_closed_by conn outs ≡ is_closed_by conn outs')
    → Carries is_after exchanges old outs new → Carries is_after exchanges old outs' new
carries_as is_after exchanges old outs outs' new owes ends carries = record {
  calls = carries.calls;
  account = carries.account;
  passage = λ conn. passage_as conn carries.calls outs outs' (owes conn) (ends conn) _ _ _ _
      (carries.passage conn);
  exchanged = carries.exchanged;
  count = carries.count;
}

pub on_link : {W : Type 0} (is_after : W → List Call → Type 0) (old : Connections W) (link : ℕ)
    (text : List ℕ) (new : Connections W) → Carries is_after [] old (line_to link text ∷ []) new
    → Carries is_after [] old (line_on link text ∷ []) new
on_link is_after old link text new carries =
    carries_as is_after [] old (line_to link text ∷ []) (line_on link text ∷ []) new by
    (λ conn. refl) carries
  where
    by : (conn : ℕ) (is_open : Bool) → bytes_owed is_open conn (line_to link text ∷ [])
        ≡ bytes_owed is_open conn (line_on link text ∷ [])
    by conn true = refl
    by conn false = refl

pub of_link : {W : Type 0} (is_after : W → List Call → Type 0) (old : Connections W) (link : ℕ)
    (reason : CloseReason) (new : Connections W) → Carries is_after [] old (end_of link ∷ []) new
    → Carries is_after [] old (end_of_link link reason ∷ []) new
of_link is_after old link reason new carries =
    carries_as is_after [] old (end_of link ∷ []) (end_of_link link reason ∷ []) new by
    (λ conn. refl) carries
  where
    by : (conn : ℕ) (is_open : Bool) → bytes_owed is_open conn (end_of link ∷ [])
        ≡ bytes_owed is_open conn (end_of_link link reason ∷ [])
    by conn true = refl
    by conn false = refl
