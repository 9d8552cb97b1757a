-- Each step of the connections and the wire, as what becomes of every connection.
use Rattle.std.proofs.Common.{◌≡◌, ℕ, ◌+◌, ◌<◌, ◌≤◌, Bool, true, false, ◌&&◌, ◌||◌, cond, nat_eq}
use Rattle.std.proofs.Common.{is_some, Option, Some, None, Result, Ok, Err, List, [], ◌∷◌, ◌++◌}
use Rattle.std.proofs.Common.{length, refl, sym, ◌∙◌, ap, subst, append_assoc, append-nil, arith}
use Rattle.std.proofs.Common.{length-append}
use Rattle.std.specs.BTreeMap.{BTreeMap, btree_map_len}
use Rattle.std.proofs.lemmas.Bool.{eq-eqb, eqb-true}
use Rattle.irc_outbox.specs.declared.wire.IoFault.{IoFault}
use Rattle.irc_outbox.specs.Calls.{Call, writes, closes, bytes_taken}
use Rattle.irc_batch.specs.Batches.{Sent, end_of, line_to}
use Rattle.irc_engine.specs.declared.connections.Connections.{Connections}
use Rattle.irc_engine.specs.declared.kind.ConnectionKind.{ConnectionKind}
use Rattle.irc_engine.specs.declared.connection_table.Connection.{Connection}
use Rattle.irc_engine.specs.Carrying.{bytes_owed, open_kind_at, AddsAll, cut_off, overflowed}
use Rattle.irc_engine.specs.Carrying.{Passage}
use Rattle.irc_engine.specs.Loops.Counts.{count_of}
use Rattle.irc_engine.specs.Loops.Tables.{connection_count, IsSet}
use Rattle.irc_engine.specs.Moments.{connection_of, lost_at}
use Rattle.irc_engine.specs.Loops.Connections.{lost_by, IsLostAs, Ends, Loses, Carries}
use Rattle.irc_engine.specs.Lemmas.HearingLaws.{hears_gone}
use Rattle.irc_engine.proofs.KindLaws.{kind_of_lost, some_lost, lost_by_open, lost_by_close}
use Rattle.irc_engine.proofs.KindLaws.{open_some}
use Rattle.irc_engine.specs.Lemmas.CarryingLaws.{IsElsewhere, untouched, elsewhere_both}

-- accounts

pub adds_none : {W : Type 0} (is_after : W → List Call → Type 0) (old new : W) → new ≡ old
    → AddsAll is_after old [] new
adds_none is_after old new same = λ calls after.
    subst (λ cs. is_after new cs) (sym (append-nil calls))
    (subst (λ w. is_after w calls) (sym same) after)

pub adds_both : {W : Type 0} (is_after : W → List Call → Type 0) (old mid new : W) (a b : List Call)
    → AddsAll is_after old a mid → AddsAll is_after mid b new → AddsAll is_after old (a ++ b) new
adds_both is_after old mid new a b one other = λ calls after.
    subst (λ cs. is_after new cs) (append_assoc calls a b) (other (calls ++ a) (one calls after))

-- numbers

-- what holds of one connection, and of each other that nothing has happened to
pub by_number : (conn : ℕ) (old new : ℕ → Option Connection) (was now : ℕ → Option ConnectionKind)
    (calls : List Call) (outs : List Sent) → ((q : ℕ) → nat_eq conn q ≡ false → new q ≡ old q)
    → ((q : ℕ) → nat_eq conn q ≡ false → now q ≡ was q)
    → ((q : ℕ) → nat_eq conn q ≡ false → IsElsewhere q calls outs)
    → Passage conn (old conn) (was conn) calls outs (new conn) (now conn) → (q : ℕ)
    → Passage q (old q) (was q) calls outs (new q) (now q)
by_number conn old new was now calls outs same as_lost apart here q = by (nat_eq conn q) refl
  where
    by : (t : Bool) → nat_eq conn q ≡ t → Passage q (old q) (was q) calls outs (new q) (now q)
    by true one = subst (λ p. Passage p (old p) (was p) calls outs (new p) (now p))
        (eqb-true conn q one) here
    by false two = untouched q calls outs (apart q two) (old q) (new q) (was q) (now q) (same q two)
        (as_lost q two)

pub at_once : {A : Type 0} (conn : ℕ) (x y : A) → cond (nat_eq conn conn) x y ≡ x
at_once conn x y = ap (λ t. cond t x y) (eq-eqb conn conn refl)

pub set_other : (old new : ℕ → Option Connection) (conn : ℕ) (connection : Option Connection)
    → IsSet old conn connection new → (q : ℕ) → nat_eq conn q ≡ false → new q ≡ old q
set_other old new conn connection set q two = set q ∙ ap (λ t. cond t connection (old q)) two

pub set_here : (old new : ℕ → Option Connection) (conn : ℕ) (connection : Option Connection)
    → IsSet old conn connection new → new conn ≡ connection
set_here old new conn connection set = set conn ∙ at_once conn connection (old conn)

-- single calls and lines, to other connections

pub nothing_else : (q : ℕ) → IsElsewhere q [] []
nothing_else q = record {
  silent = record { nothing = refl; never = refl };
  never_cut = refl;
  nothing = refl;
  never_closed = refl;
}

pub write_elsewhere : (conn q : ℕ) (front : List ℕ) (result : Result ℕ IoFault)
    → nat_eq conn q ≡ false → IsElsewhere q (writes conn front result ∷ []) []
write_elsewhere conn q front (Ok n) two = record {
  silent =
      record { nothing = ap (λ t. cond t (bytes_taken front (Ok n)) [] ++ []) two; never = refl };
  never_cut = refl;
  nothing = refl;
  never_closed = refl;
}
write_elsewhere conn q front (Err fault) two = record {
  silent = record {
    nothing = ap (λ t. cond t (bytes_taken front (Err fault)) [] ++ []) two;
    never = refl;
  };
  never_cut = ap (λ t. t || false) two;
  nothing = refl;
  never_closed = refl;
}

pub close_elsewhere : (conn q : ℕ) → nat_eq conn q ≡ false → IsElsewhere q (closes conn ∷ []) []
close_elsewhere conn q two = record {
  silent = record { nothing = refl; never = ap (λ t. 0 + cond t 1 0) two };
  never_cut = refl;
  nothing = refl;
  never_closed = refl;
}

pub line_elsewhere : (conn q : ℕ) (text : List ℕ) → nat_eq conn q ≡ false
    → IsElsewhere q [] (line_to conn text ∷ [])
line_elsewhere conn q text two = record {
  silent = record { nothing = refl; never = refl };
  never_cut = refl;
  nothing = ap (λ t. cond t text [] ++ []) two;
  never_closed = refl;
}

pub closed_elsewhere : (conn q : ℕ) → nat_eq conn q ≡ false → IsElsewhere q [] (end_of conn ∷ [])
closed_elsewhere conn q two = record {
  silent = record { nothing = refl; never = refl };
  never_cut = refl;
  nothing = ap (λ t. cond t [] []) two;
  never_closed = ap (λ t. t || false) two;
}

-- losing a connection

module _ {W : Type 0} (is_after : W → List Call → Type 0) (conn : ℕ)
    (old done : Connections W) where
  pub lost_open : (lost : BTreeMap ℕ ConnectionKind) (kind : ConnectionKind)
      → Ends is_after conn old done → open_kind_at (connection_of old.table conn) ≡ Some kind
      → IsLostAs done.lost conn (Some kind) lost → btree_map_len lost ≤ btree_map_len done.lost + 1
      → Loses is_after conn old (record done { lost = lost })
  lost_open lost kind ends is_open noted len =
      let fewer : connection_count done.table + 1 ≡ connection_count old.table =
      ap (λ t. connection_count done.table + cond t 1 0)
      (sym (open_some (connection_of old.table conn) kind is_open)) ∙ ends.len in
      record {
        account = ends.account;
        table = ends.table;
        lost = λ q. noted q ∙ lost_by_open (nat_eq conn q) (connection_of old.table conn) kind
            (lost_at done.lost q) is_open
            ∙ ap (λ l. lost_by (nat_eq conn q) (connection_of old.table conn)
            (lost_at l q)) ends.lost;
        waiting = ends.waiting;
        count = omega (arith, ap btree_map_len ends.lost);
      }

  fewer_or : (t : Bool) (n m : ℕ) → n + cond t 1 0 ≡ m → n ≤ m
  fewer_or true n m is = omega arith
  fewer_or false n m is = omega arith

  pub ends_fewer : Ends is_after conn old done → count_of done ≤ count_of old
  ends_fewer ends =
      let fewer = fewer_or (is_some (connection_of old.table conn)) (connection_count done.table)
      (connection_count old.table) ends.len in
      omega (arith, ap btree_map_len ends.lost)

  pub lost_closed : Ends is_after conn old done → open_kind_at (connection_of old.table conn) ≡ None
      → Loses is_after conn old done
  lost_closed ends closed = record {
    account = ends.account;
    table = ends.table;
    lost = λ q. ap (λ l. lost_at l q) ends.lost
        ∙ lost_by_close (nat_eq conn q) (connection_of old.table conn) (lost_at old.lost q) closed;
    waiting = ends.waiting;
    count = ends_fewer ends;
  }

-- A connection that is there is lost, after these calls.
pub record Drops {W : Type 0} (is_after : W → List Call → Type 0) (conn : ℕ)
    (connection : Connection) (before : List Call) (old new : Connections W) : Type 0 where
  pub was : connection_of old.table conn ≡ Some connection
  pub account : AddsAll is_after old.wire (before ++ closes conn ∷ []) new.wire
  pub table : IsSet (connection_of old.table) conn None (connection_of new.table)
  pub lost : (q : ℕ) → lost_at new.lost q ≡ lost_by (nat_eq conn q) (Some connection)
      (lost_at old.lost q)
  pub count : count_of new ≤ count_of old

pub last_close : (conn : ℕ) → 0 + cond (nat_eq conn conn) 1 0 ≡ 1
last_close conn = ap (λ t. 0 + cond t 1 0) (eq-eqb conn conn refl)

at_last : (l t o : Bool) → t ≡ true → (l || (t && o)) ≡ ((l || (o && true)) && true)
at_last true t o is = refl
at_last false true true is = refl
at_last false true false is = refl
at_last false false o is = cc is

module _ {W : Type 0} (is_after : W → List Call → Type 0) (conn : ℕ) (old new : Connections W)
    (connection : Connection) where
  dropped_lost : ((q : ℕ) → lost_at new.lost q ≡ lost_by (nat_eq conn q)
      (Some connection) (lost_at old.lost q)) → is_some (lost_at new.lost conn)
      ≡ ((is_some (lost_at old.lost conn) || (is_some connection.framer && true)) && true)
  dropped_lost lost = ap is_some (lost conn)
      ∙ some_lost (nat_eq conn conn) (Some connection) (lost_at old.lost conn)
      ∙ at_last (is_some (lost_at old.lost conn)) (nat_eq conn conn) (is_some connection.framer)
      (eq-eqb conn conn refl)

  -- a line that does not fit its outbox
  pub line_drops : (text : List ℕ) → is_some connection.framer ≡ true → connection.outbox.room
      < length connection.outbox.bytes + length text → Drops is_after conn connection [] old new
      → Carries is_after [] old (line_to conn text ∷ []) new
  line_drops text is_open more drops =
      let outs : List Sent = line_to conn text ∷ [] in
      let owes : bytes_owed (is_some connection.framer) conn outs ≡ text =
      ap (λ t. bytes_owed t conn outs) is_open ∙ ap (λ xs. xs ++ []) (at_once conn text [])
      ∙ append-nil text in
      record {
        calls = closes conn ∷ [];
        account = drops.account;
        passage = by_number conn (connection_of old.table) (connection_of new.table)
            (lost_at old.lost) (lost_at new.lost) (closes conn ∷ []) outs
            (set_other (connection_of old.table) (connection_of new.table) conn None drops.table)
            (λ q two. drops.lost q ∙ ap (λ t. lost_by t (Some connection) (lost_at old.lost q)) two)
            (λ q two. elsewhere_both q [] (closes conn ∷ []) outs []
            (line_elsewhere conn q text two) (close_elsewhere conn q two))
            (subst (λ (s : Option Connection). Passage conn s (lost_at old.lost conn)
            (closes conn ∷ []) outs (connection_of new.table conn) (lost_at new.lost conn))
            (sym drops.was)
            (subst (λ (s : Option Connection). Passage conn (Some connection)
            (lost_at old.lost conn) (closes conn ∷ []) outs s (lost_at new.lost conn))
            (sym (set_here (connection_of old.table)
            (connection_of new.table) conn None drops.table)) (record {
              fate = record {
                left = connection.outbox.bytes ++ bytes_owed (is_some connection.framer) conn outs;
                carried = refl;
                once = last_close conn;
                why = overflowed (omega (
                  arith,
                  more,
                  ap length owes,
                  length-append {A = ℕ} connection.outbox.bytes
                      (bytes_owed (is_some connection.framer) conn outs),
                ));
              };
              lost_is = dropped_lost drops.lost;
              keeps_kind = kind_of_lost (Some connection) (lost_at old.lost conn)
                  (lost_at new.lost conn) (nat_eq conn conn) (drops.lost conn);
              hears_none = hears_gone connection.framer;
            })));
        exchanged = refl;
        count = drops.count;
      }

  -- a write that fails
  pub write_drops : (front : List ℕ) (fault : IoFault)
      → Drops is_after conn connection (writes conn front (Err fault) ∷ []) old new
      → Carries is_after (writes conn front (Err fault) ∷ []) old [] new
  write_drops front fault drops =
      let calls : List Call = writes conn front (Err fault) ∷ closes conn ∷ [] in
      record {
        calls = calls;
        account = drops.account;
        passage = by_number conn (connection_of old.table) (connection_of new.table)
            (lost_at old.lost) (lost_at new.lost) calls []
            (set_other (connection_of old.table) (connection_of new.table) conn None drops.table)
            (λ q two. drops.lost q ∙ ap (λ t. lost_by t (Some connection) (lost_at old.lost q)) two)
            (λ q two. elsewhere_both q (writes conn front (Err fault) ∷ []) (closes conn ∷ []) [] []
            (write_elsewhere conn q front (Err fault) two) (close_elsewhere conn q two))
            (subst (λ (s : Option Connection). Passage conn s (lost_at old.lost conn) calls []
            (connection_of new.table conn) (lost_at new.lost conn)) (sym drops.was)
            (subst (λ (s : Option Connection). Passage conn (Some connection)
            (lost_at old.lost conn) calls [] s (lost_at new.lost conn))
            (sym (set_here (connection_of old.table)
            (connection_of new.table) conn None drops.table)) (record {
              fate = record {
                left = connection.outbox.bytes ++ bytes_owed (is_some connection.framer) conn [];
                carried = ap (λ xs. (xs ++ []) ++ (connection.outbox.bytes ++ bytes_owed
                    (is_some connection.framer) conn [])) (sym (at_once conn [] []));
                once = last_close conn;
                why = cut_off (ap (λ t. t || false) (eq-eqb conn conn refl));
              };
              lost_is = dropped_lost drops.lost;
              keeps_kind = kind_of_lost (Some connection) (lost_at old.lost conn)
                  (lost_at new.lost conn) (nat_eq conn conn) (drops.lost conn);
              hears_none = hears_gone connection.framer;
            })));
        exchanged = refl;
        count = drops.count;
      }
