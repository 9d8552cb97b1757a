-- One write to a connection, and what comes of it.
use Rattle.std.proofs.Common.{◌≡◌, ℕ, ◌≤◌, Bool, true, false, cond, nat_eq, is_some, Option, Some}
use Rattle.std.proofs.Common.{None, Result, Ok, Err, List, [], ◌∷◌, ◌++◌, refl, sym, ◌∙◌, ap, subst}
use Rattle.std.proofs.Common.{append-nil, arith}
use Rattle.irc_names.specs.Lemmas.PlainFacts.{and_not}
use Rattle.irc_outbox.specs.declared.wire.IoFault.{IoFault}
use Rattle.irc_outbox.specs.Calls.{Call, writes, closes, bytes_taken, is_some_bytes}
use Rattle.irc_outbox.specs.Outboxes.{IsFront}
use Rattle.irc_engine.specs.declared.connections.Connections.{Connections}
use Rattle.irc_engine.specs.declared.connection_table.Connection.{Connection}
use Rattle.irc_engine.specs.Loops.Counts.{count_of}
use Rattle.irc_engine.specs.Loops.Tables.{at_connection, no_connection, IsWrittenAt}
use Rattle.irc_engine.specs.Moments.{connection_of, has, lost_at}
use Rattle.irc_engine.specs.Loops.Connections.{lost_by, AreWrites, Carries, Loses}
use Rattle.irc_engine.specs.Loops.Connections.{EndsOrWaits, Writes}
use Rattle.irc_engine.proofs.EachConnection.{adds_both, at_once, set_here, set_other}
use Rattle.irc_engine.proofs.EachConnection.{write_elsewhere, write_drops}
use Rattle.irc_engine.proofs.ConnectionSteps.{carries_none, carries_on, one_connection}
use Rattle.irc_engine.proofs.ConnectionSteps.{ended_or_waits}
use Rattle.irc_engine.proofs.KindLaws.{kind_kept}
use Rattle.irc_engine.specs.Lemmas.CarryingLaws.{nothing_owed, kept_some}
use Rattle.irc_engine.specs.Lemmas.HearingLaws.{hears_same}
use Rattle.irc_engine.proofs.MarkLaws.{unmarks_gone, unmarks_written}

some_pushed : (bytes front : List ℕ) → IsFront bytes front → is_some_bytes bytes ≡ true
    → is_some_bytes front ≡ true
some_pushed [] front is some = cc some
some_pushed (b ∷ bytes) [] is some = absurd (omega (arith, is.some (omega arith)))
some_pushed (b ∷ bytes) (c ∷ front) is some = refl

-- one write is made, if the connection is there
pub record Wrote {W : Type 0} (is_after : W → List Call → Type 0) (conn : ℕ)
    (old new : Connections W) : Type 0 where
  pub exchanges : List Call
  pub carries : Carries is_after exchanges old [] new
  pub are_writes : AreWrites conn (connection_of old.table conn) exchanges

module _ {W : Type 0} (is_after : W → List Call → Type 0) (conn : ℕ) (old mid : Connections W)
    (lost : mid.lost ≡ old.lost)
    (count : count_of mid ≤ count_of old) where
  -- it does not fail
  wrote : (n : ℕ) → IsWrittenAt is_after conn old.table old.wire (Ok n) mid.table mid.wire
      → Wrote is_after conn old mid
  wrote n (no_connection none same so) = record {
    exchanges = [];
    carries = carries_none is_after old mid so.1 same lost count;
    are_writes = subst (λ (s : Option Connection). AreWrites conn s []) (sym none) refl;
  }
  wrote n (at_connection connection now was set so) =
      let w = so.writes_some in
      record {
        exchanges = writes conn w.front (Ok n) ∷ [];
        carries = record {
          calls = writes conn w.front (Ok n) ∷ [];
          account = w.account;
          passage = one_connection is_after conn old mid (writes conn w.front (Ok n) ∷ []) []
              (Some connection) (Some now) was
              (set_here (connection_of old.table) (connection_of mid.table) conn (Some now) set)
              (set_other (connection_of old.table) (connection_of mid.table) conn (Some now) set)
              (λ q two. ap (λ l. lost_at l q) lost)
              (λ q two. write_elsewhere conn q w.front (Ok n) two)
              (record {
                fate = record {
                  carried = ap (λ xs. connection.outbox.bytes ++ xs)
                      (nothing_owed (is_some connection.framer) conn [] refl)
                      ∙ append-nil connection.outbox.bytes ∙ w.left
                      ∙ ap (λ xs. xs ++ now.outbox.bytes)
                      (sym (append-nil (bytes_taken w.front (Ok n))) ∙ ap (λ xs. xs ++ [])
                      (sym (at_once conn (bytes_taken w.front (Ok n)) [])));
                  same_room = w.same_room;
                  still_open = ap (λ (s : Connection). is_some s.framer) so.same
                      ∙ and_not (is_some connection.framer) false refl;
                  never = refl;
                  never_cut = refl;
                };
                lost_is = ap (λ l. is_some (lost_at l conn)) lost
                    ∙ kept_some (is_some (lost_at old.lost conn)) (is_some connection.framer);
                keeps_kind = kind_kept (Some connection) (Some now) (lost_at old.lost conn)
                    (lost_at mid.lost conn) (ap (λ (s : Connection). Some s.kind) so.same)
                    (ap (λ l. lost_at l conn) lost);
                hears_none = hears_same connection.framer now.framer
                    (ap (λ (s : Connection). s.framer) so.same);
              });
          exchanged = refl;
          count = count;
        };
        are_writes = subst (λ (s : Option Connection).
            AreWrites conn s (writes conn w.front (Ok n) ∷ [])) (sym was)
            (record {
              front = w.front;
              answer = Ok n;
              exchanges_are = refl;
              some = some_pushed connection.outbox.bytes w.front w.is_front;
            });
      }

  others : (result : Result ℕ IoFault)
      → IsWrittenAt is_after conn old.table old.wire result mid.table mid.wire → (q : ℕ)
      → nat_eq conn q ≡ false → connection_of mid.table q ≡ connection_of old.table q
  others result (no_connection none same so) q two = same q
  others result (at_connection connection now was set so) q two =
      set_other (connection_of old.table) (connection_of mid.table) conn (Some now) set q two

  module _ (new : Connections W) (waiting : (q : ℕ) → has mid.waiting q ≡ has old.waiting q) where
    -- then it ends, or it stays
    pub write_done : (n : ℕ) (result : Result ℕ IoFault) → result ≡ Ok n
        → IsWrittenAt is_after conn old.table old.wire result mid.table mid.wire
        → EndsOrWaits is_after conn mid new → Writes is_after conn old new
    write_done n result is written ends_or_waits =
        let one = wrote n (subst (λ r.
        IsWrittenAt is_after conn old.table old.wire r mid.table mid.wire) is written) in
        record {
          exchanges = one.exchanges;
          carries =
              subst (λ (cs : List Call). Carries is_after cs old [] new) (append-nil one.exchanges)
              (carries_on is_after old mid new one.exchanges [] [] [] one.carries
              (ended_or_waits is_after conn mid new ends_or_waits));
          are_writes = one.are_writes;
          marks = unmarks_written conn old new mid
              (others result written) waiting is_after ends_or_waits;
        }

    -- it fails, and the connection is lost
    pub write_lost : (fault : IoFault) (result : Result ℕ IoFault) → result ≡ Err fault
        → IsWrittenAt is_after conn old.table old.wire result mid.table mid.wire
        → Loses is_after conn mid new → Writes is_after conn old new
    write_lost fault result is written loses = by
        (subst (λ r. IsWrittenAt is_after conn old.table old.wire r mid.table mid.wire) is written)
      where
        by : IsWrittenAt is_after conn old.table old.wire (Err fault) mid.table mid.wire
            → Writes is_after conn old new
        by (no_connection none same never) = cc never.0
        by (at_connection connection now was set so) =
            let w = so.writes_some in
            record {
              exchanges = writes conn w.front (Err fault) ∷ [];
              carries = write_drops is_after conn old new connection w.front fault (record {
                was = was;
                account = adds_both is_after old.wire mid.wire new.wire (writes conn w.front
                    (Err fault) ∷ []) (closes conn ∷ []) w.account loses.account;
                table = λ q. loses.table q ∙ over q (nat_eq conn q) refl (set q);
                lost = λ q. loses.lost q
                    ∙ ap (λ l. lost_by (nat_eq conn q) (connection_of mid.table conn)
                    (lost_at l q)) lost
                    ∙ ap (λ (s : Option Connection). lost_by (nat_eq conn q) s (lost_at old.lost q))
                    (set_here (connection_of old.table) (connection_of mid.table) conn
                    (Some now) set)
                    ∙ ap (λ (s : Connection). lost_by (nat_eq conn q) (Some s)
                    (lost_at old.lost q)) so.same;
                count = omega (arith, loses.count, count);
              });
              are_writes = subst (λ (s : Option Connection).
                  AreWrites conn s (writes conn w.front (Err fault) ∷ [])) (sym was)
                  (record {
                    front = w.front;
                    answer = Err fault;
                    exchanges_are = refl;
                    some = some_pushed connection.outbox.bytes w.front w.is_front;
                  });
              marks = unmarks_gone conn old new mid
                  (others result written) waiting loses.table loses.waiting;
            }
          where
            over : (q : ℕ) (t : Bool) → nat_eq conn q ≡ t → connection_of mid.table q ≡ cond
                (nat_eq conn q) (Some now) (connection_of old.table q) → cond (nat_eq conn q) None
                (connection_of mid.table q) ≡ cond (nat_eq conn q) None (connection_of old.table q)
            over q true e is = ap (λ t. cond t None (connection_of mid.table q)) e
                ∙ sym (ap (λ t. cond t None (connection_of old.table q)) e)
            over q false e is = ap (λ s. cond (nat_eq conn q) None s)
                (is ∙ ap (λ t. cond t (Some now) (connection_of old.table q)) e)
