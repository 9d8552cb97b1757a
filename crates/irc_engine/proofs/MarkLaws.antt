-- Which connections are noted to be written to, step by step.
use Rattle.std.proofs.Common.{◌≡◌, ℕ, ◌<◌, Bool, true, false, not, ◌&&◌, ◌||◌, cond, nat_eq}
use Rattle.std.proofs.Common.{is_some, Option, Some, None, Result, Ok, Err, List, [], ◌∷◌, ◌++◌}
use Rattle.std.proofs.Common.{length, refl, sym, ◌∙◌, ap, subst, arith}
use Rattle.std.specs.BTreeSet.{BTreeSet}
use Rattle.std.proofs.Math.Bool.{or-true}
use Rattle.std.proofs.lemmas.Bool.{eqb-true}
use Rattle.arrayvec.specs.ArrayVec.{ArrayVec}
use Rattle.irc_outbox.specs.declared.outbox.Overflow.{Overflow}
use Rattle.irc_outbox.specs.Calls.{Call, is_some_bytes}
use Rattle.irc_engine.specs.declared.connections.Connections.{Connections}
use Rattle.irc_engine.specs.declared.connection_table.Pushed.{Pushed}
use Rattle.irc_engine.specs.declared.connection_table.Pushed.TheVariants.{Nothing, First, More}
use Rattle.irc_engine.specs.declared.kind.ConnectionKind.{ConnectionKind}
use Rattle.irc_engine.specs.declared.connection_table.Connection.{Connection}
use Rattle.irc_engine.specs.Carrying.{fresh_connection, has_some_at, is_done_at}
use Rattle.irc_engine.specs.Loops.Tables.{at_connection, no_connection, IsPushedAt}
use Rattle.irc_engine.specs.Moments.{connection_of, has}
use Rattle.irc_engine.specs.Loops.Tables.{IsQueued, IsSet, IsClosedAt, FramesAt}
use Rattle.irc_engine.specs.Loops.Connections.{ended, stayed, IsNoted, IsMarked, IsMarkedAt}
use Rattle.irc_engine.specs.Loops.Connections.{KeepsMarks, KeepsNotes, EndsOrWaits}
use Rattle.irc_engine.proofs.EachConnection.{at_once, set_here, set_other}

marked_as : (pending : Bool) (old new : Option Connection) (was now : Bool) → new ≡ old → now ≡ was
    → IsMarked pending old was → IsMarked pending new now
marked_as pending old new was now connection noted is =
    subst (λ (s : Option Connection). IsMarked pending s now) (sym connection)
    (subst (λ (b : Bool). IsMarked pending old b) (sym noted) is)

nobody : (pending : Bool) → ((pending && false) || false) ≡ false
nobody true = refl
nobody false = refl

marked_none : (pending : Bool) → IsMarked pending None false
marked_none pending = record { noted_is = nobody pending; not_done = refl }

some_behind : (a b : List ℕ) → 0 < length b → is_some_bytes (a ++ b) ≡ true
some_behind [] [] some = absurd (omega (arith, some))
some_behind [] (x ∷ b) some = refl
some_behind (x ∷ a) b some = refl

done_open : (framed some : Bool) → framed ≡ true → (not framed && not some) ≡ false
done_open true some is = refl
done_open false some is = cc is

-- bytes are to be written, and it is noted or about to be written to
queued_marked : (pending noted : Bool) (connection now : Connection) (bytes : List ℕ)
    → IsQueued connection bytes now → ((pending && true) || noted) ≡ true
    → IsMarked pending (Some now) noted
queued_marked pending noted connection now bytes queued is = record {
  noted_is = is ∙ sym (ap (λ (s : Connection). is_some_bytes s.outbox.bytes) queued.is
      ∙ some_behind connection.outbox.bytes bytes queued.some);
  not_done = done_open (is_some now.framer) (is_some_bytes now.outbox.bytes)
      (ap (λ (s : Connection). is_some s.framer) queued.is ∙ queued.is_open);
}

module _ {W : Type 0} (conn : ℕ) (old new : Connections W) (others : (q : ℕ) → nat_eq conn q ≡ false
    → connection_of new.table q ≡ connection_of old.table q) (now : Bool)
    (noted : IsNoted old.waiting conn now new.waiting) where
  here : has new.waiting conn ≡ now
  here = noted conn ∙ at_once conn now (has old.waiting conn)

  elsewhere : (q : ℕ) (pending : Bool) → nat_eq conn q ≡ false → IsMarkedAt q pending old
      → IsMarkedAt q pending new
  elsewhere q pending two is =
      marked_as pending (connection_of old.table q) (connection_of new.table q) (has old.waiting q)
      (has new.waiting q) (others q two)
      (noted q ∙ ap (λ t. cond t now (has old.waiting q)) two) is

  -- one connection has changed, and the others are as they were
  pub marks_by : ((pending : Bool) → IsMarkedAt conn pending old
      → IsMarked pending (connection_of new.table conn) now) → KeepsMarks old new
  marks_by so = λ q pending. by q pending (nat_eq conn q) refl
    where
      by : (q : ℕ) (pending t : Bool) → nat_eq conn q ≡ t → IsMarkedAt q pending old
          → IsMarkedAt q pending new
      by q pending true one is =
          subst (λ p. IsMarkedAt p pending new) (eqb-true conn q one)
          (subst (λ (b : Bool). IsMarked pending (connection_of new.table conn) b) (sym here)
          (so pending (subst (λ p. IsMarkedAt p pending old) (sym (eqb-true conn q one)) is)))
      by q pending false two is = elsewhere q pending two is

  -- one connection is not about to be written to any more
  pub unmarks_by : IsMarked false (connection_of new.table conn) now → (q : ℕ) (pending : Bool)
      → IsMarkedAt q pending old → IsMarkedAt q (cond (nat_eq conn q) false pending) new
  unmarks_by so = λ q pending. by q pending (nat_eq conn q) refl
    where
      by : (q : ℕ) (pending t : Bool) → nat_eq conn q ≡ t → IsMarkedAt q pending old
          → IsMarkedAt q (cond (nat_eq conn q) false pending) new
      by q pending true one is =
          subst (λ (t : Bool). IsMarkedAt q (cond t false pending) new) (sym one)
          (subst (λ p. IsMarkedAt p false new) (eqb-true conn q one)
          (subst (λ (b : Bool). IsMarked false (connection_of new.table conn) b) (sym here) so))
      by q pending false two is = subst (λ (t : Bool). IsMarkedAt q (cond t false pending) new)
          (sym two) (elsewhere q pending two is)

module _ {W : Type 0} (conn : ℕ) (old new : Connections W) where
  -- bytes are the first that wait
  pub marks_first : (bytes : List ℕ) (result : Result Pushed Overflow) → result ≡ Ok First
      → IsPushedAt conn bytes old.table result new.table → IsNoted old.waiting conn true new.waiting
      → KeepsMarks old new
  marks_first bytes result is pushed noted =
      by (subst (λ r. IsPushedAt conn bytes old.table r new.table) is pushed)
    where
      by : IsPushedAt conn bytes old.table (Ok First) new.table → KeepsMarks old new
      by (no_connection none same never) = cc never
      by (at_connection connection now was set so) =
          marks_by conn old new (set_other (connection_of old.table) (connection_of new.table) conn
          (Some now) set) true noted
          (λ pending is. subst (λ (s : Option Connection). IsMarked pending s true) (sym (set_here
          (connection_of old.table) (connection_of new.table) conn (Some now) set))
          (queued_marked pending true connection now bytes so.0 (or-true (pending && true))))

  -- no connection has changed
  pub marks_same : ((q : ℕ) → connection_of new.table q ≡ connection_of old.table q)
      → ((q : ℕ) → has new.waiting q ≡ has old.waiting q) → KeepsMarks old new
  marks_same table noted = λ q pending is.
      marked_as pending (connection_of old.table q) (connection_of new.table q) (has old.waiting q)
      (has new.waiting q) (table q) (noted q) is

  same_connections : (connection now : Connection) → connection_of old.table conn ≡ Some connection
      → IsSet (connection_of old.table) conn (Some now) (connection_of new.table) → now ≡ connection
      → (q : ℕ) → connection_of new.table q ≡ connection_of old.table q
  same_connections connection now was set is q = by (nat_eq conn q) refl
    where
      by : (t : Bool) → nat_eq conn q ≡ t → connection_of new.table q ≡ connection_of old.table q
      by true one = set q ∙ ap (λ t. cond t (Some now) (connection_of old.table q)) one ∙ ap Some is
          ∙ sym was ∙ ap (connection_of old.table) (eqb-true conn q one)
      by false two = set q ∙ ap (λ t. cond t (Some now) (connection_of old.table q)) two

  as_before : ((q : ℕ) → has new.waiting q ≡ has old.waiting q)
      → IsNoted old.waiting conn (has old.waiting conn) new.waiting
  as_before noted q = noted q ∙ sym (by (nat_eq conn q) refl)
    where
      by : (t : Bool) → nat_eq conn q ≡ t
          → cond (nat_eq conn q) (has old.waiting conn) (has old.waiting q) ≡ has old.waiting q
      by true one = ap (λ t. cond t (has old.waiting conn) (has old.waiting q)) one
          ∙ ap (has old.waiting) (eqb-true conn q one)
      by false two = ap (λ t. cond t (has old.waiting conn) (has old.waiting q)) two

  -- bytes wait behind others: it is noted, or the turn is about to write to it
  pub marks_more : (bytes : List ℕ) (result : Result Pushed Overflow)
      → result ≡ Ok More → IsPushedAt conn bytes old.table result new.table
      → ((q : ℕ) → has new.waiting q ≡ has old.waiting q) → KeepsMarks old new
  marks_more bytes result is pushed noted =
      by (subst (λ r. IsPushedAt conn bytes old.table r new.table) is pushed)
    where
      by : IsPushedAt conn bytes old.table (Ok More) new.table → KeepsMarks old new
      by (no_connection none same never) = cc never
      by (at_connection connection now was set so) =
          marks_by conn old new (set_other (connection_of old.table) (connection_of new.table) conn
          (Some now) set) (has old.waiting conn)
          (as_before noted)
          (λ pending is. subst (λ (s : Option Connection). IsMarked pending s (has old.waiting
          conn)) (sym (set_here (connection_of old.table) (connection_of new.table) conn
          (Some now) set))
          (queued_marked pending (has old.waiting conn) connection now bytes so.0
          ((subst (λ (s : Option Connection). IsMarked pending s (has old.waiting conn)) was
          is).noted_is ∙ so.1)))

  -- its outbox has taken none
  pub marks_passed : (bytes : List ℕ) (result : Result Pushed Overflow)
      → result ≡ Ok Nothing → IsPushedAt conn bytes old.table result new.table
      → ((q : ℕ) → has new.waiting q ≡ has old.waiting q) → KeepsMarks old new
  marks_passed bytes result is pushed noted =
      by (subst (λ r. IsPushedAt conn bytes old.table r new.table) is pushed)
    where
      by : IsPushedAt conn bytes old.table (Ok Nothing) new.table → KeepsMarks old new
      by (no_connection none same never) = marks_same same noted
      by (at_connection connection now was set (never, now_is)) =
          marks_same (same_connections connection now was set now_is) noted

  -- it did not fit
  pub others_refused : (bytes : List ℕ) (overflow : Overflow) (result : Result Pushed Overflow)
      → result ≡ Err overflow → IsPushedAt conn bytes old.table result new.table → (q : ℕ)
      → connection_of new.table q ≡ connection_of old.table q
  others_refused bytes overflow result is pushed =
      by (subst (λ r. IsPushedAt conn bytes old.table r new.table) is pushed)
    where
      by : IsPushedAt conn bytes old.table (Err overflow) new.table → (q : ℕ)
          → connection_of new.table q ≡ connection_of old.table q
      by (no_connection none same never) = same
      by (at_connection connection now was set (is_open, more, now_is)) =
          same_connections connection now was set now_is

  pub closed_others : IsClosedAt conn old.table new.table → (q : ℕ) → nat_eq conn q ≡ false
      → connection_of new.table q ≡ connection_of old.table q
  closed_others (no_connection none same so) q two = same q
  closed_others (at_connection connection now was set so) q two =
      set_other (connection_of old.table) (connection_of new.table) conn (Some now) set q two

  -- the server has closed a connection, and something is left to write
  pub marks_closed : IsClosedAt conn old.table new.table
      → ((q : ℕ) → has new.waiting q ≡ has old.waiting q)
      → is_done_at (connection_of new.table conn) ≡ false → KeepsMarks old new
  marks_closed (no_connection none same so) noted undone = marks_same same noted
  marks_closed (at_connection connection now was set now_is) noted undone =
      marks_by conn old new (set_other (connection_of old.table) (connection_of new.table) conn
      (Some now) set) (has old.waiting conn)
      (as_before noted)
      (λ pending is. record {
        noted_is = by pending
            (subst (λ (s : Option Connection). IsMarked pending s (has old.waiting conn)) was is);
        not_done = undone;
      })
    where
      now_there : connection_of new.table conn ≡ Some now
      now_there = set_here (connection_of old.table) (connection_of new.table) conn (Some now) set

      by : (pending : Bool) → IsMarked pending (Some connection) (has old.waiting conn)
          → ((pending && is_some (connection_of new.table conn)) || has old.waiting conn)
          ≡ has_some_at (connection_of new.table conn)
      by pending is =
          ap (λ (s : Option Connection). (pending && is_some s) || has old.waiting conn) now_there
          ∙ is.noted_is
          ∙ sym (ap has_some_at now_there
          ∙ ap (λ (s : Connection). is_some_bytes s.outbox.bytes) now_is)

  -- a framer has taken bytes
  pub marks_framed : (piece : List ℕ) (result : Option (ℕ × ConnectionKind × Option (ArrayVec ℕ)))
      → FramesAt conn piece old.table result new.table
      → ((q : ℕ) → has new.waiting q ≡ has old.waiting q) → KeepsMarks old new
  marks_framed piece result (no_connection none same so) noted = marks_same same noted
  marks_framed piece None (at_connection connection now was set so) noted =
      marks_same (same_connections connection now was set so.1) noted
  marks_framed piece (Some taken) (at_connection connection now was set so) noted =
      marks_by conn old new (set_other (connection_of old.table) (connection_of new.table) conn
      (Some now) set) (has old.waiting conn)
      (as_before noted)
      (λ pending is. subst (λ (s : Option Connection). IsMarked pending s (has old.waiting conn))
      (sym (set_here (connection_of old.table) (connection_of new.table) conn
      (Some now) set))
      (by pending
      (subst (λ (s : Option Connection). IsMarked pending s (has old.waiting conn)) was is)))
    where
      by : (pending : Bool) → IsMarked pending (Some connection) (has old.waiting conn)
          → IsMarked pending (Some now) (has old.waiting conn)
      by pending is = record {
        noted_is = is.noted_is ∙ sym (ap (λ (s : Connection). is_some_bytes s.outbox.bytes) so.is);
        not_done = done_open (is_some now.framer) (is_some_bytes now.outbox.bytes)
            (ap (λ (s : Connection). is_some s.framer) so.is);
      }

  module _ (mid : Connections W) (others : (q : ℕ) → nat_eq conn q ≡ false
      → connection_of mid.table q ≡ connection_of old.table q)
      (waiting : (q : ℕ) → has mid.waiting q ≡ has old.waiting q) where
    -- a connection is there no more
    pub marks_ended : IsSet (connection_of mid.table) conn None (connection_of new.table)
        → IsNoted mid.waiting conn false new.waiting → KeepsMarks old new
    marks_ended set noted =
        marks_by conn old new (λ q two. set_other (connection_of mid.table)
        (connection_of new.table) conn None set q two ∙ others q two) false
        (λ q. noted q ∙ ap (λ b. cond (nat_eq conn q) false b) (waiting q))
        (λ pending is. subst (λ (s : Option Connection). IsMarked pending s false)
        (sym (set_here (connection_of mid.table) (connection_of new.table) conn None set))
        (marked_none pending))

    -- a write failed, or nothing was left after it
    pub unmarks_gone : IsSet (connection_of mid.table) conn None (connection_of new.table)
        → IsNoted mid.waiting conn false new.waiting → (q : ℕ) (pending : Bool)
        → IsMarkedAt q pending old → IsMarkedAt q (cond (nat_eq conn q) false pending) new
    unmarks_gone set noted =
        unmarks_by conn old new (λ q two. set_other (connection_of mid.table)
        (connection_of new.table) conn None set q two ∙ others q two) false
        (λ q. noted q ∙ ap (λ b. cond (nat_eq conn q) false b) (waiting q))
        (subst (λ (s : Option Connection). IsMarked false s false)
        (sym (set_here (connection_of mid.table) (connection_of new.table) conn None set))
        (marked_none false))

    -- after a write
    pub unmarks_written : (is_after : W → List Call → Type 0)
        → EndsOrWaits is_after conn mid new → (q : ℕ) (pending : Bool) → IsMarkedAt q pending old
        → IsMarkedAt q (cond (nat_eq conn q) false pending) new
    unmarks_written is_after (ended done ends) = unmarks_gone ends.table ends.waiting
    unmarks_written is_after (stayed undone wire table lost noted) =
        unmarks_by conn old new (λ q two. ap (λ s. connection_of s q) table ∙ others q two)
        (has_some_at (connection_of mid.table conn))
        (λ q. noted q ∙ ap (λ b. cond (nat_eq conn q)
        (has_some_at (connection_of mid.table conn)) b) (waiting q))
        (subst (λ (s : Option Connection). IsMarked false s (has_some_at
        (connection_of mid.table conn))) (sym (ap (λ s. connection_of s conn) table))
        (record { noted_is = refl; not_done = undone }))

  -- a connection has been made, and more is done
  pub notes_made : (mid : Connections W) (kind : ConnectionKind) (room : ℕ)
      → connection_of old.table conn ≡ None → IsSet (connection_of old.table) conn
      (Some (fresh_connection kind room)) (connection_of mid.table)
      → ((q : ℕ) → has mid.waiting q ≡ has old.waiting q) → KeepsMarks mid new → KeepsNotes old new
  notes_made mid kind room none set waiting keeps =
      λ q is. keeps q false (by q (nat_eq conn q) refl is)
    where
      at : IsMarkedAt conn false old → IsMarkedAt conn false mid
      at is = subst (λ (s : Option Connection). IsMarked false s (has mid.waiting conn))
          (sym (set_here (connection_of old.table) (connection_of mid.table) conn (Some
          (fresh_connection kind room)) set))
          (record { noted_is = waiting conn ∙ is.noted_is ∙ ap has_some_at none; not_done = refl })

      by : (q : ℕ) (t : Bool) → nat_eq conn q ≡ t → IsMarkedAt q false old → IsMarkedAt q false mid
      by q true one is = subst (λ p. IsMarkedAt p false mid) (eqb-true conn q one)
          (at (subst (λ p. IsMarkedAt p false old) (sym (eqb-true conn q one)) is))
      by q false two is = marked_as false (connection_of old.table q) (connection_of mid.table q)
          (has old.waiting q) (has mid.waiting q)
          (set_other (connection_of old.table) (connection_of mid.table) conn
          (Some (fresh_connection kind room)) set q two) (waiting q) is

pub noted_as : (old new : BTreeSet ℕ) (conn : ℕ) (a b : Bool) → a ≡ b → IsNoted old conn a new
    → IsNoted old conn b new
noted_as old new conn a b is noted = λ q. noted q ∙ ap (λ t. cond (nat_eq conn q) t (has old q)) is
