-- Outboxes that are written one after another.
use Rattle.std.proofs.Common.{◌≡◌, ℕ, ◌+◌, ◌<◌, ◌≤◌, Bool, true, false, ◌&&◌, ◌||◌, cond, nat_eq}
use Rattle.std.proofs.Common.{nat_lt, is_some, Option, Some, None, List, [], ◌∷◌, ◌++◌, length}
use Rattle.std.proofs.Common.{refl, sym, ◌∙◌, ap, subst, append-nil, arith}
use Rattle.std.specs.List.{list_all, list_any, AllByRecursion}
use Rattle.std.specs.BTreeMap.{is_at}
use Rattle.std.specs.List.Sorted.{IsStrictlySortedBy}
use Rattle.std.specs.Cmp.{nat_cmp_is}
use Rattle.std.specs.BTreeSet.{BTreeSet}
use Rattle.std.specs.Ordering.{nat_cmp, is_gt}
use Rattle.std.specs.declared.cmp.Ordering.TheVariants.{Less}
use Rattle.std.proofs.lemmas.Bool.{eq-eqb, ltb-true, ltb-false, eqb-true}
use Rattle.std.proofs.lemmas.Grind.{flat_map-append}
use Rattle.std.proofs.lemmas.List.Folds.{list_all-append}
use Rattle.std.proofs.lemmas.List.Sums.{sum_by-append}
use Rattle.std.proofs.lemmas.Map.Keys.{IsStrictlyIncreasing-from_sorted, le_from_not_gt}
use Rattle.irc_outbox.specs.Calls.{Call, is_some_bytes, is_write_to, times_written}
use Rattle.irc_engine.specs.declared.connections.Connections.{Connections}
use Rattle.irc_engine.specs.declared.engine.Core.{Core}
use Rattle.irc_engine.specs.declared.connection_table.Connection.{Connection}
use Rattle.irc_engine.specs.Carrying.{has_some_at}
use Rattle.irc_engine.specs.Writing.{one_if, destination, destinations, is_some_write, WritesEach}
use Rattle.irc_engine.specs.Laws.Turns.{was_there}
use Rattle.irc_engine.specs.Loops.Connections.{AreWrites, IsMarked, KeepsMarks, Writes}
use Rattle.irc_engine.specs.Moments.{has, moment_of, connection_of}
use Rattle.irc_engine.specs.Loops.Flushing.{Flushing, FlushesSoFar}
use Rattle.irc_engine.specs.Hearing.{nothing_of}
use Rattle.irc_engine.specs.Machines.{Handles}
use Rattle.irc_stage.specs.View.{View}
use Rattle.irc_engine.specs.Running.{AllTold, FlushesBy, IsInOrder, RanBy, RanOnBy}
use Rattle.irc_engine.proofs.RunLaws.{ran_after, ran_connections, ran_both, ran_marked}

sorted_none : IsStrictlySortedBy nat_cmp []
unfolding IsStrictlySortedBy
sorted_none = tt

pub flush_begun : (pending : ℕ → Bool) (connections : ℕ → Option Connection) → ((q : ℕ)
    → pending q ≡ has_some_at (connections q)) → Flushing pending connections [] connections
flush_begun pending connections is = record {
  write_some = refl;
  sorted = sorted_none;
  behind = λ q here. tt;
  at_most = λ q. let same : one_if (pending q) ≡ one_if (has_some_at (connections q)) =
      ap one_if (is q) in omega (arith, same);
  unless_closed = λ q there. let same : one_if (pending q) ≡ one_if (has_some_at (connections q)) =
      ap one_if (is q) in omega (arith, same);
}

pub flush_done : (pending : ℕ → Bool) (was now : ℕ → Option Connection) (calls : List Call)
    → ((q : ℕ) → pending q ≡ false) → Flushing pending was calls now → WritesEach was calls now
flush_done pending was now calls none flushing = record {
  write_some = flushing.write_some;
  in_order = IsStrictlyIncreasing-from_sorted (destinations calls) flushing.sorted;
  each = λ q. let nothing : one_if (pending q) ≡ 0 = ap one_if (none q) in record {
    at_most = omega (arith, flushing.at_most q, nothing);
    unless_closed = λ there. omega (arith, flushing.unless_closed q there, nothing);
  };
}

-- what one write more is
record WritesMore (conn : ℕ) (there : Bool) (more : List Call) : Type 0 where
  some_more : list_all is_some_write more ≡ true
  goes_to : destinations more ≡ cond there (conn ∷ []) []
  times : (q : ℕ) → times_written q more ≡ one_if (nat_eq conn q && there)

never_there : (t : Bool) → 0 ≡ one_if (t && false)
never_there true = refl
never_there false = refl

once_there : (t s : Bool) → s ≡ true → 0 + cond (t && s) 1 0 ≡ one_if (t && true)
once_there true true is = refl
once_there true false is = cc is
once_there false s is = refl

writes_more : (conn : ℕ) (connection : Option Connection) (noted : Bool) (more : List Call)
    → IsMarked true connection noted → AreWrites conn connection more
    → WritesMore conn (is_some connection) more
writes_more conn None noted more mark none =
    subst (λ (cs : List Call). WritesMore conn false cs) (sym none)
    (record { some_more = refl; goes_to = refl; times = λ q. never_there (nat_eq conn q) })
writes_more conn (Some connection) noted more mark one =
    subst (λ (cs : List Call). WritesMore conn true cs) (sym one.exchanges_are) (record {
      some_more = ap (λ t. t && true) some;
      goes_to = refl;
      times = λ q. once_there (nat_eq conn q) (is_some_bytes one.front) some;
    })
  where
    some : is_some_bytes one.front ≡ true
    some = one.some (sym mark.noted_is)

all_end : (P : ℕ → Type 0) (xs : List ℕ) (k : ℕ) → AllByRecursion P xs → P k
    → AllByRecursion P (xs ++ k ∷ [])
all_end P [] k all last = (last, tt)
all_end P (x ∷ xs) k all last = (all.0, all_end P xs k all.1 last)

sorted_end : (xs : List ℕ) (k : ℕ) → IsStrictlySortedBy nat_cmp xs
    → AllByRecursion (λ d. nat_cmp d k ≡ Less) xs → IsStrictlySortedBy nat_cmp (xs ++ k ∷ [])
unfolding IsStrictlySortedBy
sorted_end [] k sorted below = (tt, tt)
sorted_end (x ∷ xs) k sorted below =
    (all_end (λ y. nat_cmp x y ≡ Less) xs k sorted.0 below.0, sorted_end xs k sorted.1 below.1)

at_end : (P : List ℕ → Type 0) (there : Bool) (xs : List ℕ) (k : ℕ) → P xs → P (xs ++ k ∷ [])
    → P (xs ++ cond there (k ∷ []) [])
at_end P true xs k without with_it = with_it
at_end P false xs k without with_it = subst P (sym (append-nil xs)) without

pub below_by : (k q : ℕ) → is_gt (nat_cmp k q) ≡ false → nat_eq k q ≡ false → nat_cmp k q ≡ Less
below_by k q least apart = by (nat_lt k q) refl
  where
    by : (t : Bool) → nat_lt k q ≡ t → nat_cmp k q ≡ Less
    by true less = sym (nat_cmp_is k q Less (ltb-true k q less))
    by false no_less =
        let same : k ≡ q = omega (arith, le_from_not_gt k q least, ltb-false k q no_less) in
        let one = eq-eqb k q same in cc

later_parts : (t p : Bool) → cond t false p ≡ true → (t ≡ false) × (p ≡ true)
later_parts true p is = cc is
later_parts false p is = (refl, is)

fewer : (t p there : Bool) (n h : ℕ) → (t ≡ true → p ≡ true) → n + one_if p ≤ h
    → (n + one_if (t && there)) + one_if (cond t false p) ≤ h
fewer true true true n h so within = omega (arith, within)
fewer true true false n h so within = omega (arith, within)
fewer true false there n h so within = cc (so refl)
fewer false p there n h so within = omega (arith, within)

as_many : (t p there : Bool) (n h : ℕ) → (t ≡ true → p ≡ true) → (t ≡ true → there ≡ true)
    → n + one_if p ≡ h → (n + one_if (t && there)) + one_if (cond t false p) ≡ h
as_many true true true n h so here is = omega (arith, is)
as_many true true false n h so here is = cc (here refl)
as_many true false there n h so here is = cc (so refl)
as_many false p there n h so here is = omega (arith, is)

-- one connection is written to, if it is there
module _ (conn : ℕ) (pending later : ℕ → Bool) (was now new : ℕ → Option Connection)
    (calls more : List Call) (noted : Bool) (popped : pending conn ≡ true)
    (later_is : (q : ℕ) → later q ≡ cond (nat_eq conn q) false (pending q))
    (least : (q : ℕ) → pending q ≡ true → is_gt (nat_cmp conn q) ≡ false)
    (mark : IsMarked true (now conn) noted) (are_writes : AreWrites conn (now conn) more)
    (stays : (q : ℕ) → is_some (new q) ≡ true → is_some (now q) ≡ true)
    (so_far : Flushing pending was calls now) where
  adds : WritesMore conn (is_some (now conn)) more
  adds = writes_more conn (now conn) noted more mark are_writes

  goes_on_to : destinations (calls ++ more) ≡ destinations calls
      ++ cond (is_some (now conn)) (conn ∷ []) []
  goes_on_to =
      flat_map-append destination calls more ∙ ap (λ ds. destinations calls ++ ds) adds.goes_to

  times_on : (q : ℕ) → times_written q (calls ++ more) ≡ times_written q calls + one_if
      (nat_eq conn q && is_some (now conn))
  times_on q = sum_by-append (λ c. cond (is_write_to q c) 1 0) calls more
      ∙ ap (λ n. times_written q calls + n) (adds.times q)

  was_pending : (q : ℕ) → nat_eq conn q ≡ true → pending q ≡ true
  was_pending q one = ap pending (sym (eqb-true conn q one)) ∙ popped

  pub flush_on : Flushing later was (calls ++ more) new
  flush_on = record {
    write_some = list_all-append is_some_write calls more
        ∙ ap (λ t. t && list_all is_some_write more) so_far.write_some ∙ adds.some_more;
    sorted = subst (λ (ds : List ℕ). IsStrictlySortedBy nat_cmp ds) (sym goes_on_to)
        (at_end (λ (ds : List ℕ). IsStrictlySortedBy nat_cmp ds) (is_some (now conn))
        (destinations calls) conn so_far.sorted
        (sorted_end (destinations calls) conn so_far.sorted (so_far.behind conn popped)));
    behind = λ q here.
        let parts = later_parts (nat_eq conn q) (pending q) (sym (later_is q) ∙ here) in
        let before = so_far.behind q parts.1 in
        subst (λ (ds : List ℕ). AllByRecursion (λ d. nat_cmp d q ≡ Less) ds) (sym goes_on_to)
        (at_end (λ (ds : List ℕ). AllByRecursion (λ d. nat_cmp d q ≡ Less) ds) (is_some (now conn))
        (destinations calls) conn before
        (all_end (λ d. nat_cmp d q ≡ Less) (destinations calls) conn before
        (below_by conn q (least q parts.1) parts.0)));
    at_most = λ q.
        subst (λ (n : ℕ). n + one_if (later q) ≤ one_if (has_some_at (was q))) (sym (times_on q))
        (subst (λ (b : Bool). (times_written q calls + one_if (nat_eq conn q && is_some (now conn)))
        + one_if b ≤ one_if (has_some_at (was q))) (sym
        (later_is q))
        (fewer (nat_eq conn q) (pending q) (is_some (now conn)) (times_written q calls)
        (one_if (has_some_at (was q))) (was_pending q) (so_far.at_most q)));
    unless_closed = λ q there.
        subst (λ (n : ℕ). n + one_if (later q) ≡ one_if (has_some_at (was q))) (sym (times_on q))
        (subst (λ (b : Bool). (times_written q calls + one_if (nat_eq conn q && is_some (now conn)))
        + one_if b ≡ one_if (has_some_at (was q))) (sym
        (later_is q))
        (as_many (nat_eq conn q) (pending q) (is_some (now conn)) (times_written q calls)
        (one_if (has_some_at (was q))) (was_pending q)
        (λ one. ap (λ p. is_some (now p)) (eqb-true conn q one) ∙ stays q there)
        (so_far.unless_closed q (stays q there))));
  }

pending_alone : (p : Bool) → ((p && true) || false) ≡ p
pending_alone true = refl
pending_alone false = refl

all_pending : (p w : Bool) (connection : Option Connection) → w ≡ false → p ≡ has_some_at connection
    → ((p && is_some connection) || w) ≡ has_some_at connection
all_pending p w None none is = ap (λ b. (b && false) || w) is ∙ none
all_pending p w (Some connection) none is = ap (λ b. (p && true) || b) none ∙ pending_alone p ∙ is

pub never : (t : Bool) → t ≡ true → t ≡ false → ⊥
never t is not_so = cc (sym is ∙ not_so)

-- no key is left
pub emptied : (left : BTreeSet ℕ) → (0 < length left.keys → false ≡ true) → (q : ℕ)
    → has left q ≡ false
emptied left none q = by left.keys none
  where
    by : (keys : List ℕ) → (0 < length keys → false ≡ true)
        → list_any (is_at (nat_cmp q)) keys ≡ false
    by [] none = refl
    by (k ∷ keys) none = cc (none (omega arith))

still_false : (t : Bool) → cond t false false ≡ false
still_false true = refl
still_false false = refl

module _ {W M : Type 0} {server_of : M → Option View} {handles : Handles M}
    (is_after : W → List Call → Type 0) where
  -- all that are noted are to be written to
  pub flushes_none : (core : Core W M) (rest pending : BTreeSet ℕ) → ((q : ℕ) → has rest q ≡ false)
      → pending ≡ core.connections.waiting → FlushesSoFar is_after server_of handles pending core
      (record core { connections = record core.connections { waiting = rest } })
  flushes_none core rest pending none is = record {
    exchanges = [];
    ran = ran_marked is_after core.machine core.journal _ core.connections rest;
    told = λ told. told;
    halfway = λ order. record {
      all_told = order.all_told;
      marks = λ q. record {
        noted_is = all_pending (has pending q) (has rest q) (connection_of core.connections.table q)
            (none q) (ap (λ s. has s q) is ∙ order.noted q);
        not_done = order.none_done q;
      };
      flushing = flush_begun (has pending) (connection_of core.connections.table)
          (λ q. ap (λ s. has s q) is ∙ order.noted q);
    };
    quiet = λ nobody q. ap (λ s. has s q) is ∙ nobody q;
  }

  -- one connection more is written to, and the server is told of those that are lost
  pub flushes_one : (old now new : Core W M) (mid : Connections W)
      (pending later : BTreeSet ℕ) (conn : ℕ) → has pending conn ≡ true
      → ((q : ℕ) → has later q ≡ cond (nat_eq conn q) false (has pending q))
      → ((q : ℕ) → has pending q ≡ true → is_gt (nat_cmp conn q) ≡ false)
      → Writes is_after conn now.connections mid
      → RanOnBy is_after server_of handles (moment_of (record now { connections = mid }))
      (moment_of new)
      → AllTold (moment_of new) → KeepsMarks mid new.connections
      → FlushesSoFar is_after server_of handles pending old now
      → FlushesSoFar is_after server_of handles later old new
  flushes_one old now new mid pending later conn popped later_is least wrote ran told keeps so_far =
      record {
        exchanges = so_far.exchanges ++ wrote.exchanges;
        ran = ran_both is_after so_far.exchanges wrote.exchanges [] nothing_of nothing_of nothing_of
            (moment_of old) (moment_of now) (moment_of new)
            (λ q. refl) so_far.ran more;
        told = λ before. told;
        halfway = λ order. let half = so_far.halfway order in record {
          all_told = told;
          marks = λ q. keeps q (has later q) (subst (λ (b : Bool). IsMarked b
              (connection_of mid.table q) (has mid.waiting q)) (sym (later_is q)) (wrote.marks q
              (has pending q) (half.marks q)));
          flushing = flush_on conn (has pending) (has later) (connection_of old.connections.table)
              (connection_of now.connections.table)
              (connection_of new.connections.table) so_far.exchanges wrote.exchanges
              (has now.connections.waiting conn) popped later_is least
              (subst (λ (b : Bool). IsMarked b (connection_of now.connections.table conn)
              (has now.connections.waiting conn)) popped (half.marks conn)) wrote.are_writes
              (λ q there. was_there q (connection_of now.connections.table q) (connection_of
              new.connections.table q) more.calls more.outs (more.fates q) there) half.flushing;
        };
        quiet =
            λ nobody q. later_is q ∙ ap (λ b. cond (nat_eq conn q) false b) (so_far.quiet nobody q)
            ∙ still_false (nat_eq conn q);
      }
    where
      more : RanBy is_after server_of handles wrote.exchanges [] nothing_of (moment_of now)
          (moment_of new)
      more = ran_after is_after wrote.exchanges [] nothing_of (moment_of now)
          (moment_of (record now { connections = mid })) (moment_of new)
          (ran_connections is_after now.machine now.journal _ wrote.exchanges now.connections mid
          wrote.carries) ran

  module _ (pending : BTreeSet ℕ) (old new : Core W M) (none : (q : ℕ) → has pending q ≡ false)
      (so_far : FlushesSoFar is_after server_of handles pending old new) where
    -- all have been written to
    pub flushes_all : FlushesBy is_after server_of handles (moment_of old) (moment_of new)
    flushes_all = record {
      exchanges = so_far.exchanges;
      ran = so_far.ran;
      each = λ order. flush_done (has pending) (connection_of old.connections.table)
          (connection_of new.connections.table) so_far.exchanges none
          (so_far.halfway order).flushing;
    }

    pub in_order_again : IsInOrder (moment_of old) → IsInOrder (moment_of new)
    in_order_again order = let half = so_far.halfway order in record {
      all_told = half.all_told;
      noted = λ q. (marked q (half.marks q)).noted_is;
      none_done = λ q. (half.marks q).not_done;
    }
      where
        marked : (q : ℕ) → IsMarked (has pending q)
            (connection_of new.connections.table q) (has new.connections.waiting q)
            → IsMarked false (connection_of new.connections.table q) (has new.connections.waiting q)
        marked q is = subst (λ (b : Bool). IsMarked b (connection_of new.connections.table q)
            (has new.connections.waiting q)) (none q) is
