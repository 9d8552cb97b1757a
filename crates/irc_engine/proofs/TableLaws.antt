-- The code's table of connections, as what it answers at each number.
use Rattle.std.proofs.Common.{◌≡◌, ℕ, zero, suc, ◌+◌, ◌<◌, Bool, true, false, cond, nat_eq, Option}
use Rattle.std.proofs.Common.{Some, None, is_some, Result, Ok, List, [], ◌∷◌, length}
use Rattle.std.proofs.Common.{slice_set, count_by, ◌≤◌, get_or, refl, sym, ◌∙◌, ap, subst, arith}
use Rattle.std.specs.Ordering.{nat_cmp, is_eq}
use Rattle.std.specs.Cmp.{nat_cmp_total, eq_by_cmp_equiv, Equal-is}
use Rattle.std.specs.FinMap.{nat_cmp-IsAntisymmetric}
use Rattle.std.specs.List.{slice_get}
use Rattle.std.proofs.lemmas.Bool.{eq-eqb, eqb-true}
use Rattle.std.proofs.lemmas.List.Sums.{sum_by-cons}
use Rattle.std.proofs.lemmas.Option.{slice_get_within}
use Rattle.irc_outbox.specs.declared.outbox.Overflow.{Overflow}
use Rattle.irc_engine.specs.declared.connection_table.Pushed.{Pushed}
use Rattle.irc_engine.specs.declared.connection_table.Pushed.TheVariants.{First, More}
use Rattle.irc_engine.specs.declared.connection_table.Connection.{Connection}
use Rattle.irc_engine.specs.declared.connection_table.ConnectionTable.{ConnectionTable}
use Rattle.irc_engine.specs.Loops.Tables.{connection_count}
use Rattle.irc_engine.specs.Moments.{connection_at, connection_of}
use Rattle.irc_engine.specs.Loops.Tables.{IsPushedAt, IsQueued, IsSet, Through, at_connection}
use Rattle.irc_engine.specs.Loops.Tables.{no_connection, Within, in_none, in_connection}

-- numbers are one by their order just where they are equal
pub by_order : (a b : ℕ) → is_eq (nat_cmp a b) ≡ nat_eq a b
by_order a b = by (is_eq (nat_cmp a b)) refl (nat_eq a b) refl
  where
    by : (s : Bool) → is_eq (nat_cmp a b) ≡ s → (t : Bool) → nat_eq a b ≡ t → s ≡ t
    by true e true f = refl
    by false e false f = refl
    by true e false f =
        sym (eq-eqb a b (nat_cmp-IsAntisymmetric a b ((Equal-is (nat_cmp a b)).0 e))) ∙ f
    by false e true f =
        sym e ∙ ap (λ n. is_eq (nat_cmp n b)) (eqb-true a b f)
        ∙ (eq_by_cmp_equiv nat_cmp_total).refl b

pub set_at : {X : Type 0} (f : ℕ → X) (now : X) (conn q : ℕ)
    → cond (is_eq (nat_cmp conn q)) now (f q) ≡ cond (nat_eq conn q) now (f q)
set_at f now conn q = ap (λ b. cond b now (f q)) (by_order conn q)

set_here : {X : Type 0} (xs : List X) (i : ℕ) (x : X) → i < length xs
    → slice_get (slice_set xs i x) i ≡ Some x
set_here [] i x within = absurd (omega (arith, within))
set_here (y ∷ xs) zero x within = refl
set_here (y ∷ xs) (suc i) x within = set_here xs i x (omega (arith, within))

set_there : {X : Type 0} (xs : List X) (i q : ℕ) (x : X) → (i ≡ q → ⊥)
    → slice_get (slice_set xs i x) q ≡ slice_get xs q
set_there [] i q x apart = refl
set_there (y ∷ xs) zero zero x apart = absurd (apart refl)
set_there (y ∷ xs) zero (suc q) x apart = refl
set_there (y ∷ xs) (suc i) zero x apart = refl
set_there (y ∷ xs) (suc i) (suc q) x apart = set_there xs i q x (λ is. apart (ap suc is))

-- what is at one place and what is at the others, as one function
at_place : {X : Type 0} (f g : ℕ → X) (i : ℕ) (x : X) → f i ≡ x
    → ((q : ℕ) → (i ≡ q → ⊥) → f q ≡ g q) → (q : ℕ) → f q ≡ cond (nat_eq i q) x (g q)
at_place f g i x here there q = by (nat_eq i q) refl
  where
    by : (t : Bool) → nat_eq i q ≡ t → f q ≡ cond t x (g q)
    by true is = sym (ap f (eqb-true i q is)) ∙ here
    by false is = there q (λ same. let never : true ≡ false = sym (eq-eqb i i refl)
        ∙ ap (nat_eq i) same ∙ is in cc never)

slot_set : {X : Type 0} (xs : List X) (i q : ℕ) (x : X) → i < length xs
    → slice_get (slice_set xs i x) q ≡ cond (nat_eq i q) (Some x) (slice_get xs q)
slot_set xs i q x within = at_place (slice_get (slice_set xs i x)) (slice_get xs) i (Some x)
    (set_here xs i x within) (λ q apart. set_there xs i q x apart) q

-- what is in a place is another
pub place_set : (old new : ConnectionTable) (conn : ℕ) (slot : Option Connection)
    → conn < length old.slots.items → new.slots.items ≡ slice_set old.slots.items conn slot
    → IsSet (connection_of old) conn slot (connection_of new)
place_set old new conn slot within slots q =
    ap (λ xs. connection_at (slice_get xs q)) slots
    ∙ ap connection_at (slot_set old.slots.items conn q slot within) ∙ by (nat_eq conn q)
  where
    by : (t : Bool) → connection_at (cond t (Some slot) (slice_get old.slots.items q))
        ≡ cond t slot (connection_of old q)
    by true = refl
    by false = refl

-- how many there are, once one place has changed
count_cons : (slot : Option Connection) (xs : List (Option Connection))
    → count_by is_some (slot ∷ xs) ≡ cond (is_some slot) 1 0 + count_by is_some xs
count_cons slot xs = sum_by-cons (λ s. cond (is_some s) 1 0) slot xs

slots_counted : (xs : List (Option Connection)) (i : ℕ) (slot was : Option Connection)
    → slice_get xs i ≡ Some was → count_by is_some (slice_set xs i slot) + cond (is_some was) 1 0
    ≡ count_by is_some xs + cond (is_some slot) 1 0
slots_counted [] i slot was is = cc is
slots_counted (x ∷ xs) zero slot was is =
    let same : cond (is_some x) 1 0 ≡ cond (is_some was) 1 0 =
    ap {B = ℕ} (λ s. cond (is_some (connection_at s)) 1 0) is in
    omega (arith, count_cons slot xs, count_cons x xs, same)
slots_counted (x ∷ xs) (suc i) slot was is =
    omega (
      arith,
      count_cons x (slice_set xs i slot),
      count_cons x xs,
      slots_counted xs i slot was is,
    )

-- a place that is there, and one that is not
pub found_slot : {X : Type 0} (xs : List X) (i : ℕ) (x : X) → i < length xs → x ≡ get_or xs i x
    → Some x ≡ slice_get xs i
found_slot [] i x within is = absurd (omega (arith, within))
found_slot (y ∷ xs) zero x within is = ap Some is
found_slot (y ∷ xs) (suc i) x within is = found_slot xs i x (omega (arith, within)) is

pub no_slot : {X : Type 0} (xs : List X) (i : ℕ) → length xs ≤ i → None ≡ slice_get xs i
no_slot [] i behind = refl
no_slot (y ∷ xs) zero behind = absurd (omega (arith, behind))
no_slot (y ∷ xs) (suc i) behind = no_slot xs i (omega (arith, behind))

-- a change of one connection, or none where it is not there
module _ (conn : ℕ) (P : Connection → Connection → Type 0) (Q : Type 0)
    (old new : ConnectionTable) where
  pub place_through : (slot now : Option Connection) → Some slot ≡ slice_get old.slots.items conn
      → new.slots.items ≡ slice_set old.slots.items conn now → Within P Q slot now
      → Through conn P Q old new
  place_through slot now was slots within = by within
    where
      is : connection_of old conn ≡ slot
      is = sym (ap connection_at was)

      set : IsSet (connection_of old) conn now (connection_of new)
      set = place_set old new conn now
          (slice_get_within old.slots.items conn slot (sym was)) slots

      same : now ≡ None → connection_of old conn ≡ None → (q : ℕ) (t : Bool) → nat_eq conn q ≡ t
          → cond t now (connection_of old q) ≡ connection_of old q
      same nothing none q true e = nothing ∙ sym none ∙ ap (connection_of old) (eqb-true conn q e)
      same nothing none q false e = refl

      by : Within P Q slot now → Through conn P Q old new
      by (in_connection connection changed here there so) = at_connection connection changed
          (is ∙ here) (λ q. set q ∙ ap (λ s. cond (nat_eq conn q) s (connection_of old q)) there) so
      by (in_none here there so) =
          no_connection (is ∙ here) (λ q. set q ∙ same there (is ∙ here) q (nat_eq conn q) refl) so

  pub no_place : None ≡ slice_get old.slots.items conn → new.slots.items ≡ old.slots.items → Q
      → Through conn P Q old new
  no_place none same so = no_connection (sym (ap connection_at none))
      (λ q. ap (λ xs. connection_at (slice_get xs q)) same) so

-- how many there are then
kept_some : {P : Connection → Connection → Type 0} {Q : Type 0} (slot now : Option Connection)
    → Within P Q slot now → is_some now ≡ is_some slot
kept_some slot now (in_connection connection changed here there so) =
    ap is_some there ∙ sym (ap is_some here)
kept_some slot now (in_none here there so) = ap is_some there ∙ sym (ap is_some here)

module _ (old new : ConnectionTable) (conn : ℕ) where
  pub place_kept : {P : Connection → Connection → Type 0} {Q : Type 0}
      (slot now : Option Connection) → Some slot ≡ slice_get old.slots.items conn
      → new.slots.items ≡ slice_set old.slots.items conn now → Within P Q slot now
      → connection_count new ≡ connection_count old
  place_kept slot now is slots within =
      omega (
        arith,
        slots_counted old.slots.items conn now slot (sym is),
        ap (count_by is_some) slots,
        ap {B = ℕ} (λ t. cond t 1 0) (kept_some slot now within),
      )

  pub place_emptied : (slot : Option Connection) → Some slot ≡ slice_get old.slots.items conn
      → new.slots.items ≡ slice_set old.slots.items conn None
      → connection_count new + cond (is_some (connection_of old conn)) 1 0 ≡ connection_count old
  place_emptied slot is slots =
      omega (
        arith,
        slots_counted old.slots.items conn None slot (sym is),
        ap (count_by is_some) slots,
        ap {B = ℕ} (λ s. cond (is_some (connection_at s)) 1 0) is,
      )

  pub none_emptied : None ≡ slice_get old.slots.items conn → new.slots.items ≡ old.slots.items
      → connection_count new + cond (is_some (connection_of old conn)) 1 0 ≡ connection_count old
  none_emptied none same =
      omega (
        arith,
        ap (count_by is_some) same,
        ap {B = ℕ} (λ s. cond (is_some (connection_at s)) 1 0) none,
      )

-- nothing is taken out of no place
pub none_set : (table : ConnectionTable) (conn : ℕ) → None ≡ slice_get table.slots.items conn
    → IsSet (connection_of table) conn None (connection_of table)
none_set table conn none q = by (nat_eq conn q) refl
  where
    by : (t : Bool) → nat_eq conn q ≡ t → connection_of table q
        ≡ cond t None (connection_of table q)
    by true is = ap (connection_of table) (sym (eqb-true conn q is)) ∙ sym (ap connection_at none)
    by false is = refl

-- bytes that are pushed are to be written
abbrev pub IsQueuedAt : ℕ → List ℕ → ConnectionTable → ConnectionTable → Type 0
IsQueuedAt conn bytes old new = Through conn (λ s t. IsQueued s bytes t) ⊥ old new

module _ (conn : ℕ) (bytes : List ℕ) (old new : ConnectionTable)
    (result : Result Pushed Overflow) where
  pub queued_first : result ≡ Ok First → IsPushedAt conn bytes old result new
      → IsQueuedAt conn bytes old new
  queued_first is pushed = by (subst (λ r. IsPushedAt conn bytes old r new) is pushed)
    where
      by : IsPushedAt conn bytes old (Ok First) new → IsQueuedAt conn bytes old new
      by (no_connection none same never) = cc never
      by (at_connection connection now was set so) = at_connection connection now was set so.0

  pub queued_more : result ≡ Ok More → IsPushedAt conn bytes old result new
      → IsQueuedAt conn bytes old new
  queued_more is pushed = by (subst (λ r. IsPushedAt conn bytes old r new) is pushed)
    where
      by : IsPushedAt conn bytes old (Ok More) new → IsQueuedAt conn bytes old new
      by (no_connection none same never) = cc never
      by (at_connection connection now was set so) = at_connection connection now was set so.0
