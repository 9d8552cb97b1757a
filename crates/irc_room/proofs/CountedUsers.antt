-- How many users are connected to a server: what each effect makes of their number.
use Rattle.std.proofs.Common.{◌≡◌, ℕ, ◌+◌, ◌≤◌, Bool, true, false, cond, not, ◌||◌, is_some}
use Rattle.std.proofs.Common.{Option, Some, None, List, [], ◌∷◌, map, filter, length, refl, sym}
use Rattle.std.proofs.Common.{◌∙◌, ap, arith, option_map}
use Rattle.std.proofs.lemmas.Bool.{and_parts}
use Rattle.std.proofs.lemmas.List.{length-map}
use Rattle.std.proofs.lemmas.List.Filters.{length-filter_both}
use Rattle.std.specs.declared.cmp.Ordering.{Ordering}
use Rattle.std.specs.declared.cmp.Ordering.TheVariants.{Less, Equal, Greater}
use Rattle.std.specs.Ordering.{is_eq}
use Rattle.std.specs.Cmp.{IsTotalOrder}
use Rattle.std.specs.Cmp.Lexicographic.{nat_list_cmp_total}
use Rattle.std.specs.FinMap.{empty, entries, entries_sorted, entries-insert, get-entries, keys}
use Rattle.std.specs.FinMap.{len-empty, len-entries, values}
use Rattle.std.specs.FinMap.Entries.{put as put_entry, by_order, find, below_all, is_sorted}
use Rattle.std.proofs.Math.Bool.{false≢true}
use Rattle.irc_names.specs.Lemmas.PlainFacts.{is_true}
use Rattle.irc_names.specs.Fold.{key, same}
use Rattle.irc_names.specs.FoldLaws.{same-tells}
use Rattle.irc_names.specs.Tables.{Table, fold_cmp, row, alter, moved, put_row}
use Rattle.irc_names.specs.TableLaws.{same_fold, same_fold-refl, one_fold, row-alter}
use Rattle.irc_names.specs.TableLaws.{row-alter_same, same_table}
use Rattle.irc_tables.specs.Lemmas.OrderedEntries.{less_is}
use Rattle.irc_tables.specs.Lemmas.RowsAsTable.{alter_alike, alter-absent}
use Rattle.irc_users.specs.declared.user.User.{User}
use Rattle.irc_users.specs.UserTable.{is_home, with_nick, with_change}
use Rattle.irc_effects.specs.declared.effect.Effect.{Effect}
use Rattle.irc_effects.specs.declared.effect.Effect.TheVariants.{AddUser, Rename, Quit}
use Rattle.irc_effects.specs.declared.effect.Effect.TheVariants.{ChangeUser}
use Rattle.irc_effects.specs.Room.{Room}
use Rattle.irc_effects.specs.After.{after}
use Rattle.irc_effects.specs.Effects.{brings_free}
use Rattle.irc_room.specs.Loops.HomeCount.{home_count, one_of, gone, come}
use Rattle.irc_effects.specs.Lemmas.Rows.{alter_same}

-- ---- a list of entries in the order of their keys

module _ {K X : Type 0} {R : K → K → Ordering} (o : IsTotalOrder R) (p : X → Bool) where
  many : List (K × X) → ℕ
  many es = length (filter p (map (λ (e : K × X). e.1) es))

  one_first : (e : K × X) (es : List (K × X)) → many (e ∷ es) ≡ cond (p e.1) 1 0 + many es
  unfolding many
  one_first e es = by_test (p e.1) (filter p (map (λ (f : K × X). f.1) es))
    where
      by_test : (b : Bool) (rest : List X)
          → length (cond b (e.1 ∷ rest) rest) ≡ cond b 1 0 + length rest
      by_test true rest = omega arith
      by_test false rest = omega arith

  -- a key below all others, or that of the first, is that of no other
  none_past : (k x : K) (es : List (K × X)) → ((y : K) → R x y ≡ Less → R k y ≡ Less)
      → below_all R x es ≡ true → find R k es ≡ None
  none_past k x [] later below = refl
  none_past k x (e ∷ es) later below =
      let parts = and_parts _ _ below in
      ap (λ r. cond (is_eq r) (Some e.1) (find R k es)) (later e.0 (less_is (R x e.0) parts.0))
      ∙ none_past k x es later parts.1

  put_many : (k : K) (v : X) (es : List (K × X)) → is_sorted R es ≡ true
      → many (put_entry R k v es) + one_of p (find R k es) ≡ many es + cond (p v) 1 0
  put_many k v [] sorted = omega (arith, one_first (k, v) [])
  put_many k v (e ∷ es) sorted =
      let parts : (below_all R e.0 es ≡ true) × (is_sorted R es ≡ true) = and_parts _ _ sorted in
      elim (R k e.0) as (λ r. R k e.0 ≡ r → many (by_order r ((k, v) ∷ e ∷ es) ((e.0, v) ∷ es)
      (e ∷ put_entry R k v es)) + one_of p (cond (is_eq r) (Some e.1) (find R k es))
      ≡ many (e ∷ es) + cond (p v) 1 0) [
        | Less ↦ λ r. omega (
          arith,
          one_first (k, v) (e ∷ es),
          ap (one_of p) (none_past k e.0 es (λ y below. o.trans k e.0 y r below) parts.0),
        )
        | Equal ↦ λ r. omega (arith, one_first (e.0, v) es, one_first e es)
        | Greater ↦ λ r. omega (
          arith,
          one_first e (put_entry R k v es),
          one_first e es,
          put_many k v es parts.1,
        )
      ] refl

-- ---- a table

module _ {X : Type 0} (p : X → Bool) where
  passing : Table X → ℕ
  passing table = length (filter p (values table))

  put_counted : (fold : List ℕ) (x : X) (table : Table X) → passing (alter fold (λ _. Some x) table)
      + one_of p (row table fold) ≡ passing table + cond (p x) 1 0
  unfolding alter passing many
  put_counted fold x table =
      ap (λ es. length (filter p (map (λ (e : List ℕ × X). e.1) es)) + one_of p (row table fold))
      (entries-insert nat_list_cmp_total table fold x)
      ∙ ap (λ f. length (filter p (map (λ (e : List ℕ × X). e.1)
      (put_entry fold_cmp fold x (entries table)))) + one_of p f) (get-entries table fold)
      ∙ put_many nat_list_cmp_total p fold x (entries table) (is_true _ (entries_sorted table))

  -- a row that is taken out and put back
  back : (fold : List ℕ) (x : X) (table : Table X) → row table fold ≡ Some x
      → alter fold (λ _. Some x) (alter fold (λ _. None) table) ≡ table
  back fold x table at = same_table _ _ (λ q.
      row-alter fold (λ _. Some x) (alter fold (λ _. None) table) q
      ∙ ap (cond (same_fold q fold) (Some x)) (row-alter fold (λ _. None) table q)
      ∙ by_fold q (same_fold q fold) refl)
    where
      by_fold : (q : List ℕ) (b : Bool) → same_fold q fold ≡ b
          → cond b (Some x) (cond b None (row table q)) ≡ row table q
      by_fold q true one = sym (ap (row table) (one_fold q fold one) ∙ at)
      by_fold q false other = refl

  taken_counted : (fold : List ℕ) (table : Table X)
      → passing (alter fold (λ _. None) table) + one_of p (row table fold) ≡ passing table
  taken_counted fold table = by_row (row table fold) refl
    where
      by_row : (f : Option X) → row table fold ≡ f
          → passing (alter fold (λ _. None) table) + one_of p (row table fold) ≡ passing table
      by_row None at = omega (arith, ap passing (alter-absent table fold at), ap (one_of p) at)
      by_row (Some x) at =
          let rest = alter fold (λ _. None) table in
          omega (
            arith,
            put_counted fold x rest,
            ap passing (back fold x table at),
            ap (one_of p) (row-alter_same fold (λ _. None) table),
            ap (one_of p) at,
          )

  -- a row that is changed, and passes as before
  kept_counted : (fold : List ℕ) (f : X → X) (table : Table X) → ((x : X) → p (f x) ≡ p x)
      → passing (alter fold (option_map f) table) ≡ passing table
  kept_counted fold f table keeps = by_row (row table fold) refl
    where
      by_row : (g : Option X) → row table fold ≡ g
          → passing (alter fold (option_map f) table) ≡ passing table
      by_row None at =
          ap passing (alter_same fold (option_map f) table (ap (option_map f) at ∙ sym at))
      by_row (Some x) at =
          omega (
            arith,
            ap passing
                (alter_alike table fold (option_map f) (λ _. Some (f x)) (ap (option_map f) at)),
            put_counted fold (f x) table,
            ap (one_of p) at,
            ap {B = ℕ} (λ b. cond b 1 0) (keeps x),
          )

  -- and one that is put elsewhere
  moved_counted : (old new : List ℕ) (f : X → X) (table : Table X) → ((x : X) → p (f x) ≡ p x) → row
      (alter old (λ _. None) table) new ≡ None → passing (moved old new f table) ≡ passing table
  unfolding moved
  moved_counted old new f table keeps free =
      by_row (alter old (λ _. None) table) (row table old) refl free (taken_counted old table)
    where
      by_row : (rest : Table X) (g : Option X) → row table old ≡ g → row rest new ≡ None
          → passing rest + one_of p (row table old) ≡ passing table
          → passing (put_row (row table old) new f rest) ≡ passing table
      by_row rest None at none taken =
          omega (arith, ap (λ o. passing (put_row o new f rest)) at, taken, ap (one_of p) at)
      by_row rest (Some x) at none taken =
          omega (
            arith,
            ap (λ o. passing (put_row o new f rest)) at,
            put_counted new (f x) rest,
            ap (one_of p) none,
            taken,
            ap (one_of p) at,
            ap {B = ℕ} (λ b. cond b 1 0) (keeps x),
          )

-- ---- the users of a room

no_user : (o : Option User) → not (is_some o) ≡ true → o ≡ None
no_user None free = refl
no_user (Some user) free = absurd (false≢true free)

free_then : (o : Option User) (b s : Bool) → (s ≡ true → b ≡ true) → (not (is_some o) || s) ≡ true
    → cond b None o ≡ None
free_then o true s one free = refl
free_then None false s one free = refl
free_then (Some user) false true one free = absurd (false≢true (one refl))
free_then (Some user) false false one free = absurd (false≢true free)

pub counted_after : (home : List ℕ) (room : Room) (effect : Effect) → brings_free room effect ≡ true
    → home_count home (after room effect).users + gone home room.users effect
    ≡ home_count home room.users + come home effect
unfolding after passing
counted_after home room (AddUser user) free =
    omega (
      arith,
      put_counted (is_home home) (key user.nick) user room.users,
      ap (one_of (is_home home)) (no_user (row room.users (key user.nick)) free),
    )
counted_after home room (Rename nick new) free =
    omega (
      arith,
      moved_counted (is_home home) (key nick) (key new) (with_nick new) room.users (λ user. refl)
          (row-alter (key nick) (λ _. None) room.users (key new)
          ∙ free_then (row room.users (key new)) (same_fold (key new) (key nick)) (same nick new)
          (λ one. ap (λ k. same_fold k (key nick)) (sym ((same-tells nick new).0 one))
          ∙ same_fold-refl (key nick)) free),
    )
counted_after home room (Quit nick text) free =
    omega (arith, taken_counted (is_home home) (key nick) room.users)
counted_after home room (ChangeUser nick change) free =
    omega (
      arith,
      kept_counted (is_home home) (key nick) (with_change change) room.users
          (λ user. refl),
    )
counted_after home room other free = refl

-- who quits is among those who are there
pub one_among : (home : List ℕ) (users : Table User) (nick : List ℕ)
    → one_of (is_home home) (row users nick) ≤ home_count home users
unfolding passing
one_among home users nick = omega (arith, taken_counted (is_home home) nick users)

-- there are no more of them than users
pub home_fits : (home : List ℕ) (users : Table User) → home_count home users ≤ length (keys users)
home_fits home users =
    omega (
      arith,
      length-filter_both (is_home home) (λ user. not (is_home home user)) (λ user. refl)
          (values users),
      length-map (entries users) (λ e. e.1),
      length-map (entries users) (λ e. e.0),
    )

pub none_home : (home : List ℕ) (users : Table User) → users ≡ empty → 0 ≡ home_count home users
none_home home users none =
    let nobody : Table User = empty in
    omega (
      arith,
      home_fits home users,
      ap (λ (t : Table User). length (keys t)) none,
      length-map (entries nobody) (λ e. e.0),
      len-entries nobody,
      len-empty fold_cmp User,
    )

-- the number after an effect, by that of those who stay
pub still_counted : (home : List ℕ) (room : Room) (effect : Effect) (count staying : ℕ)
    → brings_free room effect ≡ true → count ≡ home_count home room.users
    → count ≡ staying + gone home room.users effect
    → home_count home (after room effect).users ≡ staying + come home effect
still_counted home room effect count staying free is stay =
    omega (arith, counted_after home room effect free, is, stay)
