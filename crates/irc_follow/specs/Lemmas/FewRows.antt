-- A table whose keys are all among some names has no more rows than there are names.
use Rattle.std.proofs.Common.{◌≡◌, ℕ, ◌+◌, ◌-◌, ◌≤◌, suc, Bool, true, false, cond, ◌||◌, is_some}
use Rattle.std.proofs.Common.{Option, Some, None, List, [], ◌∷◌, length, refl, sym, ◌∙◌, ap, subst}
use Rattle.std.proofs.Common.{arith}
use Rattle.std.specs.List.{list_any}
use Rattle.std.specs.Cmp.Lexicographic.{nat_list_cmp_total}
use Rattle.std.specs.FinMap.{empty, len, insert, remove, get-empty, get-insert, get-remove}
use Rattle.std.specs.FinMap.{len-empty, len-insert, len-remove}
use Rattle.irc_names.specs.Tables.{Table, row, fold_cmp}
use Rattle.irc_names.specs.TableLaws.{same_fold, same_fold-refl, one_fold, same_table}
use Rattle.irc_relay.specs.Distances.{IsAmong}
use Rattle.irc_relay.specs.Links.{Name, same}
use Rattle.irc_relay.specs.Lemmas.TellingNames.{Telling, alike, unlike, tell}

pub no_rows : {X : Type 0} (table : Table X) → ((q : List ℕ) → row table q ≡ None) → len table ≡ 0
no_rows {X} table none = ap len (same_table table empty (λ q. none q ∙ sym (get-empty fold_cmp q)))
    ∙ len-empty fold_cmp X

abbrev pub AllAmong : {X : Type 0} → List Name → Table X → Type 0
AllAmong {X} names table = (q : List ℕ) (x : X) → row table q ≡ Some x → IsAmong names q

left_among : {X : Type 0} (first : Name) (names : List Name) (table : Table X)
    → AllAmong (first ∷ names) table → AllAmong names (remove table first)
left_among first names table all q x there =
    by (same_fold q first) refl (sym (get-remove nat_list_cmp_total table first q) ∙ there)
  where
    by : (b : Bool) → same_fold q first ≡ b → cond b None (row table q) ≡ Some x → IsAmong names q
    by true one is = absurd (cc is)
    by false two is = other (tell q first)
      where
        other : Telling q first → IsAmong names q
        other (alike _ e) = absurd (cc (sym two ∙ ap (same_fold q) (sym e) ∙ same_fold-refl q))
        other (unlike z _) = sym (ap (λ b. b || list_any (same q) names) z) ∙ all q x is

one_less : (n m k : ℕ) (b : Bool) → m ≡ cond b (n - 1) n → m ≤ k → n ≤ suc k
one_less n m k true is few = omega arith
one_less n m k false is few = omega arith

nobody_among : {X : Type 0} (table : Table X) → AllAmong [] table → (q : List ℕ) (o : Option X)
    → row table q ≡ o → o ≡ None
nobody_among table all q None is = refl
nobody_among table all q (Some x) is = absurd (cc (all q x is))

pub few_rows : {X : Type 0} (names : List Name) (table : Table X) → AllAmong names table
    → len table ≤ length names
few_rows [] table all =
    let none = no_rows table (λ q. nobody_among table all q (row table q) refl) in omega arith
few_rows (first ∷ names) table all =
    one_less (len table) (len (remove table first)) (length names) (is_some (row table first))
    (len-remove nat_list_cmp_total table first)
    (few_rows names (remove table first) (left_among first names table all))

more_among : {X : Type 0} (names : List Name) (table : Table X) (name : Name) (value : X)
    → IsAmong names name → AllAmong names table → AllAmong names (insert table name value)
more_among names table name value among all q x there =
    by (same_fold q name) refl (sym (get-insert nat_list_cmp_total table name value q) ∙ there)
  where
    by : (b : Bool) → same_fold q name ≡ b → cond b (Some value) (row table q) ≡ Some x
        → IsAmong names q
    by true one is = subst (IsAmong names) (sym (one_fold q name one)) among
    by false two is = all q x is

one_more : {X : Type 0} (table : Table X) (name : Name) (value : X) → row table name ≡ None
    → len (insert table name value) ≡ len table + 1
one_more table name value none =
    len-insert nat_list_cmp_total table name value
    ∙ ap (λ o. cond (is_some o) (len table) (len table + 1)) none

-- with two more names that it does not have it still has no more
pub two_more : {X : Type 0} (names : List Name) (table : Table X) (one other : Name) (value : X)
    → AllAmong names table → IsAmong names one → IsAmong names other → row table one ≡ None
    → row table other ≡ None → same_fold other one ≡ false → len table + 2 ≤ length names
two_more names table one other value all among_one among_other none_one none_other apart =
    let first = one_more table one value none_one in
    let second = one_more (insert table one value) other value
    (get-insert nat_list_cmp_total table one value other
    ∙ ap (λ b. cond b (Some value) (row table other)) apart ∙ none_other) in
    let few = few_rows names (insert (insert table one value) other value)
    (more_among names (insert table one value) other value among_other
    (more_among names table one value among_one all)) in
    omega arith
