-- What users are found by.
use Rattle.std.proofs.Common.{◌≡◌, ℕ, Bool, true, false, cond, List, [], ◌∷◌, length, refl, sym}
use Rattle.std.proofs.Common.{◌∙◌, ap, subst, Option, Some, None, is_some, map, option_map}
use Rattle.std.proofs.Common.{slice_index_or}
use Rattle.std.proofs.lemmas.Bool.{and_parts, and_from}
use Rattle.std.proofs.lemmas.List.{length-map}
use Rattle.std.specs.List.{list_all}
use Rattle.std.specs.Option.{option_and_then}
use Rattle.std.specs.Cmp.Lexicographic.{nat_list_cmp_total}
use Rattle.std.specs.FinMap.{empty, entries, entries_sorted, find, get-empty, get-entries}
use Rattle.std.specs.FinMap.{is_sorted, keys, values}
use Rattle.std.specs.Global.{Box}
use Rattle.irc_names.specs.Lemmas.PlainFacts.{is_true}
use Rattle.slab.specs.Slab.{Slab, get}
use Rattle.irc_names.specs.Fold.{key}
use Rattle.irc_names.specs.Tables.{Table, fold_cmp, row, each}
use Rattle.irc_names.specs.TableLaws.{same_fold, same_fold-refl, one_fold, row-each, same_table}
use Rattle.irc_tables.specs.Lemmas.OrderedEntries.{above-is, find-above}
use Rattle.irc_users.specs.declared.user.User.{User}
use Rattle.irc_users.specs.declared.users.Head.{Head}
use Rattle.irc_users.specs.Rosters.{head, numbers_in, numbered, users_by, boxed, sitting, IsRoster}
use Rattle.irc_users.specs.Rosters.{IsSeating, AreKept}

-- ---- where there is nothing

pub none-seated : (sits : ℕ → Option User) → ((n : ℕ) → sits n ≡ None) → IsSeating sits empty
none-seated sits vacant = record {
  named = λ q h is. absurd (let e : None ≡ Some h = sym (get-empty fold_cmp q) ∙ is in cc);
  seated = λ q h is. absurd (let e : None ≡ Some h = sym (get-empty fold_cmp q) ∙ is in cc);
  found = λ n user is. absurd (let e : None ≡ Some user = sym (vacant n) ∙ is in cc);
}

pub each-empty : {Y : Type 0} (change : Head → Option Y) → each change empty ≡ empty
each-empty {Y} change = same_table {X = Y} (each change empty) empty (λ q.
    row-each change empty q ∙ ap (option_and_then change) (get-empty fold_cmp q)
    ∙ sym (get-empty fold_cmp q))

-- ---- where nobody comes or goes

module _ (seats seats_after : Slab (Box User)) (heads heads_after : Table Head)
    (kept : AreKept seats seats_after heads heads_after) where
  pub numbered_kept : numbered seats_after heads_after ≡ numbered seats heads
  numbered_kept = λ i. record {
    users = users_by (λ n. option_map boxed (slice_index_or (kept.seats i) n None)) (kept.heads i);
    numbers = numbers_in (kept.heads i);
  }

  pub roster_kept : IsRoster seats heads → IsRoster seats_after heads_after
  roster_kept roster =
      subst (λ hs. IsSeating (sitting seats_after) hs) (sym kept.heads)
      (subst (λ slots. IsSeating (λ n. option_map boxed (slice_index_or slots n None)) heads)
      (sym kept.seats) roster)

-- ---- found by a nickname

pub at_nick : (heads : Table Head) (bytes nick : List ℕ) (o : Option Head) → bytes ≡ nick
    → o ≡ row heads (key bytes) → row heads (key nick) ≡ o
at_nick heads bytes nick o is found = ap (λ n. row heads (key n)) (sym is) ∙ sym found

-- as many values as keys
pub counted : {X : Type 0} (table : Table X) → length (keys table) ≡ length (values table)
counted table = length-map (entries table) (λ e. e.0) ∙ sym (length-map (entries table) (λ e. e.1))

-- ---- there is somebody in the seat of each head

-- whether somebody sits there
abbrev pub is_sat : Slab (Box User) → Head → Bool
is_sat seats h = is_some (get seats h.number)

all_sat : (seats : Slab (Box User)) (es : List (List ℕ × Head)) → is_sorted fold_cmp es ≡ true
    → ((q : List ℕ) (h : Head) → find fold_cmp q es ≡ Some h → is_sat seats h ≡ true)
    → list_all (is_sat seats) (map (λ e. e.1) es) ≡ true
all_sat seats [] sorted each = refl
all_sat seats (e ∷ es) sorted each =
    let parts = and_parts _ _ sorted in
    and_from _ _
    (each e.0 e.1 (ap (λ b. cond b (Some e.1) (find fold_cmp e.0 es)) (same_fold-refl e.0)))
    (all_sat seats es parts.1 (λ q h is. each q h (behind q h is (same_fold q e.0) refl)))
  where
    behind : (q : List ℕ) (h : Head) → find fold_cmp q es ≡ Some h → (b : Bool)
        → same_fold q e.0 ≡ b → cond (same_fold q e.0) (Some e.1) (find fold_cmp q es) ≡ Some h
    behind q h is true one =
        absurd (let none : None ≡ Some h =
        sym (find-above nat_list_cmp_total e.0 es (sym (above-is nat_list_cmp_total e.0 es)
        ∙ (and_parts _ _ sorted).0))
        ∙ ap (λ k. find fold_cmp k es) (sym (one_fold q e.0 one)) ∙ is in cc)
    behind q h is false other = ap (λ b. cond b (Some e.1) (find fold_cmp q es)) other ∙ is

is_full : (o : Option (Box User)) (h : Head)
    → option_map (head h.number) (option_map boxed o) ≡ Some h → is_some o ≡ true
is_full None h e = cc
is_full (Some box) h e = refl

module _ (seats : Slab (Box User)) (heads : Table Head) (roster : IsRoster seats heads) where
  pub seat_full : (fold : List ℕ) (h : Head) → row heads fold ≡ Some h → is_sat seats h ≡ true
  seat_full fold h there = is_full (get seats h.number) h (roster.seated fold h there)

  pub seats_full : list_all (is_sat seats) (values heads) ≡ true
  seats_full = all_sat seats (entries heads) (is_true (is_sorted fold_cmp (entries heads))
      (entries_sorted heads)) (λ q h is. seat_full q h (get-entries heads q ∙ is))

  -- so there is in those that a walk over all heads begins with
  pub rest_full : (rest : List Head) → rest ≡ values heads → list_all (is_sat seats) rest ≡ true
  rest_full rest all = ap (list_all (is_sat seats)) all ∙ seats_full
