-- Two lists of entries in folded order: what is found of the one under the folds of the other, in
-- turn, is all of the one that has a fold of the other. So the users under some names are just
-- those that pass a test of their folds.
use Rattle.std.proofs.Common.{◌≡◌, ℕ, Bool, true, false, cond, Option, Some, None, List, [], ◌∷◌}
use Rattle.std.proofs.Common.{◌++◌, refl, sym, ◌∙◌, ap, map, filter, is_some, option_to_list}
use Rattle.std.proofs.Common.{nat_eq}
use Rattle.std.proofs.lemmas.Bool.{and_parts, and_from}
use Rattle.std.proofs.lemmas.List.{append-nil, append_assoc}
use Rattle.std.specs.declared.cmp.Ordering.{Ordering}
use Rattle.std.specs.declared.cmp.Ordering.TheVariants.{Less, Equal, Greater}
use Rattle.std.specs.Ordering.{is_lt, is_eq, ordering_reverse}
use Rattle.std.specs.List.{AllByRecursion, flat_map}
use Rattle.std.specs.Cmp.{IsTotalOrder, tied_itself}
use Rattle.std.specs.Cmp.Lexicographic.{nat_list_cmp_total, pointwise, bytes_decides}
use Rattle.std.specs.FinMap.{entries, entries_sorted, values, find, is_sorted, get-entries}
use Rattle.std.specs.FinMap.{slice_cmp-IsAntisymmetric, nat_cmp-IsAntisymmetric}
use Rattle.std.specs.FinMap.Entries.{below_all}
use Rattle.irc_names.specs.Lemmas.PlainFacts.{is_true}
use Rattle.irc_names.specs.Fold.{key, same}
use Rattle.irc_names.specs.Tables.{Table, fold_cmp, row}
use Rattle.irc_names.specs.TableLaws.{same_fold, same_fold-refl, one_fold}
use Rattle.irc_tables.specs.Lemmas.OrderedEntries.{less_is, turned, above-is, find-above}
use Rattle.irc_tables.specs.Lemmas.OrderedEntries.{find-there, sorted-below}
use Rattle.irc_users.specs.declared.user.User.{User}
use Rattle.irc_channels.specs.declared.flags.Flags.{Flags}
use Rattle.irc_effects.specs.Found.{AreNamed, users_who, users_under}

order : IsTotalOrder fold_cmp
order = nat_list_cmp_total

lt_below : {X : Type 0} (x y : List ℕ) (es : List (List ℕ × X)) → is_lt (fold_cmp x y) ≡ true
    → below_all fold_cmp y es ≡ true → below_all fold_cmp x es ≡ true
lt_below x y [] lt below = refl
lt_below x y (e ∷ es) lt below =
    let parts = and_parts _ _ below in
    and_from _ _ (ap is_lt (order.trans x y e.0 (less_is _ lt) (less_is _ parts.0)))
    (lt_below x y es lt parts.1)

absent : {X : Type 0} (x : List ℕ) (es : List (List ℕ × X)) → below_all fold_cmp x es ≡ true
    → find fold_cmp x es ≡ None
absent x es below = find-above order x es (sym (above-is order x es) ∙ below)

kept_out : {X : Type 0} (p : X → Bool) (x : X) (xs : List X) → p x ≡ false
    → filter p xs ≡ filter p (x ∷ xs)
kept_out p x xs fails = sym (ap (λ b. cond b (x ∷ filter p xs) (filter p xs)) fails)

module _ {X : Type 0} (V : Type 0) (p : X → Bool) where
  -- what is found of the first list under the folds of the second
  abbrev found_in : List (List ℕ × X) → List (List ℕ × V) → List X
  found_in us ms = flat_map (λ m. option_to_list (find fold_cmp m.0 us)) ms

  -- an entry fails the test where its fold is none of the second list
  abbrev Misses : List (List ℕ × V) → List ℕ × X → Type 0
  Misses ms e = find fold_cmp e.0 ms ≡ None → p e.1 ≡ false

  abbrev Follows : List (List ℕ × X) → Type 0
  Follows us =
      (ms : List (List ℕ × V)) → is_sorted fold_cmp ms ≡ true → AllByRecursion (Misses ms) us
      → filter p (found_in us ms) ≡ filter p (map (λ e. e.1) us)

  none_found : (ms : List (List ℕ × V)) → found_in [] ms ≡ []
  none_found [] = refl
  none_found (m ∷ ms) = none_found ms

  -- an entry below all of the second list is not found, and one below all of the first finds none
  drop_first : (e : List ℕ × X) (us : List (List ℕ × X)) (ms : List (List ℕ × V))
      → below_all fold_cmp e.0 ms ≡ true → found_in (e ∷ us) ms ≡ found_in us ms
  drop_first e us [] below = refl
  drop_first e us (m ∷ ms) below =
      let parts = and_parts _ _ below in
      ap (λ r. option_to_list (cond (is_eq r) (Some e.1) (find fold_cmp m.0 us))
      ++ found_in (e ∷ us) ms) (turned order e.0 m.0 parts.0)
      ∙ ap (λ rest. option_to_list (find fold_cmp m.0 us) ++ rest) (drop_first e us ms parts.1)

  drop_second : (m : List ℕ × V) (ms : List (List ℕ × V)) (us : List (List ℕ × X))
      → below_all fold_cmp m.0 us ≡ true → AllByRecursion (Misses (m ∷ ms)) us
      → AllByRecursion (Misses ms) us
  drop_second m ms [] below misses = tt
  drop_second m ms (e ∷ us) below misses =
      let parts = and_parts _ _ below in (
        λ none. misses.0
            (ap (λ r. cond (is_eq r) (Some m.1) (find fold_cmp e.0 ms))
            (turned order m.0 e.0 parts.0)
            ∙ none),
        drop_second m ms us parts.1 misses.1,
      )

  one_more : (e : List ℕ × X) (us : List (List ℕ × X)) → below_all fold_cmp e.0 us ≡ true
      → Follows us → Follows (e ∷ us)
  one_more e us below follows [] sorted misses =
      follows [] refl misses.1 ∙ kept_out p e.1 (map (λ e. e.1) us) (misses.0 refl)
  one_more e us below follows (m ∷ ms) sorted misses =
      by_order (one_more e us below follows ms) (fold_cmp e.0 m.0) refl
    where
      by_order : (is_sorted fold_cmp ms ≡ true → AllByRecursion (Misses ms) (e ∷ us)
          → filter p (found_in (e ∷ us) ms) ≡ filter p (map (λ e. e.1) (e ∷ us)))
          → (r : Ordering) → fold_cmp e.0 m.0 ≡ r
          → filter p (found_in (e ∷ us) (m ∷ ms)) ≡ filter p (map (λ e. e.1) (e ∷ us))
      by_order again Less is =
          let rest = and_parts _ _ sorted in
          let above : below_all fold_cmp e.0 (m ∷ ms) ≡ true =
          and_from _ _ (ap is_lt is) (lt_below e.0 m.0 ms (ap is_lt is) rest.0) in
          ap (filter p) (drop_first e us (m ∷ ms) above)
          ∙ follows (m ∷ ms) sorted misses.1
          ∙ kept_out p e.1 (map (λ e. e.1) us) (misses.0 (absent e.0 (m ∷ ms) above))
      by_order again Equal is =
          let rest = and_parts _ _ sorted in
          let one : e.0 ≡ m.0 = slice_cmp-IsAntisymmetric nat_cmp-IsAntisymmetric e.0 m.0 is in
          ap (λ r.
          filter p
          (option_to_list (cond (is_eq r) (Some e.1) (find fold_cmp m.0 us))
          ++ found_in (e ∷ us) ms))
          (ap (fold_cmp m.0) one ∙ tied_itself order m.0)
          ∙ ap (λ xs. filter p (e.1 ∷ xs))
          (drop_first e us ms (ap (λ k. below_all fold_cmp k ms) one ∙ rest.0))
          ∙ ap (λ xs. cond (p e.1) (e.1 ∷ xs) xs)
          (follows ms rest.1 (drop_second m ms us (ap (λ k. below_all fold_cmp k us) (sym one)
          ∙ below) misses.1))
      by_order again Greater is =
          let rest = and_parts _ _ sorted in
          let lt : is_lt (fold_cmp m.0 e.0) ≡ true =
          ap is_lt (order.antisymm m.0 e.0 ∙ ap ordering_reverse is) in
          let above : below_all fold_cmp m.0 (e ∷ us) ≡ true =
          and_from _ _ lt (lt_below m.0 e.0 us lt below) in
          ap (λ o. filter p (option_to_list o ++ found_in (e ∷ us) ms)) (absent m.0 (e ∷ us) above)
          ∙ again rest.1 (drop_second m ms (e ∷ us) above misses)

  in_turn : (us : List (List ℕ × X)) → is_sorted fold_cmp us ≡ true → Follows us
  in_turn [] sorted = λ ms rise misses. ap (filter p) (none_found ms)
  in_turn (e ∷ us) sorted =
      let parts = and_parts _ _ sorted in one_more e us parts.0 (in_turn us parts.1)

module _ {V : Type 0} (users : Table User) (names : List (List ℕ × V))
    (rise : is_sorted fold_cmp names ≡ true) (p : User → Bool)
    (fails : (fold : List ℕ) (user : User) → row users fold ≡ Some user
    → is_some (find fold_cmp fold names) ≡ false → p user ≡ false) where
  all_miss : (front es : List (List ℕ × User)) → front ++ es ≡ entries users
      → AllByRecursion (Misses V p names) es
  all_miss front [] is = tt
  all_miss front (e ∷ es) is =
      let sorted : is_sorted fold_cmp (front ++ e ∷ es) ≡ true = ap (is_sorted fold_cmp) is
      ∙ is_true _ (entries_sorted users) in
      let at : row users e.0 ≡ Some e.1 =
      get-entries users e.0 ∙ ap (find fold_cmp e.0) (sym is)
      ∙ find-there order e.0 e.1 front es (sorted-below order e.0 e.1 front es sorted) in (
        λ none. fails e.0 e.1 at (ap is_some none),
        all_miss (front ++ e ∷ []) es (append_assoc front (e ∷ []) es ∙ is),
      )

  looked_up : (ms : List (List ℕ × V)) → users_under users ms ≡ found_in V p (entries users) ms
  looked_up [] = refl
  looked_up (m ∷ ms) =
      ap (λ o. option_to_list o ++ users_under users ms) (get-entries users m.0)
      ∙ ap (λ rest. option_to_list (find fold_cmp m.0 (entries users)) ++ rest) (looked_up ms)

  covered : filter p (users_under users names) ≡ filter p (values users)
  covered =
      ap (filter p) (looked_up names)
      ∙ in_turn V p (entries users) (is_true _ (entries_sorted users)) names rise
      (all_miss [] (entries users) refl)

-- each entry's user, if it has one, passes a test
abbrev pub AllPass : {V : Type 0} → Table User → (User → Bool) → List (List ℕ × V) → Type 0
AllPass users p names =
    AllByRecursion (λ e. (user : User) → row users e.0 ≡ Some user → p user ≡ true) names

one_kept : (p : User → Bool) (o : Option User) → ((user : User) → o ≡ Some user → p user ≡ true)
    → (rest : List User) → filter p (option_to_list o ++ rest) ≡ option_to_list o ++ filter p rest
one_kept p None pass rest = refl
one_kept p (Some user) pass rest =
    ap (λ b. cond b (user ∷ filter p rest) (filter p rest)) (pass user refl)

all_kept : {V : Type 0} (users : Table User) (p : User → Bool) (names : List (List ℕ × V))
    → AllPass users p names → filter p (users_under users names) ≡ users_under users names
all_kept users p [] pass = refl
all_kept users p (e ∷ names) pass =
    one_kept p (row users e.0) pass.0 (users_under users names)
    ∙ ap (λ rest. option_to_list (row users e.0) ++ rest) (all_kept users p names pass.1)

-- the users under the folds of entries in order are all that pass a test which only those under one
-- of these folds pass
pub entries_choose : {V : Type 0} (users : Table User) (names : List (List ℕ × V))
    → is_sorted fold_cmp names ≡ true → (p : User → Bool) → AllPass users p names → ((fold : List ℕ)
    (user : User) → row users fold ≡ Some user → is_some (find fold_cmp fold names) ≡ false
    → p user ≡ false) → users_under users names ≡ filter p (values users)
entries_choose users names rise p pass fails =
    sym (all_kept users p names pass) ∙ covered users names rise p fails

-- each entry of a table is found in it
all_there : {V : Type 0} (names : Table V) (front es : List (List ℕ × V))
    → front ++ es ≡ entries names → AllByRecursion (λ e. is_some (row names e.0) ≡ true) es
all_there names front [] is = tt
all_there names front (e ∷ es) is =
    let sorted : is_sorted fold_cmp (front ++ e ∷ es) ≡ true = ap (is_sorted fold_cmp) is
    ∙ is_true _ (entries_sorted names) in (
      ap is_some
          (get-entries names e.0
          ∙ ap (find fold_cmp e.0) (sym is)
          ∙ find-there order e.0 e.1 front es (sorted-below order e.0 e.1 front es sorted)),
      all_there names (front ++ e ∷ []) es (append_assoc front (e ∷ []) es ∙ is),
    )

all_pass : {V : Type 0} (users : Table User) (names : Table V) (p : User → Bool) → ((fold : List ℕ)
    (user : User) → row users fold ≡ Some user → is_some (row names fold) ≡ p user)
    → (es : List (List ℕ × V)) → AllByRecursion (λ e. is_some (row names e.0) ≡ true) es
    → AllPass users p es
all_pass users names p tells [] there = tt
all_pass users names p tells (e ∷ es) there =
    (λ user at. sym (tells e.0 user at) ∙ there.0, all_pass users names p tells es there.1)

-- the same for the entries of a table
pub table_chooses : {V : Type 0} (users : Table User) (names : Table V) (p : User → Bool)
    → ((fold : List ℕ) (user : User) → row users fold ≡ Some user → is_some (row names fold)
    ≡ p user) → users_under users (entries names) ≡ filter p (values users)
table_chooses users names p tells =
    entries_choose users (entries names) (is_true _ (entries_sorted names)) p
    (all_pass users names p tells (entries names) (all_there names [] (entries names) refl))
    (λ fold user at none. sym (tells fold user at) ∙ ap is_some (get-entries names fold) ∙ none)

-- a fold is found under a nickname just where it is the nickname's
pub fold_of : (nick q : List ℕ) → same_fold q (key nick) ≡ pointwise nat_eq (key nick) q
fold_of nick q = by_test (pointwise nat_eq (key nick) q) refl
  where
    two : (b : Bool) → same_fold q (key nick) ≡ b → pointwise nat_eq (key nick) q ≡ false
        → b ≡ false
    two true one none =
        sym ((bytes_decides (key nick) q).1 (sym (one_fold q (key nick) one))) ∙ none
    two false other none = refl

    by_test : (b : Bool) → pointwise nat_eq (key nick) q ≡ b → same_fold q (key nick) ≡ b
    by_test true one = ap (λ f. same_fold f (key nick)) (sym ((bytes_decides (key nick) q).0 one))
        ∙ same_fold-refl (key nick)
    by_test false none = two (same_fold q (key nick)) refl none

no_flags : Flags
no_flags = record { op = false; voice = false }

some_if : (b : Bool) (flags : Flags) → is_some (cond b (Some flags) None) ≡ b
some_if true flags = refl
some_if false flags = refl

pub one_chosen : (users : Table User) → AreNamed users → (nick : List ℕ)
    → option_to_list (row users (key nick)) ≡ users_who users (same nick)
one_chosen users named nick =
    sym (append-nil (option_to_list (row users (key nick))))
    ∙ entries_choose users ((key nick, no_flags) ∷ []) refl (λ user. same nick user.nick)
    (λ user at. (bytes_decides (key nick) (key user.nick)).1 (sym (named (key nick) user at)), tt)
    (λ fold user at none.
    ap (pointwise nat_eq (key nick)) (named fold user at) ∙ sym (fold_of nick fold)
    ∙ sym (some_if (same_fold fold (key nick)) no_flags) ∙ none)
