-- Users as the lines that introduce them tell: where each is found, and who holds their nicknames,
-- as if they were told whole.
use Rattle.std.proofs.Common.{◌≡◌, ℕ, Bool, true, false, cond, ◌&&◌, Option, Some, None, List, []}
use Rattle.std.proofs.Common.{◌∷◌, ◌++◌, refl, sym, ◌∙◌, ap, map, option_map, option_to_list}
use Rattle.std.proofs.lemmas.Bool.{and_parts}
use Rattle.std.specs.List.{AllByRecursion}
use Rattle.std.specs.Ordering.{is_lt}
use Rattle.std.specs.FinMap.{entries, entries_sorted, find, is_sorted, get-entries}
use Rattle.std.specs.FinMap.Entries.{below_all}
use Rattle.irc_names.specs.Lemmas.PlainFacts.{is_true}
use Rattle.irc_names.specs.Tables.{Table, fold_cmp, row}
use Rattle.irc_names.specs.TableLaws.{same_fold, one_fold}
use Rattle.irc_users.specs.declared.user.User.{User}
use Rattle.irc_users.specs.ChangesTold.{as_introduced}
use Rattle.irc_room.specs.effect.Effect.TheVariants.{AddUser}
use Rattle.irc_room.specs.Found.{users_under}
use Rattle.irc_room.specs.Lemmas.ViewerLaws.{IsNamed, table_named}
use Rattle.irc_room.specs.Room.{Room, IsWellFormed}
use Rattle.irc_merge.specs.Deeds.{does}
use Rattle.irc_merge.specs.Bursts.{user_deeds}
use Rattle.irc_merge.specs.Lemmas.Introducing.{introductions, is_met, met, met_well, told_user}
use Rattle.irc_merge.specs.Lemmas.Introducing.{users_met}
use Rattle.irc_merge.specs.Lemmas.Reading.{reads, reads-one}
use Rattle.irc_merge.specs.Lemmas.TableWords.{absent}

abbrev pub bare : List (List ℕ × User) → List (List ℕ × User)
bare es = map (λ e. (e.0, as_introduced e.1)) es

pub bare_deeds : (es : List (List ℕ × User))
    → map (λ (user : User). does (AddUser (as_introduced user)))
    (map (λ (e : List ℕ × User). e.1) es) ≡ introductions (bare es)
bare_deeds [] = refl
bare_deeds (e ∷ es) = ap (λ deeds. does (AddUser (as_introduced e.1)) ∷ deeds) (bare_deeds es)

bare_below : (x : List ℕ) (es : List (List ℕ × User))
    → below_all fold_cmp x (bare es) ≡ below_all fold_cmp x es
bare_below x [] = refl
bare_below x (e ∷ es) = ap (λ b. is_lt (fold_cmp x e.0) && b) (bare_below x es)

pub bare_sorted : (es : List (List ℕ × User)) → is_sorted fold_cmp (bare es) ≡ is_sorted fold_cmp es
bare_sorted [] = refl
bare_sorted (e ∷ es) = λ i. bare_below e.0 es i && bare_sorted es i

pub bare_named : (es : List (List ℕ × User)) → AllByRecursion IsNamed es
    → AllByRecursion IsNamed (bare es)
bare_named [] named = tt
bare_named (e ∷ es) named = (named.0, bare_named es named.1)

pub bare_find : (q : List ℕ) (es : List (List ℕ × User))
    → find fold_cmp q (bare es) ≡ option_map as_introduced (find fold_cmp q es)
bare_find q [] = refl
bare_find q (e ∷ es) =
    ap (cond (same_fold q e.0) (Some (as_introduced e.1))) (bare_find q es)
    ∙ by_test (same_fold q e.0)
  where
    by_test : (b : Bool)
        → cond b (Some (as_introduced e.1)) (option_map as_introduced (find fold_cmp q es))
        ≡ option_map as_introduced (cond b (Some e.1) (find fold_cmp q es))
    by_test true = refl
    by_test false = refl

pub bare_under : (users : Table User) (es : List (List ℕ × User))
    → users_under users (bare es) ≡ users_under users es
bare_under users [] = refl
bare_under users (e ∷ es) =
    ap (λ found. option_to_list (row users e.0) ++ found) (bare_under users es)

-- ---- users that were introduced

told_once : (x : Option User) → told_user x None ≡ x
told_once None = refl
told_once (Some holder) = refl

pub users_read : (own : List ℕ) (far : List ℕ → Bool) (es : List (List ℕ × User))
    → is_sorted fold_cmp es ≡ true → AllByRecursion IsNamed es → (room : Room)
    → IsWellFormed room → (q : List ℕ) → row (reads own far room (introductions es)).users q
    ≡ told_user (row room.users q) (find fold_cmp q es)
users_read own far [] rise named room well q = sym (told_once (row room.users q))
users_read own far (e ∷ es) rise named room well q =
    let parts = and_parts _ _ rise in
    ap (λ (r : Room). row r.users q)
    (reads-one own far room (does (AddUser e.1)) (introductions es))
    ∙ ap (λ (r : Room). row (reads own far r (introductions es)).users q) (is_met own room e.1)
    ∙ users_read own far es parts.1 named.1 (met room e.1) (met_well room e.1 well) q
    ∙ ap (λ o. told_user o (find fold_cmp q es))
    (users_met room e.1 well q ∙ ap (λ f. cond (same_fold q f)
    (told_user (row room.users f) (Some e.1)) (row room.users q)) named.0)
    ∙ by_fold (same_fold q e.0) refl parts.0
  where
    by_fold : (b : Bool) → same_fold q e.0 ≡ b → below_all fold_cmp e.0 es ≡ true → told_user
        (cond b (told_user (row room.users e.0) (Some e.1)) (row room.users q)) (find fold_cmp q es)
        ≡ told_user (row room.users q) (cond b (Some e.1) (find fold_cmp q es))
    by_fold true one below =
        ap (told_user (told_user (row room.users e.0) (Some e.1)))
        (ap (λ f. find fold_cmp f es) (one_fold q e.0 one) ∙ absent e.0 es below)
        ∙ told_once (told_user (row room.users e.0) (Some e.1))
        ∙ ap (λ f. told_user (row room.users f) (Some e.1)) (sym (one_fold q e.0 one))
    by_fold false two below = refl

-- who is there once the users of another room were introduced, by who was there before
pub introduced_row : (own : List ℕ) (far : List ℕ → Bool) (room other : Room) → IsWellFormed room
    → IsWellFormed other → (q : List ℕ) → row (reads own far room (user_deeds other)).users q
    ≡ told_user (row room.users q) (option_map as_introduced (row other.users q))
introduced_row own far room other well well_other q =
    ap (λ deeds. row (reads own far room deeds).users q) (bare_deeds (entries other.users))
    ∙ users_read own far (bare (entries other.users))
    (bare_sorted (entries other.users) ∙ is_true _ (entries_sorted other.users))
    (bare_named (entries other.users) (table_named other.users well_other.users_named)) room well q
    ∙ ap (told_user (row room.users q)) (bare_find q (entries other.users)
    ∙ ap (option_map as_introduced) (sym (get-entries other.users q)))
