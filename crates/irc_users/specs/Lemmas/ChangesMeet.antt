-- What a burst tells of users is all of it, and meets each of them.
use Rattle.std.proofs.Common.{◌≡◌, ℕ, Bool, true, false, cond, List, [], ◌∷◌, refl, sym, ◌∙◌}
use Rattle.std.proofs.Common.{ap, Option, Some, None, option_map}
use Rattle.std.proofs.lemmas.Bool.{and_parts}
use Rattle.std.specs.Cmp.Lexicographic.{nat_list_cmp_total}
use Rattle.std.specs.FinMap.{find}
use Rattle.std.specs.FinMap.Entries.{below_all}
use Rattle.std.specs.List.{AllByRecursion}
use Rattle.std.specs.Option.{option_map_or}
use Rattle.irc_names.specs.Fold.{key}
use Rattle.irc_names.specs.Tables.{Table, fold_cmp, row}
use Rattle.irc_names.specs.TableLaws.{same_fold, one_fold, row-alter_same, row-alter_other}
use Rattle.irc_tables.specs.Lemmas.OrderedEntries.{above-is, find-above}
use Rattle.irc_tables.specs.TableChanges.{tried_at}
use Rattle.irc_users.specs.declared.user.User.{User}
use Rattle.irc_users.specs.declared.user_change.UserChange.{UserChange}
use Rattle.irc_users.specs.declared.user_change.UserChange.TheVariants.{Away}
use Rattle.irc_users.specs.UserTable.{is_shown, with_change}
use Rattle.irc_users.specs.ChangesTold.{as_introduced, changes_of, changed_by, changes_found}
use Rattle.irc_users.specs.ChangesTold.{table_changed, ToldWhole, ToldUnseen}
use Rattle.irc_users.specs.ChangesTold.{ChangesMeetTheirUsers}

away_back : (user : User) (o : Option (List ℕ)) → user.set.away ≡ o
    → changed_by (option_map_or (λ text. Away (Some text) ∷ []) o []) (as_introduced user) ≡ user
away_back user None is = ap (λ away. record user { set = record { away = away } }) (sym is)
away_back user (Some text) is =
    ap (λ away. record user { set = record { away = away } }) (sym is)

pub told_whole : ToldWhole
told_whole user = away_back user user.set.away refl

quiet : (o : Option (List ℕ)) → AllByRecursion (λ change. is_shown change ≡ false)
    (option_map_or (λ text. Away (Some text) ∷ []) o [])
quiet None = tt
quiet (Some text) = (refl, tt)

pub told_unseen : ToldUnseen
told_unseen user = quiet user.set.away

unchanged : (o : Option User) → o ≡ option_map (changed_by []) o
unchanged None = refl
unchanged (Some user) = refl

one_more : (change : UserChange) (changes : List UserChange) (o : Option User)
    → option_map (changed_by changes) (option_map (with_change change) o)
    ≡ option_map (changed_by (change ∷ changes)) o
one_more change changes None = refl
one_more change changes (Some user) = refl

pub its_row : (nick : List ℕ) (changes : List UserChange) (users : Table User)
    → row (table_changed nick changes users) (key nick)
    ≡ option_map (changed_by changes) (row users (key nick))
its_row nick [] users = unchanged (row users (key nick))
its_row nick (change ∷ changes) users =
    its_row nick changes (tried_at nick (with_change change) users)
    ∙ ap (option_map (changed_by changes))
    (row-alter_same (key nick) (option_map (with_change change)) users)
    ∙ one_more change changes (row users (key nick))

pub other_row : (nick : List ℕ) (changes : List UserChange) (users : Table User) (q : List ℕ)
    → same_fold q (key nick) ≡ false → row (table_changed nick changes users) q ≡ row users q
other_row nick [] users q other = refl
other_row nick (change ∷ changes) users q other =
    other_row nick changes (tried_at nick (with_change change) users) q other
    ∙ row-alter_other (key nick) (option_map (with_change change)) users q other

none_below : (x : List ℕ) (es : List (List ℕ × User)) → below_all fold_cmp x es ≡ true
    → find fold_cmp x es ≡ None
none_below x es below =
    find-above nat_list_cmp_total x es (sym (above-is nat_list_cmp_total x es) ∙ below)

pub changes_meet_their_users : ChangesMeetTheirUsers
changes_meet_their_users [] rise named users q = unchanged (row users q)
changes_meet_their_users (e ∷ es) rise named users q =
    let parts = and_parts _ _ rise in
    changes_meet_their_users es parts.1 named.1 (table_changed e.1.nick (changes_of e.1) users) q
    ∙ by_fold (same_fold q e.0) refl parts.0
  where
    found : Bool → Option User
    found b = cond b (Some e.1) (find fold_cmp q es)

    by_fold : (b : Bool) → same_fold q e.0 ≡ b → below_all fold_cmp e.0 es ≡ true
        → option_map (changed_by (changes_found (find fold_cmp q es)))
        (row (table_changed e.1.nick (changes_of e.1) users) q)
        ≡ option_map (changed_by (changes_found (found b))) (row users q)
    by_fold true one below =
        ap (λ f. option_map (changed_by (changes_found f))
        (row (table_changed e.1.nick (changes_of e.1) users) q))
        (ap (λ x. find fold_cmp x es) (one_fold q e.0 one) ∙ none_below e.0 es below)
        ∙ sym (unchanged (row (table_changed e.1.nick (changes_of e.1) users) q))
        ∙ ap (row (table_changed e.1.nick (changes_of e.1) users))
        (one_fold q e.0 one ∙ sym named.0)
        ∙ its_row e.1.nick (changes_of e.1) users
        ∙ ap (λ x. option_map (changed_by (changes_of e.1)) (row users x))
        (named.0 ∙ sym (one_fold q e.0 one))
    by_fold false two below =
        ap (option_map (changed_by (changes_found (find fold_cmp q es))))
        (other_row e.1.nick (changes_of e.1) users q (ap (same_fold q) named.0 ∙ two))
