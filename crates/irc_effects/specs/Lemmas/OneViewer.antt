-- What one viewer is shown stands once among all that is seen.
use Rattle.std.proofs.Common.{◌≡◌, ℕ, Bool, true, false, cond, T, Option, Some, None, List, [], ◌∷◌}
use Rattle.std.proofs.Common.{refl, sym, ◌∙◌, ap, map, filter, filter_map, option_map}
use Rattle.std.proofs.Common.{option_to_list}
use Rattle.std.specs.List.{AllByRecursion, cons_option}
use Rattle.std.specs.Option.{option_and_then}
use Rattle.std.specs.FinMap.{entries, entries_sorted, values, find, is_sorted, get-entries}
use Rattle.std.proofs.Math.Facts.{and_yes}
use Rattle.std.proofs.lemmas.Option.{none-some}
use Rattle.irc_names.specs.Fold.{key, same}
use Rattle.irc_names.specs.FoldLaws.{same-ties, same-equivalence}
use Rattle.irc_names.specs.Tables.{fold_cmp, row}
use Rattle.irc_names.specs.TableLaws.{same_fold, one_fold}
use Rattle.irc_users.specs.declared.user.User.{User}
use Rattle.irc_effects.specs.declared.effect.Effect.{Effect}
use Rattle.irc_effects.specs.Room.{Room, IsWellFormed}
use Rattle.irc_effects.specs.Seen.{Showing, seen, shown_to, sees, shown_line}
use Rattle.irc_effects.specs.Lemmas.ViewerLaws.{below_none, IsNamed, table_named, IsOwn}
use Rattle.irc_effects.specs.Lemmas.ViewerLaws.{own_showing}
use Rattle.irc_effects.specs.Effects.{is_idle}
use Rattle.irc_effects.specs.Viewers.{line_for, shows_to, OneViewersLines}

-- what is shown to one viewer
to_one : List ℕ → (User → Option Showing) → List (List ℕ × User) → List Showing
to_one viewer shown es =
    filter (λ (s : Showing). same viewer s.viewer) (filter_map shown (map (λ e. e.1) es))

-- one more entry, which is shown nothing, or what another viewer is shown
one_skipped : (viewer : List ℕ) (shown : User → Option Showing) → IsOwn shown → (e : List ℕ × User)
    (es : List (List ℕ × User)) → IsNamed e → same_fold (key viewer) e.0 ≡ false
    → to_one viewer shown (e ∷ es) ≡ to_one viewer shown es
unfolding to_one
one_skipped viewer shown own e es named other = by_shown (shown e.1) refl
  where
    by_shown : (o : Option Showing) → shown e.1 ≡ o → filter (λ (s : Showing). same viewer s.viewer)
        (cons_option o (filter_map shown (map (λ e. e.1) es))) ≡ to_one viewer shown es
    by_shown None is = refl
    by_shown (Some s) is =
        ap (λ b. cond b (s ∷ to_one viewer shown es) (to_one viewer shown es))
        (same-ties viewer s.viewer
        ∙ ap (same_fold (key viewer)) (ap key (own.viewer e.1 s is) ∙ named) ∙ other)

nothing_shown : (viewer : List ℕ) (shown : User → Option Showing) → IsOwn shown
    → (es : List (List ℕ × User)) → AllByRecursion IsNamed es → find fold_cmp (key viewer) es ≡ None
    → to_one viewer shown es ≡ []
unfolding to_one
nothing_shown viewer shown own [] named none = refl
nothing_shown viewer shown own (e ∷ es) named none =
    by_fold (nothing_shown viewer shown own es named.1) (same_fold (key viewer) e.0) refl none
  where
    by_fold : (find fold_cmp (key viewer) es ≡ None → to_one viewer shown es ≡ []) → (b : Bool)
        → same_fold (key viewer) e.0 ≡ b → cond b (Some e.1) (find fold_cmp (key viewer) es) ≡ None
        → to_one viewer shown (e ∷ es) ≡ []
    by_fold rest true one found = absurd (none-some e.1 (sym found))
    by_fold rest false two found = one_skipped viewer shown own e es named.0 two ∙ rest found

chosen : (viewer : List ℕ) (shown : User → Option Showing) → IsOwn shown
    → (es : List (List ℕ × User)) → AllByRecursion IsNamed es → T (is_sorted fold_cmp es) → to_one
    viewer shown es ≡ option_to_list (option_and_then shown (find fold_cmp (key viewer) es))
unfolding to_one
chosen viewer shown own [] named rise = refl
chosen viewer shown own (e ∷ es) named rise =
    by_fold (chosen viewer shown own es named.1 (and_yes _ _ rise).1)
    (same_fold (key viewer) e.0) refl
  where
    nobody_later : same_fold (key viewer) e.0 ≡ true → to_one viewer shown es ≡ []
    nobody_later one =
        nothing_shown viewer shown own es named.1
        (ap (λ f. find fold_cmp f es) (one_fold (key viewer) e.0 one)
        ∙ below_none e.0 es (and_yes _ _ rise).0)

    here : same_fold (key viewer) e.0 ≡ true → (o : Option Showing)
        → shown e.1 ≡ o → filter (λ (t : Showing). same viewer t.viewer)
        (cons_option o (filter_map shown (map (λ e. e.1) es))) ≡ option_to_list o
    here one None is = nobody_later one
    here one (Some s) is =
        ap (λ b. cond b (s ∷ to_one viewer shown es) (to_one viewer shown es))
        (same-ties viewer s.viewer
        ∙ ap (same_fold (key viewer)) (ap key (own.viewer e.1 s is) ∙ named.0) ∙ one)
        ∙ ap (λ rest. s ∷ rest) (nobody_later one)

    by_fold : to_one viewer shown es
        ≡ option_to_list (option_and_then shown (find fold_cmp (key viewer) es))
        → (b : Bool) → same_fold (key viewer) e.0 ≡ b
        → to_one viewer shown (e ∷ es) ≡ option_to_list
        (option_and_then shown (cond b (Some e.1) (find fold_cmp (key viewer) es)))
    by_fold rest true one = here one (shown e.1) refl
    by_fold rest false two = one_skipped viewer shown own e es named.0 two ∙ rest

-- in a well-formed room, what is shown to a user is all that it is shown
pub shown_to_one : (room : Room) (effect : Effect) (viewer : List ℕ) → IsWellFormed room → filter
    (λ (s : Showing). same viewer s.viewer) (filter_map (shown_to room effect) (values room.users))
    ≡ option_to_list (option_and_then (shown_to room effect) (row room.users (key viewer)))
unfolding to_one
shown_to_one room effect viewer well =
    chosen viewer (shown_to room effect) (own_showing room effect) (entries room.users)
    (table_named room.users well.users_named) (entries_sorted room.users)
    ∙ ap (λ o. option_to_list (option_and_then (shown_to room effect) o))
    (sym (get-entries room.users (key viewer)))

line_of_one : (sees : Bool) (viewer : List ℕ) (line : Option (List ℕ))
    → map (λ (s : Showing). s.line)
    (option_to_list (cond sees (option_map (λ l. record { viewer = viewer; line = l }) line) None))
    ≡ option_to_list (cond sees line None)
line_of_one true viewer None = refl
line_of_one true viewer (Some l) = refl
line_of_one false viewer line = refl

lines_of : (room : Room) (effect : Effect) (found : Option User)
    → map (λ (s : Showing). s.line) (option_to_list (option_and_then (shown_to room effect) found))
    ≡ option_to_list (option_and_then (line_for room effect) found)
lines_of room effect None = refl
lines_of room effect (Some user) =
    line_of_one (sees room effect user.nick) user.nick (shown_line room effect user)

pub one_viewers_lines : OneViewersLines
unfolding seen shows_to
one_viewers_lines room effect nick well =
    ap (λ (p : Showing → Bool). map (λ (s : Showing). s.line) (filter p (seen room effect)))
    (λ i s. same-equivalence.symm s.viewer nick i)
    ∙ by_idle (is_idle room effect)
  where
    by_idle : (idle : Bool)
        → map (λ (s : Showing). s.line)
        (filter (λ (s : Showing). same nick s.viewer)
        (cond idle [] (filter_map (shown_to room effect) (values room.users))))
        ≡ option_to_list
        (cond idle None (option_and_then (line_for room effect) (row room.users (key nick))))
    by_idle true = refl
    by_idle false = ap (map (λ (s : Showing). s.line)) (shown_to_one room effect nick well)
        ∙ lines_of room effect (row room.users (key nick))
