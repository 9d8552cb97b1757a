-- Viewers stand in folded order, and one that is shown something stands there once.
use Rattle.std.proofs.Common.{◌≡◌, ℕ, Bool, true, false, cond, T, Option, Some, None, List}
use Rattle.std.proofs.Common.{[], ◌∷◌, refl, sym, ◌∙◌, ap, subst, map, filter_map, if◌then◌else◌}
use Rattle.std.proofs.Common.{option_map}
use Rattle.std.specs.declared.cmp.Ordering.{Ordering}
use Rattle.std.specs.declared.cmp.Ordering.TheVariants.{Less, Equal, Greater}
use Rattle.std.specs.Ordering.{is_lt, is_eq}
use Rattle.std.specs.List.{AllByRecursion, cons_option}
use Rattle.std.specs.List.Sorted.{IsStrictlySortedBy}
use Rattle.std.specs.FinMap.{entries, entries_sorted, values, find, is_sorted, get-entries}
use Rattle.std.specs.FinMap.Entries.{below_all}
use Rattle.std.proofs.lemmas.Option.{same_Some, none-some}
use Rattle.std.proofs.Math.Facts.{and_yes}
use Rattle.irc_names.specs.Fold.{key, name_cmp}
use Rattle.irc_names.specs.Tables.{Table, fold_cmp, row}
use Rattle.irc_names.specs.TableLaws.{same_fold, same_fold-refl, one_fold}
use Rattle.irc_users.specs.declared.user.User.{User}
use Rattle.irc_effects.specs.declared.effect.Effect.{Effect}
use Rattle.irc_effects.specs.Room.{Room}
use Rattle.irc_effects.specs.Effects.{is_idle}
use Rattle.irc_effects.specs.Seen.{Showing, seen, shown_to, shown_line, sees}
use Rattle.irc_effects.specs.Laws.{EachViewerOnce}

-- a fold below all those of a list is none of them
less_apart : (o : Ordering) → T (is_lt o) → is_eq o ≡ false
less_apart Less h = refl
less_apart Equal h = absurd h
less_apart Greater h = absurd h

less_is : (o : Ordering) → T (is_lt o) → o ≡ Less
less_is Less h = refl
less_is Equal h = absurd h
less_is Greater h = absurd h

pub below_none : (q : List ℕ) (es : List (List ℕ × User)) → T (below_all fold_cmp q es)
    → find fold_cmp q es ≡ None
below_none q [] h = refl
below_none q (e ∷ es) h =
    let parts = and_yes _ _ h in
    ap (λ b. cond b (Some e.1) (find fold_cmp q es)) (less_apart (fold_cmp q e.0) parts.0)
    ∙ below_none q es parts.1

-- an entry stands under its nickname's fold
abbrev pub IsNamed : List ℕ × User → Type 0
IsNamed e = key e.1.nick ≡ e.0

all_named : (es : List (List ℕ × User)) → T (is_sorted fold_cmp es)
    → ((q : List ℕ) (user : User) → find fold_cmp q es ≡ Some user → key user.nick ≡ q)
    → AllByRecursion IsNamed es
all_named [] rise named = tt
all_named (e ∷ es) rise named =
    let parts = and_yes _ _ rise in (
      named e.0 e.1 (ap (λ b. cond b (Some e.1) (find fold_cmp e.0 es)) (same_fold-refl e.0)),
      all_named es parts.1
          (λ q user is. named q user (later q user parts.0 is (same_fold q e.0) refl)),
    )
  where
    later : (q : List ℕ) (user : User) → T (below_all fold_cmp e.0 es)
        → find fold_cmp q es ≡ Some user → (b : Bool) → same_fold q e.0 ≡ b
        → cond (same_fold q e.0) (Some e.1) (find fold_cmp q es) ≡ Some user
    later q user below is true one = let none = below_none e.0 es below in let folds =
        ap (λ f. find fold_cmp f es) (one_fold q e.0 one) in cc
    later q user below is false two = ap (λ b. cond b (Some e.1) (find fold_cmp q es)) two ∙ is

pub table_named : (users : Table User)
    → ((q : List ℕ) (user : User) → row users q ≡ Some user → key user.nick ≡ q)
    → AllByRecursion IsNamed (entries users)
table_named users named = all_named (entries users) (entries_sorted users)
    (λ q user is. named q user (get-entries users q ∙ is))

-- what is shown to a user is shown to it by its nickname
pub record IsOwn (shown : User → Option Showing) : Type 0 where
  pub viewer : (user : User) (showing : Showing) → shown user ≡ Some showing
      → showing.viewer ≡ user.nick

viewers : (User → Option Showing) → List (List ℕ × User) → List (List ℕ)
viewers shown es = map (λ (s : Showing). s.viewer) (filter_map shown (map (λ e. e.1) es))

below_shown : (shown : User → Option Showing) → IsOwn shown
    → (x : List ℕ) (es : List (List ℕ × User)) → AllByRecursion IsNamed es
    → T (below_all fold_cmp x es)
    → AllByRecursion (λ y. fold_cmp x (key y) ≡ Less) (viewers shown es)
unfolding viewers
below_shown shown own x [] named below = tt
below_shown shown own x (e ∷ es) named below =
    let parts = and_yes _ _ below in
    by_shown (shown e.1) refl parts.0 (below_shown shown own x es named.1 parts.1)
  where
    by_shown : (o : Option Showing) → shown e.1 ≡ o → T (is_lt (fold_cmp x e.0))
        → AllByRecursion (λ y. fold_cmp x (key y) ≡ Less) (viewers shown es)
        → AllByRecursion (λ y. fold_cmp x (key y) ≡ Less)
        (map (λ (s : Showing). s.viewer) (cons_option o (filter_map shown (map (λ e. e.1) es))))
    by_shown None is lt rest = rest
    by_shown (Some s) is lt rest =
        (ap (fold_cmp x) (ap key (own.viewer e.1 s is) ∙ named.0) ∙ less_is _ lt, rest)

shown_rise : (shown : User → Option Showing) → IsOwn shown → (es : List (List ℕ × User))
    → AllByRecursion IsNamed es → T (is_sorted fold_cmp es)
    → IsStrictlySortedBy name_cmp (viewers shown es)
unfolding viewers IsStrictlySortedBy
shown_rise shown own [] named rise = tt
shown_rise shown own (e ∷ es) named rise =
    let parts = and_yes _ _ rise in
    by_shown (shown e.1) refl (below_shown shown own e.0 es named.1 parts.0)
    (shown_rise shown own es named.1 parts.1)
  where
    by_shown : (o : Option Showing) → shown e.1 ≡ o
        → AllByRecursion (λ y. fold_cmp e.0 (key y) ≡ Less) (viewers shown es)
        → IsStrictlySortedBy name_cmp (viewers shown es) → IsStrictlySortedBy name_cmp
        (map (λ (s : Showing). s.viewer) (cons_option o (filter_map shown (map (λ e. e.1) es))))
    by_shown None is below rest = rest
    by_shown (Some s) is below rest = (
      subst (λ k. AllByRecursion (λ y. fold_cmp k (key y) ≡ Less) (viewers shown es))
          (sym (ap key (own.viewer e.1 s is) ∙ named.0)) below,
      rest,
    )

own_line : (b : Bool) (user : User) (line : Option (List ℕ)) (showing : Showing)
    → (if b then option_map (λ l. record { viewer = user.nick; line = l }) line else None)
    ≡ Some showing → showing.viewer ≡ user.nick
own_line true user None showing is = absurd (none-some showing is)
own_line true user (Some l) showing is = sym (ap (λ (s : Showing). s.viewer)
    (same_Some (record { viewer = user.nick; line = l }) showing is))
own_line false user line showing is = absurd (none-some showing is)

pub own_showing : (room : Room) (effect : Effect) → IsOwn (shown_to room effect)
own_showing room effect = record {
  viewer = λ user showing is.
      own_line (sees room effect user.nick) user (shown_line room effect user) showing is;
}

pub each_viewer_once : EachViewerOnce
unfolding seen viewers IsStrictlySortedBy
each_viewer_once room effect well = by_idle (is_idle room effect)
  where
    by_idle : (b : Bool)
        → IsStrictlySortedBy name_cmp
        (map (λ (s : Showing). s.viewer)
        (if b then [] else filter_map (shown_to room effect) (values room.users)))
    by_idle true = tt
    by_idle false =
        shown_rise (shown_to room effect) (own_showing room effect) (entries room.users)
        (table_named room.users well.users_named) (entries_sorted room.users)
