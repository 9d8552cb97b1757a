-- A server that forgets others, one after another: without those behind a link it has nobody behind
-- that.
use Rattle.std.proofs.Common.{◌≡◌, ℕ, Bool, true, false, cond, ◌||◌, Option, Some, None, List, []}
use Rattle.std.proofs.Common.{◌∷◌, refl, sym, ◌∙◌, ap}
use Rattle.std.specs.Cmp.Lexicographic.{bytes_decides, pointwise}
use Rattle.std.specs.Option.{option_and_then, option_map}
use Rattle.irc_names.specs.Tables.{each}
use Rattle.irc_names.specs.TableLaws.{same_fold, same_fold-refl, one_fold, row-alter, row-each}
use Rattle.irc_names.specs.TableLaws.{same_table}
use Rattle.irc_routes.specs.declared.server_row.ServerRow.{ServerRow}
use Rattle.irc_routes.specs.Known.{Known, names_behind, is_behind, row_of, unless_behind}
use Rattle.irc_routes.specs.Known.{without_link, without_server, IsNumbered}
use Rattle.irc_routes.specs.Laws.{is_among}
use Rattle.irc_routes.specs.Lemmas.RouteLaws.{behind_of_link}
use Rattle.std.proofs.lemmas.Bool.{eqb-true}
use Rattle.std.specs.Prelude.{nat_eq}

-- without these servers
abbrev pub all_forgotten : List (List ℕ) → Known → Known
all_forgotten [] known = known
all_forgotten (name ∷ names) known = all_forgotten names (without_server name known)

one_test : (q name : List ℕ) → same_fold q name ≡ pointwise nat_eq name q
one_test q name = by (same_fold q name) (pointwise nat_eq name q) refl refl
  where
    by : (b c : Bool) → same_fold q name ≡ b → pointwise nat_eq name q ≡ c → b ≡ c
    by true true one is = refl
    by false false one is = refl
    by true false one is = cc (sym (sym is ∙ (bytes_decides name q).1 (sym (one_fold q name one))))
    by false true one is =
        cc (sym one ∙ ap (same_fold q) ((bytes_decides name q).0 is) ∙ same_fold-refl q)

pub row_left : (names : List (List ℕ)) (known : Known) (q : List ℕ)
    → row_of (all_forgotten names known) q ≡ cond (is_among q names) None (row_of known q)
row_left [] known q = refl
row_left (name ∷ names) known q =
    row_left names (without_server name known) q
    ∙ ap (cond (is_among q names) None)
    (row-alter name (λ _. None) known.rows q
    ∙ ap (λ b. cond b None (row_of known q)) (one_test q name))
    ∙ both_gone (is_among q names) (pointwise nat_eq name q) (row_of known q)
  where
    both_gone : (b c : Bool) (o : Option ServerRow)
        → cond b None (cond c None o) ≡ cond (c || b) None o
    both_gone true true o = refl
    both_gone true false o = refl
    both_gone false true o = refl
    both_gone false false o = refl

-- without those behind a link there is nobody behind it to forget
module _ (known : Known) (link : ℕ) (numbered : IsNumbered known) where
  abbrev left : Known
  left = all_forgotten (names_behind known link) known

  stays_there : (q : List ℕ) → option_and_then (unless_behind link) (row_of left q) ≡ row_of left q
  stays_there q = by (row_of left q) refl
    where
      gone : (r : ServerRow) → row_of left q ≡ Some r → is_behind link r ≡ true → ⊥
      gone r there behind_it = on (is_among q (names_behind known link)) refl
        where
          on : (b : Bool) → is_among q (names_behind known link) ≡ b → ⊥
          on true is = cc (sym there ∙ row_left (names_behind known link) known q
              ∙ ap (λ b. cond b None (row_of known q)) is)
          on false is = cc (sym is ∙ (behind_of_link known link q numbered).1
              (ap (option_map (λ (x : ServerRow). x.link))
              (sym (row_left (names_behind known link) known q
              ∙ ap (λ b. cond b None (row_of known q)) is) ∙ there)
              ∙ ap Some (eqb-true r.link link behind_it)))

      by_test : (r : ServerRow) → row_of left q ≡ Some r → (b : Bool) → is_behind link r ≡ b
          → cond b None (Some r) ≡ Some r
      by_test r there true behind_it = absurd (gone r there behind_it)
      by_test r there false other = refl

      by : (o : Option ServerRow) → row_of left q ≡ o → option_and_then (unless_behind link) o ≡ o
      by None there = refl
      by (Some r) there = by_test r there (is_behind link r) refl

  pub nobody_behind : without_link link left ≡ left
  nobody_behind =
      ap (λ rows. record left { rows = rows })
      (same_table (each (unless_behind link) left.rows) left.rows
      (λ q. row-each (unless_behind link) left.rows q ∙ stays_there q))
