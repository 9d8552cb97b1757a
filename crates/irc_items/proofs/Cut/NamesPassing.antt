-- Names that are listed in order: each of those that pass a test.
use Rattle.std.proofs.Common.{◌≡◌, ℕ, Bool, true, false, cond, Option, Some, None, List, [], ◌∷◌}
use Rattle.std.proofs.Common.{map, refl, sym, ◌∙◌, if◌then◌else◌}
use Rattle.std.specs.FinMap.{entries, entries_sorted, get-entries, keys}
use Rattle.std.specs.List.{list_any, AllByRecursion}
use Rattle.irc_names.specs.Lemmas.PlainFacts.{is_true}
use Rattle.irc_names.specs.Tables.{row, tabulate}
use Rattle.irc_names.specs.TableLaws.{same_fold, row-tabulate}
use Rattle.irc_merge.specs.Lemmas.TableWords.{entries_all}

module _ (names : List (List ℕ)) (test : List ℕ → Bool) where
  abbrev mark_of : List ℕ → Option (Unit {0})
  mark_of name = if test name then Some (tt {0}) else None

  passes : (q : List ℕ) (u : Unit {0}) → row (tabulate names mark_of) q ≡ Some u → test q ≡ true
  passes q u is =
      by (list_any (same_fold q) names) (test q) (sym (row-tabulate names mark_of q) ∙ is)
    where
      by : (b c : Bool) → cond b (if c then Some (tt {0}) else None) None ≡ Some u → c ≡ true
      by b true is = refl
      by true false is = cc is
      by false false is = cc is

  of_entries : (es : List (List ℕ × Unit {0}))
      → AllByRecursion (λ (e : List ℕ × Unit {0}). test e.0 ≡ true) es
      → AllByRecursion (λ x. test x ≡ true) (map (λ e. e.0) es)
  of_entries [] all = tt
  of_entries (e ∷ es) all = (all.0, of_entries es all.1)

  pub all_pass : AllByRecursion (λ x. test x ≡ true) (keys (tabulate names mark_of))
  all_pass =
      of_entries (entries (tabulate names mark_of))
      (entries_all (λ q u. test q ≡ true) (entries (tabulate names mark_of))
      (λ q u is. passes q u (get-entries (tabulate names mark_of) q ∙ is))
      (is_true _ (entries_sorted (tabulate names mark_of))))
