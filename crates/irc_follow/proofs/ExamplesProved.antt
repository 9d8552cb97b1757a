-- The numbers of three servers.
use Rattle.std.proofs.Common.{◌≡◌, ℕ, Bool, true, false, cond, not, ◌||◌, Some, None, List, [], ◌∷◌}
use Rattle.std.proofs.Common.{codes, map, unwrap_or, option_map, is_some, refl, sym, ◌∙◌, ap}
use Rattle.std.proofs.Common.{if◌then◌else◌}
use Rattle.std.specs.FinMap.{empty, entries-from_sorted, from_sorted, get-empty, get-from_sorted}
use Rattle.std.specs.FinMap.{values}
use Rattle.irc_names.specs.Tables.{alter, fold_cmp, row}
use Rattle.irc_names.specs.TableLaws.{row-alter, row-alter_same, same_fold, same_table}
use Rattle.irc_relay.specs.Links.{Name, same, toward, distance, part}
use Rattle.irc_routes.specs.declared.server_row.ServerRow.{ServerRow}
use Rattle.irc_routes.specs.About.{says}
use Rattle.irc_routes.specs.Known.{Known, added, is_itself, is_known, row_of, smallest_free}
use Rattle.irc_routes.specs.Known.{smallest_free_in, token_out}
use Rattle.irc_stage.specs.Lemmas.Alone.{knows_no_other}
use Rattle.irc_follow.specs.Examples.{a, b, c, three, itself_only, first_routes, two_of_three}
use Rattle.irc_follow.specs.Examples.{all_three, NumbersOfThree}
use Rattle.irc_follow.specs.Tree.{known_told, told_token}

-- a table of one row
one_row : (q : List ℕ) (r : ServerRow) → values (alter q (λ _. Some r) empty) ≡ r ∷ []
one_row q r =
    ap values (same_table (alter q (λ _. Some r) empty) (from_sorted ((q, r) ∷ [])) (λ k.
    row-alter q (λ _. Some r) empty k
    ∙ ap (cond (same_fold k q) (Some r)) (get-empty fold_cmp k)
    ∙ sym (get-from_sorted fold_cmp ((q, r) ∷ []) k tt)))
    ∙ ap (λ es. map (λ (e : List ℕ × ServerRow). e.1) es)
    (entries-from_sorted fold_cmp ((q, r) ∷ []) tt)

-- the first number that a server gives is 2, and the second 3
first_number : (name : Name) → smallest_free (itself_only name) ≡ 2
first_number name =
    ap smallest_free_in (knows_no_other name (says (codes "A server") (codes "today")))

abbrev row_with : ℕ → List ℕ → ℕ → ServerRow
row_with link name ours = record {
  link = link;
  uplink = name;
  name = name;
  distance = 1;
  token = 1;
  ours = ours;
  info = codes "A server";
}

second_number : (link : ℕ) (own name : Name)
    → smallest_free (added link name name 1 1 (codes "A server") (itself_only own)) ≡ 3
second_number link own name =
    ap smallest_free_in (one_row name (row_with link name (smallest_free (itself_only own))))
    ∙ ap (λ n. smallest_free_in (row_with link name n ∷ [])) (first_number own)

-- c.net is not known yet
module _ (link : ℕ) (own name : Name) (apart : same_fold c name ≡ false)
    (another : same own c ≡ false) where
  abbrev before : Known
  before = added link name name 1 1 (codes "A server") (itself_only own)

  no_row : row_of before c ≡ None
  no_row =
      row-alter name (λ _. Some (row_with link name (smallest_free (itself_only own)))) empty c
      ∙ ap (λ x. cond x (Some (row_with link name (smallest_free (itself_only own))))
      (row empty c)) apart
      ∙ get-empty fold_cmp c

  unknown : is_known before c ≡ false
  unknown = ap (λ x. x || is_some (row_of before c)) another ∙ ap is_some no_row

  no_number : token_out before c ≡ None
  no_number =
      ap (λ x. if x then Some 1
      else option_map (λ (r : ServerRow). r.ours) (row_of before c)) another
      ∙ ap (option_map (λ (r : ServerRow). r.ours)) no_row

told_by_b : told_token two_of_three b c ≡ 3
told_by_b =
    ap (λ o. unwrap_or o (smallest_free (first_routes b))) (no_number 0 b a refl refl)
    ∙ second_number 0 b a

kept_a : row_of (all_three.routes a) c
    ≡ Some (record {
      link = 1;
      uplink = b;
      name = c;
      distance = 2;
      token = 3;
      ours = 3;
      info = codes "A server";
    })
unfolding toward distance part
kept_a =
    ap (λ x. row_of (if not x then known_told three two_of_three b c (codes "A server") a
    else first_routes a) c) (unknown 1 a b refl refl)
    ∙ row-alter_same c (λ _. Some (record {
      link = 1;
      uplink = b;
      name = c;
      distance = 2;
      token = told_token two_of_three b c;
      ours = smallest_free (first_routes a);
      info = codes "A server";
    })) (first_routes a).rows
    ∙ ap (λ n. Some (record {
      link = 1;
      uplink = b;
      name = c;
      distance = 2;
      token = n;
      ours = smallest_free (first_routes a);
      info = codes "A server";
    })) told_by_b
    ∙ ap (λ n. Some (record {
      link = 1;
      uplink = b;
      name = c;
      distance = 2;
      token = 3;
      ours = n;
      info = codes "A server";
    })) (second_number 1 a b)

kept_b : row_of (all_three.routes b) c
    ≡ Some (record {
      link = 2;
      uplink = b;
      name = c;
      distance = 1;
      token = 1;
      ours = 3;
      info = codes "A server";
    })
unfolding toward distance part
kept_b =
    ap (λ x. row_of (if not x then known_told three two_of_three b c (codes "A server") b
    else first_routes b) c) (unknown 0 b a refl refl)
    ∙ row-alter_same c (λ _. Some (record {
      link = 2;
      uplink = b;
      name = c;
      distance = 1;
      token = 1;
      ours = smallest_free (first_routes b);
      info = codes "A server";
    })) (first_routes b).rows
    ∙ ap (λ n. Some (record {
      link = 2;
      uplink = b;
      name = c;
      distance = 1;
      token = 1;
      ours = n;
      info = codes "A server";
    })) (second_number 0 b a)

pub numbers_of_three : NumbersOfThree
numbers_of_three = record {
  of_a = ap (λ x. if x then Some 1
      else option_map (λ (r : ServerRow). r.ours) (row_of (all_three.routes a) c)) (other_a)
      ∙ ap (option_map (λ (r : ServerRow). r.ours)) kept_a;
  of_b = ap (λ x. if x then Some 1
      else option_map (λ (r : ServerRow). r.ours) (row_of (all_three.routes b) c)) (other_b)
      ∙ ap (option_map (λ (r : ServerRow). r.ours)) kept_b;
  kept_at_a = kept_a;
  kept_at_b = kept_b;
}
  where
    other_a : is_itself (all_three.routes a) c ≡ false
    other_a = by (is_known (first_routes a) c)
      where
        by : (x : Bool) → is_itself (if not x then known_told three two_of_three b c
            (codes "A server") a else first_routes a) c ≡ false
        by true = refl
        by false = refl

    other_b : is_itself (all_three.routes b) c ≡ false
    other_b = by (is_known (first_routes b) c)
      where
        by : (x : Bool) → is_itself (if not x then known_told three two_of_three b c
            (codes "A server") b else first_routes b) c ≡ false
        by true = refl
        by false = refl
