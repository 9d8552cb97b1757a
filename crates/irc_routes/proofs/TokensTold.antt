-- What the table of numbers tells after each change.
use Rattle.std.proofs.Common.{◌≡◌, ℕ, Bool, true, false, cond, not, ◌&&◌, List, [], ◌∷◌, map}
use Rattle.std.proofs.Common.{nat_eq, refl, sym, ◌∙◌, ap, subst, Option, Some, None}
use Rattle.std.proofs.lemmas.Bool.{and_parts, and_from}
use Rattle.std.proofs.lemmas.Bool.Decides.{Decides-eqb}
use Rattle.std.specs.FinMap.{get-empty, find as find_key}
use Rattle.std.specs.Option.{option_map, option_and_then}
use Rattle.std.proofs.lemmas.Option.{same_Some}
use Rattle.std.specs.Cmp.{both_ways}
use Rattle.irc_names.specs.Tables.{row, alter, fold_cmp}
use Rattle.irc_names.specs.TableLaws.{same_fold, same_fold-refl, one_fold, row-alter, row-each}
use Rattle.irc_tables.specs.FoldedRows.{table_of, IsInFoldedOrder}
use Rattle.irc_tables.specs.Lemmas.RowsAsTable.{row-table_of, nothing-sorted, nothing-table}
use Rattle.irc_routes.specs.About.{About}
use Rattle.irc_routes.specs.Known.{Known, ServerRow, alone_known, row_of, has_token, without_server}
use Rattle.irc_routes.specs.Known.{without_link, IsNumbered}
use Rattle.irc_routes.specs.Lemmas.TableRows.{filtered-sorted, filtered-table}
use Rattle.irc_routes.specs.Loops.Tokens.{TokenRow, token_key, token_entry, row_at, server_at}
use Rattle.irc_routes.specs.Loops.Tokens.{is_on, HasToken, IsWithoutToken, AreElsewhere, AreTold}
use Rattle.irc_routes.proofs.FoundByNumber.{token_alone, token_added, token_forgotten}
use Rattle.irc_routes.proofs.FoundByNumber.{token_lost}

abbrev name_of : Option TokenRow → Option (List ℕ)
name_of = option_map (λ (t : TokenRow). t.name)

abbrev first_of : List ℕ → ℕ
first_of [] = 0
first_of (n ∷ ns) = n

abbrev second_of : List ℕ → ℕ
second_of [] = 0
second_of (n ∷ ns) = first_of ns

-- two keys are one where both parts are
key_same : (link token a b : ℕ)
    → same_fold (token_key link token) (token_key a b) ≡ (nat_eq a link && nat_eq b token)
key_same link token a b = both_ways _ _ there back
  where
    there : same_fold (token_key link token) (token_key a b) ≡ true
        → (nat_eq a link && nat_eq b token) ≡ true
    there same =
        let keys = one_fold (token_key link token) (token_key a b) same in
        and_from _ _ ((Decides-eqb a link).1 (sym (ap first_of keys)))
        ((Decides-eqb b token).1 (sym (ap second_of keys)))

    back : (nat_eq a link && nat_eq b token) ≡ true
        → same_fold (token_key link token) (token_key a b) ≡ true
    back same =
        let parts = and_parts _ _ same in
        ap (λ l. same_fold (token_key link token) (token_key l b)) ((Decides-eqb a link).0 parts.0)
        ∙ ap (λ t. same_fold (token_key link token) (token_key link t))
        ((Decides-eqb b token).0 parts.1)
        ∙ same_fold-refl (token_key link token)

pub told_alone : (name : List ℕ) (about : About) (tokens : List TokenRow) → tokens ≡ []
    → AreTold (alone_known name about) tokens
told_alone name about tokens none = record {
  ordered = subst (λ ts. IsInFoldedOrder token_entry ts) (sym none) (nothing-sorted token_entry);
  told = λ link token.
      ap (λ ts. server_at ts link token) none
      ∙ ap (λ table. name_of (row table (token_key link token))) (nothing-table token_entry)
      ∙ ap name_of (get-empty fold_cmp (token_key link token))
      ∙ sym (token_alone name about link token);
}

by_either : (b : Bool) (one other : Option TokenRow)
    → name_of (cond b one other) ≡ cond b (name_of one) (name_of other)
by_either true one other = refl
by_either false one other = refl

-- a row that is put at a key, or taken from it
put_at : (tokens now : List TokenRow) (on number : ℕ) (o : Option TokenRow)
    → table_of token_entry now ≡ alter (token_key on number) (λ _. o) (table_of token_entry tokens)
    → (link token : ℕ) → server_at now link token ≡ cond (nat_eq on link && nat_eq number token)
    (name_of o) (server_at tokens link token)
put_at tokens now on number o is link token =
    let key = token_key link token in
    ap (λ table. name_of (row table key)) is
    ∙ ap name_of (row-alter (token_key on number) (λ _. o) (table_of token_entry tokens) key)
    ∙ by_either (same_fold key (token_key on number)) o (row_at tokens link token)
    ∙ ap (λ b. cond b (name_of o) (server_at tokens link token)) (key_same link token on number)

pub told_added : (known : Known) (new : ServerRow) → row_of known new.name ≡ None → IsNumbered known
    → IsNumbered (record known { rows = alter new.name (λ _. Some new) known.rows })
    → (tokens now : List TokenRow) (t : TokenRow) → AreTold known tokens
    → t.link ≡ new.link → t.token ≡ new.token → t.name ≡ new.name
    → HasToken t tokens now → IsInFoldedOrder token_entry now
    → AreTold (record known { rows = alter new.name (λ _. Some new) known.rows }) now
told_added known new is_new numbered after tokens now t before same_link same_token same_name is
    ordered = record {
      ordered = ordered;
      told = λ link token.
          put_at tokens now t.link t.token (Some t) is link token
          ∙ ap (λ l. cond (nat_eq l link && nat_eq t.token token) (Some (t.name))
          (server_at tokens link token)) same_link
          ∙ ap (λ n. cond (nat_eq new.link link && nat_eq n token) (Some (t.name))
          (server_at tokens link token)) same_token
          ∙ ap (λ n. cond (has_token link token new) (Some n) (server_at tokens link token))
          same_name
          ∙ ap (cond (has_token link token new) (Some (new.name))) (before.told link token)
          ∙ sym (token_added known new is_new numbered after link token);
    }

pub told_forgotten : (known : Known) (gone : ServerRow) → row_of known gone.name ≡ Some gone
    → IsNumbered known → IsNumbered (without_server gone.name known) → (tokens now : List TokenRow)
    → AreTold known tokens → IsWithoutToken gone.link gone.token tokens now
    → IsInFoldedOrder token_entry now → AreTold (without_server gone.name known) now
told_forgotten known gone stood numbered after tokens now before is ordered = record {
  ordered = ordered;
  told = λ link token.
      put_at tokens now gone.link gone.token None is link token
      ∙ ap (cond (has_token link token gone) None) (before.told link token)
      ∙ sym (token_forgotten known gone stood numbered after link token);
}

-- ---- the numbers on a link are forgotten

abbrev unless_on : ℕ → TokenRow → Option TokenRow
unless_on lost t = cond (not (is_on lost t)) (Some t) None

-- a row stands under its own key
under_its_key : (tokens : List TokenRow) (key : List ℕ) (t : TokenRow)
    → find_key fold_cmp key (map token_entry tokens) ≡ Some t → token_key t.link t.token ≡ key
under_its_key [] key t found = cc
under_its_key (u ∷ tokens) key t found =
    by (same_fold key (token_key u.link u.token)) refl (under_its_key tokens key t) found
  where
    by : (b : Bool) → same_fold key (token_key u.link u.token) ≡ b
        → (find_key fold_cmp key (map token_entry tokens) ≡ Some t → token_key t.link t.token ≡ key)
        → cond b (Some u) (find_key fold_cmp key (map token_entry tokens)) ≡ Some t
        → token_key t.link t.token ≡ key
    by true same later e = ap (λ (t : TokenRow). token_key t.link t.token) (sym (same_Some u t e))
        ∙ sym (one_fold key (token_key u.link u.token) same)
    by false other later e = later e

on_its_link : (tokens : List TokenRow) (link token lost : ℕ) (o : Option TokenRow)
    → row_at tokens link token ≡ o
    → name_of (option_and_then (unless_on lost) o) ≡ cond (nat_eq link lost) None (name_of o)
on_its_link tokens link token lost None is = by (nat_eq link lost)
  where
    by : (b : Bool) → name_of None ≡ cond b None (name_of None)
    by true = refl
    by false = refl
on_its_link tokens link token lost (Some t) is =
    let key = under_its_key tokens (token_key link token) t
    (sym (row-table_of token_entry tokens (token_key link token)) ∙ is) in
    ap (λ b. name_of (cond (not b) (Some t) None)) (ap (λ l. nat_eq l lost) (ap first_of key))
    ∙ by (nat_eq link lost)
  where
    by : (b : Bool) → name_of (cond (not b) (Some t) None) ≡ cond b None (Some (t.name))
    by true = refl
    by false = refl

pub told_lost : (known : Known) (lost : ℕ) → IsNumbered known → IsNumbered (without_link lost known)
    → (tokens now : List TokenRow) → AreTold known tokens → AreElsewhere lost tokens now
    → AreTold (without_link lost known) now
told_lost known lost numbered after tokens now before is =
    let stays = λ (t : TokenRow). not (is_on lost t) in
    record {
      ordered = subst (λ ts. IsInFoldedOrder token_entry ts) (sym is)
          (filtered-sorted token_entry stays (unless_on lost) (λ t. refl) tokens before.ordered);
      told = λ link token.
          ap (λ ts. server_at ts link token) is
          ∙ ap (λ table. name_of (row table (token_key link token)))
          (filtered-table token_entry stays (unless_on lost) (λ t. refl) tokens before.ordered)
          ∙ ap name_of
          (row-each (unless_on lost) (table_of token_entry tokens) (token_key link token))
          ∙ on_its_link tokens link token lost (row_at tokens link token) refl
          ∙ ap (cond (nat_eq link lost) None) (before.told link token)
          ∙ sym (token_lost known lost numbered after link token);
    }
