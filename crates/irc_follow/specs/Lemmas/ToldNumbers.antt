-- The numbers by which one server tells of others: each stands for one alone.
use Rattle.std.proofs.Common.{◌≡◌, ◌≢◌, ℕ, ◌≤◌, Bool, true, false, cond, ◌||◌, Option, Some, None}
use Rattle.std.proofs.Common.{List, [], ◌∷◌, nat_eq, refl, sym, ◌∙◌, ap, unwrap_or, is_some, arith}
use Rattle.std.proofs.Common.{if◌then◌else◌}
use Rattle.std.proofs.lemmas.Bool.{or_parts}
use Rattle.std.proofs.lemmas.Bool.Decides.{Decides-eqb}
use Rattle.std.specs.Cmp.Lexicographic.{bytes_decides}
use Rattle.std.specs.List.{find, list_any}
use Rattle.std.specs.Option.{option_map}
use Rattle.std.proofs.lemmas.Option.{same_Some}
use Rattle.irc_routes.specs.declared.server_row.ServerRow.{ServerRow}
use Rattle.irc_routes.specs.Known.{Known, is_itself, is_known, row_of, smallest_free, token_out}
use Rattle.irc_routes.specs.Known.{IsNumbered}
use Rattle.irc_routes.specs.Limits.{first_token}
use Rattle.irc_routes.specs.Lemmas.TableRows.{row_passes}
use Rattle.irc_routes.specs.Lemmas.RouteLaws.{smallest_is_free}

-- the number for a server, as it is looked up
abbrev number_of : Bool → Option ServerRow → Option ℕ
number_of itself found = if itself then Some 1 else option_map (λ (r : ServerRow). r.ours) found

-- what is told of a known server is its number, of another the smallest free one
abbrev told : Known → Bool → Option ServerRow → ℕ
told known itself found = unwrap_or (number_of itself found) (smallest_free known)

module _ (known : Known) (numbered : IsNumbered known) where
  not_used : (q : List ℕ) (r : ServerRow) → row_of known q ≡ Some r
      → r.ours ≡ smallest_free known → ⊥
  not_used q r there is =
      let used = row_passes (λ (s : ServerRow). nat_eq s.ours (smallest_free known)) known.rows q r
      there ((Decides-eqb r.ours (smallest_free known)).1 is) in
      cc (sym (smallest_is_free known).free ∙ used)

  from_two : (q : List ℕ) (r : ServerRow) → row_of known q ≡ Some r → first_token ≤ r.ours
  from_two q r there = (numbered.rows q r there).ours

  above : {A : Type 0} (n : ℕ) → first_token ≤ n → 1 ≡ n → A
  above n more is = absurd (omega arith)

  itself_is : (q name : List ℕ) → is_itself known q ≡ true → is_itself known name ≡ true → q ≡ name
  itself_is q name one other =
      sym ((bytes_decides known.name q).0 one) ∙ (bytes_decides known.name name).0 other

  -- two servers are not told of by one number, of which the first is known
  apart : (q name : List ℕ) (a b : Bool) (found other : Option ServerRow) → is_itself known q ≡ a
      → is_itself known name ≡ b → row_of known q ≡ found → row_of known name ≡ other → (k : ℕ)
      → number_of a found ≡ Some k → told known b other ≡ k → q ≢ name → ⊥
  apart q name true true found other ea eb fa fb k is same two = two (itself_is q name ea eb)
  apart q name true false found None ea eb fa fb k is same two =
      above (smallest_free known) (smallest_is_free known).from (same_Some 1 k is ∙ sym same)
  apart q name true false found (Some s) ea eb fa fb k is same two =
      above s.ours (from_two name s fb) (same_Some 1 k is ∙ sym same)
  apart q name false b None other ea eb fa fb k is same two = cc is
  apart q name false true (Some r) other ea eb fa fb k is same two =
      above r.ours (from_two q r fa) (same ∙ sym (same_Some r.ours k is))
  apart q name false false (Some r) None ea eb fa fb k is same two =
      not_used q r fa (same_Some r.ours k is ∙ sym same)
  apart q name false false (Some r) (Some s) ea eb fa fb k is same two =
      two (numbered.ours q name r s fa fb (same_Some r.ours k is ∙ sym same))

  pub told_apart : (q name : List ℕ) (k : ℕ) → q ≢ name → token_out known q ≡ Some k
      → unwrap_or (token_out known name) (smallest_free known) ≡ k → ⊥
  told_apart q name k two is same = apart q name (is_itself known q) (is_itself known name)
      (row_of known q) (row_of known name) refl refl refl refl k is same two

  -- of a known server it is its number
  pub known_number : (name : List ℕ) → is_known known name ≡ true
      → token_out known name ≡ Some (unwrap_or (token_out known name) (smallest_free known))
  known_number name is = by (is_itself known name) (row_of known name) is
    where
      by : (b : Bool) (o : Option ServerRow) → (b || is_some o) ≡ true
          → number_of b o ≡ Some (told known b o)
      by true o there = refl
      by false (Some r) there = refl
      by false None there = cc there

  -- and of another the smallest free one
  pub new_number : (name : List ℕ) → is_known known name ≡ false
      → unwrap_or (token_out known name) (smallest_free known) ≡ smallest_free known
  new_number name is = by (is_itself known name) (row_of known name) is
    where
      by : (b : Bool) (o : Option ServerRow) → (b || is_some o) ≡ false
          → told known b o ≡ smallest_free known
      by true o there = cc there
      by false (Some r) there = cc there
      by false None there = refl

pub none_found : {X : Type 0} (p : X → Bool) (xs : List X) → list_any p xs ≡ false
    → find p xs ≡ None
none_found p [] none = refl
none_found p (x ∷ xs) none =
    let parts = or_parts (p x) (list_any p xs) none in
    ap (λ b. cond b (Some x) (find p xs)) parts.0 ∙ none_found p xs parts.1
