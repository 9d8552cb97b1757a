-- What the two tables of users answer, by their heads and by who sits where.
use Rattle.std.proofs.Common.{◌≡◌, ◌≢◌, ℕ, false, List, map, length, refl, sym, ◌∙◌, ap, subst}
use Rattle.std.proofs.Common.{Option, Some, None, is_some, option_map}
use Rattle.std.proofs.lemmas.List.{length-map}
use Rattle.std.specs.FinMap.{keys, values}
use Rattle.std.specs.Option.{option_and_then, option_map_or}
use Rattle.std.specs.Global.{Box}
use Rattle.irc_names.specs.Lemmas.PlainFacts.{none_if_not_some}
use Rattle.slab.specs.Slab.{Slab}
use Rattle.irc_names.specs.Fold.{key}
use Rattle.irc_names.specs.Tables.{Table, row, each}
use Rattle.irc_names.specs.TableLaws.{row-each, each-alike, values-each}
use Rattle.irc_users.specs.declared.user.User.{User}
use Rattle.irc_users.specs.declared.users.Head.{Head}
use Rattle.irc_users.specs.UserTable.{NumberedUsers, IsNumbered, HasNumber}
use Rattle.irc_users.specs.Rosters.{head, users_by, numbers_by, users_in, numbered, nobody, sitting}
use Rattle.irc_users.specs.Rosters.{sitter, IsSeating, IsRoster}
use Rattle.irc_users.proofs.Heads.{counted}
use Rattle.irc_users.proofs.Seatings.{sitter_there, folds_one}

module _ (sits : ℕ → Option User) (heads : Table Head) where
  pub user_row : (fold : List ℕ) (h : Head) → row heads fold ≡ Some h
      → row (users_by sits heads) fold ≡ sits h.number
  user_row fold h is = row-each (λ (k : Head). sits k.number) heads fold
      ∙ ap (option_and_then (λ (k : Head). sits k.number)) is

  pub no_user : (fold : List ℕ) → row heads fold ≡ None → row (users_by sits heads) fold ≡ None
  no_user fold none = row-each (λ (k : Head). sits k.number) heads fold
      ∙ ap (option_and_then (λ (k : Head). sits k.number)) none

pub number_row : (heads : Table Head) (fold : List ℕ) (h : Head) → row heads fold ≡ Some h
    → row (numbers_by heads) fold ≡ Some h.number
number_row heads fold h is = row-each (λ (k : Head). Some k.number) heads fold
    ∙ ap (option_and_then (λ (k : Head). Some k.number)) is

pub no_number : (heads : Table Head) (fold : List ℕ) → row heads fold ≡ None
    → row (numbers_by heads) fold ≡ None
no_number heads fold none = row-each (λ (k : Head). Some k.number) heads fold
    ∙ ap (option_and_then (λ (k : Head). Some k.number)) none

-- whose number it is
pub whose : (heads : Table Head) (fold : List ℕ) (n : ℕ) → row (numbers_by heads) fold ≡ Some n
    → (h : Head) × (row heads fold ≡ Some h) × (h.number ≡ n)
whose heads fold n is = by_row (row heads fold) refl
  where
    by_row : (o : Option Head) → row heads fold ≡ o → (h : Head) × (row heads fold ≡ Some h)
        × (h.number ≡ n)
    by_row None none = absurd (let e : None ≡ Some n = sym (no_number heads fold none) ∙ is in cc)
    by_row (Some h) there = (
      h,
      there,
      (let e : Some h.number ≡ Some n = sym (number_row heads fold h there) ∙ is in cc),
    )

module _ (sits : ℕ → Option User) (heads : Table Head) (seating : IsSeating sits heads) where
  known_by : (fold : List ℕ) (o : Option Head) → row heads fold ≡ o
      → is_some (row (users_by sits heads) fold) ≡ is_some o
  known_by fold None none = ap is_some (no_user sits heads fold none)
  known_by fold (Some h) there = ap is_some (user_row sits heads fold h there
      ∙ (sitter_there sits heads seating fold h there).1)

  -- a fold has a user just where it has a head
  pub known : (fold : List ℕ) → is_some (row (users_by sits heads) fold) ≡ is_some (row heads fold)
  known fold = known_by fold (row heads fold) refl

  numbered_by : (fold : List ℕ) (o : Option Head) → row heads fold ≡ o
      → is_some (row (numbers_by heads) fold) ≡ is_some o
  numbered_by fold None none = ap is_some (no_number heads fold none)
  numbered_by fold (Some h) there = ap is_some (number_row heads fold h there)

  pub are_numbered : IsNumbered (record { users = users_by sits heads; numbers = numbers_by heads })
  are_numbered = record {
    each = λ fold. numbered_by fold (row heads fold) refl ∙ sym (known fold);
    apart = λ one other n is also.
        let w = whose heads one n is in
        let v = whose heads other n also in
        folds_one sits heads seating one other w.0 v.0 w.1 v.1 (w.2 ∙ sym v.2);
  }

  none_sits : (n : ℕ) → ((fold : List ℕ) → row (numbers_by heads) fold ≢ Some n) → (o : Option User)
      → sits n ≡ o → o ≡ None
  none_sits n unheld None at = refl
  none_sits n unheld (Some user) at = absurd (unheld (key user.nick)
      (number_row heads (key user.nick) (head n user) (seating.found n user at)))

  -- who sits in a seat has its number
  pub who_sits : (n : ℕ)
      → HasNumber (record { users = users_by sits heads; numbers = numbers_by heads }) n (sits n)
  who_sits n = record {
    theirs = λ fold is. let w =
        whose heads fold n is in ap sits (sym w.2) ∙ sym (user_row sits heads fold w.0 w.1);
    none = λ nobody. none_sits n nobody (sits n) refl;
  }

  -- what a head tells is told of the user
  pub told_by : {B : Type 0} (told : Head → B) (said : User → B)
      → ((m : ℕ) (user : User) → told (head m user) ≡ said user) → (fold : List ℕ) (h : Head)
      → row heads fold ≡ Some h → Some (told h) ≡ option_map said (row (users_by sits heads) fold)
  told_by told said same fold h there =
      let s = sitter_there sits heads seating fold h there in
      ap (λ k. Some (told k)) (sym s.2) ∙ ap Some (same h.number s.0)
      ∙ ap (option_map said) (sym (user_row sits heads fold h there ∙ s.1))

-- ---- in folded order

module _ (seats : Slab (Box User)) (heads : Table Head) (roster : IsRoster seats heads) where
  sits_so : (fold : List ℕ) (h : Head) → row heads fold ≡ Some h
      → sitting seats h.number ≡ Some (sitter seats h)
  sits_so fold h there = let s = sitter_there (sitting seats) heads roster fold h there in
      s.1 ∙ ap (λ o. Some (option_map_or (λ (user : User). user) o nobody)) (sym s.1)

  total : users_in seats heads ≡ each (λ h. Some (sitter seats h)) heads
  total =
      each-alike (λ (h : Head). sitting seats h.number) (λ h. Some (sitter seats h)) heads sits_so

  pub values-users : values (users_in seats heads) ≡ map (sitter seats) (values heads)
  values-users = ap values total ∙ values-each (sitter seats) heads

  pub length-users : length (keys heads) ≡ length (keys (users_in seats heads))
  length-users =
      counted heads ∙ sym (length-map (values heads) (sitter seats)) ∙ ap length (sym values-users)
      ∙ sym (counted (users_in seats heads))

-- ---- as the view of the code's fields has it

module _ (seats : Slab (Box User)) (heads : Table Head) (users : NumberedUsers)
    (view : numbered seats heads ≡ users) (roster : IsRoster seats heads) where
  pub held_by : (n : ℕ) (found : Option User) → sitting seats n ≡ found → HasNumber users n found
  held_by n found sits = subst (λ o. HasNumber users n o) sits
      (subst (λ t. HasNumber t n (sitting seats n)) view (who_sits (sitting seats) heads roster n))

  pub no_one : (fold : List ℕ) → row heads fold ≡ None → row users.users fold ≡ None
  no_one fold none = ap (λ (n : NumberedUsers). row n.users fold) (sym view)
      ∙ no_user (sitting seats) heads fold none

  pub his_number : (fold : List ℕ) (h : Head) → row heads fold ≡ Some h
      → row users.numbers fold ≡ Some h.number
  his_number fold h there =
      ap (λ (n : NumberedUsers). row n.numbers fold) (sym view) ∙ number_row heads fold h there

  pub no_number_there : (fold : List ℕ) → row heads fold ≡ None → row users.numbers fold ≡ None
  no_number_there fold none =
      ap (λ (n : NumberedUsers). row n.numbers fold) (sym view) ∙ no_number heads fold none

  pub user_by_head : (fold : List ℕ) → is_some (row users.users fold) ≡ is_some (row heads fold)
  user_by_head fold = ap (λ (n : NumberedUsers). is_some (row n.users fold)) (sym view)
      ∙ known (sitting seats) heads roster fold

  -- a nickname that no head is found under is free, and none is found under a free one
  pub free_of_heads : (fold : List ℕ) → is_some (row heads fold) ≡ false
      → row users.users fold ≡ None
  free_of_heads fold none = none_if_not_some (row users.users fold) (user_by_head fold ∙ none)

  pub no_head : (fold : List ℕ) → row users.users fold ≡ None → row heads fold ≡ None
  no_head fold none = none_if_not_some (row heads fold) (sym (user_by_head fold) ∙ ap is_some none)
