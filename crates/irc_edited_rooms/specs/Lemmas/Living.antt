-- A channel is there while a nickname is a member: for more members also, and whatever nicknames
-- change places.
use Rattle.std.proofs.Common.{◌≡◌, Bool, true, false, ◌||◌, Option, List, [], ◌∷◌}
use Rattle.std.proofs.Common.{refl, sym, ap, ◌∙◌, is_some, true≢false}
use Rattle.std.proofs.Math.Bool.{false≢true}
use Rattle.irc_names.specs.TableLaws.{same_fold, one_fold, same_fold-refl}
use Rattle.irc_edited_rooms.specs.Writes.{Row, blank_row}
use Rattle.irc_edited_rooms.specs.Documents.{Nick, is_name, lives, pick, row_while, swapped}

-- ---- two nicknames

pub two_folds : (one other : Nick) → same_fold one other ≡ same_fold other one
two_folds one other = by (same_fold one other) (same_fold other one) refl refl
  where
    by : (b c : Bool) → same_fold one other ≡ b → same_fold other one ≡ c → b ≡ c
    by true true p q = refl
    by false false p q = refl
    by true false p q = absurd (true≢false (sym (same_fold-refl other)
        ∙ ap (same_fold other) (sym (one_fold one other p)) ∙ q))
    by false true p q = absurd (false≢true (sym p
        ∙ ap (same_fold one) (one_fold other one q) ∙ same_fold-refl one))

pub either : (a b : Bool) → (a ≡ true → b ≡ true) → (b ≡ true → a ≡ true) → a ≡ b
either true b there back = sym (there refl)
either false true there back = back refl
either false false there back = refl

or_right : (a b : Bool) → b ≡ true → (a || b) ≡ true
or_right true b is = refl
or_right false b is = is

-- ---- some member

pub record Somebody {X : Type 0} (names : List Nick) (members : Nick → Option X) : Type 0 where
  pub nick : Nick
  pub named : is_name names nick ≡ true
  pub there : is_some (members nick) ≡ true

somebody_else : {X : Type 0} (name : Nick) (names : List Nick) (members : Nick → Option X)
    → Somebody names members → Somebody (name ∷ names) members
somebody_else name names members one = record {
  nick = one.nick;
  named = or_right (same_fold one.nick name) (is_name names one.nick) one.named;
  there = one.there;
}

first_or_else : {X : Type 0} (name : Nick) (names : List Nick) (members : Nick → Option X)
    (b : Bool) → is_some (members name) ≡ b → (b || lives names members) ≡ true
    → (lives names members ≡ true → Somebody names members) → Somebody (name ∷ names) members
first_or_else name names members true is there more = record {
  nick = name;
  named = ap (λ b. b || is_name names name) (same_fold-refl name);
  there = is;
}
first_or_else name names members false is there more =
    somebody_else name names members (more there)

pub somebody : {X : Type 0} (names : List Nick) (members : Nick → Option X)
    → lives names members ≡ true → Somebody names members
somebody [] members there = absurd (false≢true there)
somebody (name ∷ names) members there =
    first_or_else name names members (is_some (members name)) refl there
    (somebody names members)

lives_by_one : {X : Type 0} (name : Nick) (names : List Nick) (members : Nick → Option X)
    (nick : Nick) (b : Bool) → same_fold nick name ≡ b → (b || is_name names nick) ≡ true
    → is_some (members nick) ≡ true → (is_name names nick ≡ true → lives names members ≡ true)
    → lives (name ∷ names) members ≡ true
lives_by_one name names members nick true is named there more =
    ap (λ b. b || lives names members)
    (ap (λ it. is_some (members it)) (sym (one_fold nick name is)) ∙ there)
lives_by_one name names members nick false is named there more =
    or_right (is_some (members name)) (lives names members) (more named)

pub living : {X : Type 0} (names : List Nick) (members : Nick → Option X) (nick : Nick)
    → is_name names nick ≡ true → is_some (members nick) ≡ true → lives names members ≡ true
living [] members nick named there = absurd (false≢true named)
living (name ∷ names) members nick named there =
    lives_by_one name names members nick (same_fold nick name) refl named there
    (λ more. living names members nick more there)

pub more_live : {X Y : Type 0} (names : List Nick) (few : Nick → Option X) (more : Nick → Option Y)
    → ((nick : Nick) → is_some (few nick) ≡ true → is_some (more nick) ≡ true)
    → lives names few ≡ true → lives names more ≡ true
more_live names few more each there =
    let one = somebody names few there in
    living names more one.nick one.named (each one.nick one.there)

-- ---- nicknames that change places

pub picked_name : (names : List Nick) (b c : Bool) (old new nick : Nick) → is_name names old ≡ true
    → is_name names new ≡ true → is_name names nick ≡ true
    → is_name names (pick b c old new nick) ≡ true
picked_name names true c old new nick has_old has_new has = has_old
picked_name names false true old new nick has_old has_new has = has_new
picked_name names false false old new nick has_old has_new has = has

twice : (old new nick : Nick) → swapped old new (swapped old new nick) ≡ nick
twice old new nick = by (same_fold nick new) (same_fold nick old) refl refl
  where
    at_old : (b : Bool) → same_fold old new ≡ b
        → pick b (same_fold old old) old new old ≡ new
    at_old true is = one_fold old new is
    at_old false is = ap (λ c. pick false c old new old) (same_fold-refl old)

    by : (b c : Bool) → same_fold nick new ≡ b → same_fold nick old ≡ c
        → swapped old new (pick b c old new nick) ≡ nick
    by true c is_new is = at_old (same_fold old new) refl ∙ sym (one_fold nick new is_new)
    by false true other is_old =
        ap (λ b. pick b (same_fold new old) old new new) (same_fold-refl new)
        ∙ sym (one_fold nick old is_old)
    by false false other elsewhere =
        ap (λ b. pick b (same_fold nick old) old new nick) other
        ∙ ap (λ c. pick false c old new nick) elsewhere

pub swapped_live : {X : Type 0} (names : List Nick) (members : Nick → Option X) (old new : Nick)
    → is_name names old ≡ true → is_name names new ≡ true
    → lives names (λ nick. members (swapped old new nick)) ≡ lives names members
swapped_live names members old new has_old has_new =
    either (lives names (λ nick. members (swapped old new nick))) (lives names members)
    (λ there. let one = somebody names (λ nick. members (swapped old new nick)) there in
    living names members (swapped old new one.nick)
    (picked_name names (same_fold one.nick new) (same_fold one.nick old) old new one.nick has_old
    has_new one.named) one.there)
    (λ there. let one = somebody names members there in
    living names (λ nick. members (swapped old new nick)) (swapped old new one.nick)
    (picked_name names (same_fold one.nick new) (same_fold one.nick old) old new one.nick has_old
    has_new one.named)
    (ap (λ nick. is_some (members nick)) (twice old new one.nick) ∙ one.there))

-- ---- a row while a channel is there

pub twice_while : {Place : Type 0} (few more : Bool) (row : Row Place)
    → (few ≡ true → more ≡ true) → row_while few (row_while more row) ≡ row_while few row
twice_while false more row then = refl
twice_while true true row then = refl
twice_while true false row then = absurd (false≢true (then refl))

pub blank_while : {Place : Type 0} (there : Bool) (row : Row Place)
    → (there ≡ false → row ≡ blank_row) → row_while there row ≡ row
blank_while true row blank = refl
blank_while false row blank = sym (blank refl)
