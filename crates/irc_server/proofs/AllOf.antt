-- What holds of each element of a list holds of all that is made of them.
use Rattle.std.proofs.Common.{◌≡◌, ℕ, Bool, true, false, cond, is_some, Option, Some}
use Rattle.std.proofs.Common.{None, List, [], ◌∷◌, ◌++◌, refl, sym, ◌∙◌, ap, map}
use Rattle.std.proofs.Common.{filter_map, if◌then◌else◌}
use Rattle.std.proofs.lemmas.List.Folds.{list_all-map}
use Rattle.std.specs.FinMap.{FinMap, contains_key-keys, entries, find, get, keys}
use Rattle.std.specs.List.{AllByRecursion, cons_option, flat_map, list_all, list_any}
use Rattle.std.specs.Ordering.{nat_cmp}
use Rattle.std.proofs.lemmas.Bool.{or_right, or_left, and_from}
use Rattle.std.specs.Cmp.{second_so, first_so}
use Rattle.irc_routes.specs.Known.{link_key}
use Rattle.irc_stage.specs.Lemmas.Numbers.{one_number, same_number, same_number-refl}

-- ---- lists

pub all-one : {X : Type 0} (p : X → Bool) (x : X) → p x ≡ true → list_all p (x ∷ []) ≡ true
all-one p x is = and_from (p x) true is refl

pub all-append : {X : Type 0} (p : X → Bool) (a b : List X) → list_all p a ≡ true
    → list_all p b ≡ true → list_all p (a ++ b) ≡ true
all-append p [] b one other = other
all-append p (x ∷ a) b one other =
    and_from (p x) (list_all p (a ++ b)) (first_so (p x) (list_all p a) one)
    (all-append p a b (second_so (p x) (list_all p a) one) other)

pub all-map : {X Y : Type 0} (p : X → Bool) (q : Y → Bool) (h : X → Y) → ((x : X) → p x ≡ true
    → q (h x) ≡ true) → (xs : List X) → list_all p xs ≡ true → list_all q (map h xs) ≡ true
all-map p q h gives [] all = refl
all-map p q h gives (x ∷ xs) all =
    and_from (q (h x)) (list_all q (map h xs)) (gives x (first_so (p x) (list_all p xs) all))
    (all-map p q h gives xs (second_so (p x) (list_all p xs) all))

pub all-each : {X Y : Type 0} (q : Y → Bool) (h : X → Y) → ((x : X) → q (h x) ≡ true)
    → (xs : List X) → list_all q (map h xs) ≡ true
all-each q h gives [] = refl
all-each q h gives (x ∷ xs) =
    and_from (q (h x)) (list_all q (map h xs)) (gives x) (all-each q h gives xs)

pub all-flat : {X Y : Type 0} (q : Y → Bool) (f : X → List Y) → ((x : X) → list_all q (f x) ≡ true)
    → (xs : List X) → list_all q (flat_map f xs) ≡ true
all-flat q f gives [] = refl
all-flat q f gives (x ∷ xs) = all-append q (f x) (flat_map f xs) (gives x) (all-flat q f gives xs)

pub all-weaker : {X : Type 0} (p q : X → Bool) → ((x : X) → p x ≡ true → q x ≡ true) → (xs : List X)
    → list_all p xs ≡ true → list_all q xs ≡ true
all-weaker p q gives [] all = refl
all-weaker p q gives (x ∷ xs) all =
    and_from (q x) (list_all q xs) (gives x (first_so (p x) (list_all p xs) all))
    (all-weaker p q gives xs (second_so (p x) (list_all p xs) all))

-- what the test tells of each
pub all-told : {X : Type 0} (p : X → Bool) (P : X → Type 0) → ((x : X) → p x ≡ true → P x)
    → (xs : List X) → list_all p xs ≡ true → AllByRecursion P xs
all-told p P tells [] all = tt
all-told p P tells (x ∷ xs) all = (
  tells x (first_so (p x) (list_all p xs) all),
  all-told p P tells xs (second_so (p x) (list_all p xs) all),
)

-- of those that pass a test, something is made
pub all-picked : {X Y : Type 0} (p : X → Bool) (q : Y → Bool) (b : X → Bool) (g : X → Y)
    → ((x : X) → p x ≡ true → q (g x) ≡ true) → (xs : List X) → list_all p xs ≡ true
    → list_all q (filter_map (λ (x : X). if b x then Some (g x) else None) xs) ≡ true
all-picked p q b g gives [] all = refl
all-picked {X} p q b g gives (x ∷ xs) all =
    by (b x) (all-picked p q b g gives xs (second_so (p x) (list_all p xs) all))
  where
    by : (c : Bool) → list_all q (filter_map (λ (y : X). if b y then Some (g y) else None) xs)
        ≡ true → list_all q (cons_option (if c then Some (g x) else None)
        (filter_map (λ (y : X). if b y then Some (g y) else None) xs)) ≡ true
    by true later =
        and_from (q (g x))
        (list_all q (filter_map (λ (y : X). if b y then Some (g y) else None) xs))
        (gives x (first_so (p x) (list_all p xs) all)) later
    by false later = later

pub all-gained : {X Y : Type 0} (q : Y → Bool) (h : X → Option Y) → ((x : X) (y : Y) → h x ≡ Some y
    → q y ≡ true) → (xs : List X) → list_all q (filter_map h xs) ≡ true
all-gained q h gives [] = refl
all-gained {X} {Y} q h gives (x ∷ xs) = by (h x) refl (all-gained q h gives xs)
  where
    by : (o : Option Y) → h x ≡ o → list_all q (filter_map h xs) ≡ true
        → list_all q (cons_option o (filter_map h xs)) ≡ true
    by None is later = later
    by (Some y) is later = and_from (q y) (list_all q (filter_map h xs)) (gives x y is) later

-- ---- maps by number

all_listed : (p : ℕ → Bool) (xs : List ℕ)
    → ((q : ℕ) → list_any (same_number q) xs ≡ true → p q ≡ true) → list_all p xs ≡ true
all_listed p [] at = refl
all_listed p (x ∷ xs) at =
    and_from (p x) (list_all p xs)
    (at x (or_left (same_number x x) (list_any (same_number x) xs) (same_number-refl x)))
    (all_listed p xs
    (λ q is. at q (or_right (same_number q x) (list_any (same_number q) xs) is)))

pub all_keys : {X : Type 0} (m : FinMap nat_cmp X) (p : ℕ → Bool)
    → ((q : ℕ) → is_some (get m q) ≡ true → p q ≡ true) → list_all p (keys m) ≡ true
all_keys m p at = all_listed p (keys m) (λ q is. at q (contains_key-keys m q ∙ is))

pub all_entries : {X : Type 0} (m : FinMap nat_cmp X) (p : ℕ → Bool) → ((q : ℕ)
    → is_some (get m q) ≡ true → p q ≡ true) → list_all (λ (e : ℕ × X). p e.0) (entries m) ≡ true
all_entries {X} m p at = sym (list_all-map p (λ (e : ℕ × X). e.0) (entries m)) ∙ all_keys m p at

-- what holds of each of these numbers holds of each that is found among them
pub all_found : (p : ℕ → Bool) (q : ℕ) (numbers : List ℕ) → list_all p numbers ≡ true
    → is_some (find nat_cmp q (map link_key numbers)) ≡ true → p q ≡ true
all_found p q [] all is = absurd (cc is)
all_found p q (number ∷ numbers) all is = by (same_number q number) refl
    (all_found p q numbers (second_so (p number) (list_all p numbers) all)) is
  where
    by : (b : Bool) → same_number q number ≡ b
        → (is_some (find nat_cmp q (map link_key numbers)) ≡ true → p q ≡ true)
        → is_some (cond b (Some tt) (find nat_cmp q (map link_key numbers))) ≡ true → p q ≡ true
    by true one later is =
        ap p (one_number q number one) ∙ first_so (p number) (list_all p numbers) all
    by false two later is = later is
