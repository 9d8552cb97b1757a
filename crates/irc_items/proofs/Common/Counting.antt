-- Sums over the servers of a network, and how many servers are in a part.
use Rattle.std.proofs.Common.{◌≡◌, ◌≢◌, ℕ, ◌+◌, ◌*◌, ◌-◌, ◌<◌, ◌≤◌, Bool, true, false, cond, not}
use Rattle.std.proofs.Common.{◌&&◌, ◌||◌, is_some, Option, Some, None, List, [], ◌∷◌, length, map}
use Rattle.std.proofs.Common.{count_by, sum_by, filter_map, refl, sym, ap, subst, ◌∙◌, arith}
use Rattle.std.proofs.Common.{option_map, if◌then◌else◌}
use Rattle.std.proofs.lemmas.List.{length-map}
use Rattle.std.proofs.lemmas.List.Sums.{sum_by-cons}
use Rattle.std.specs.List.{cons_option, list_any}
use Rattle.std.specs.Cmp.Lexicographic.{nat_list_cmp_total}
use Rattle.std.specs.FinMap.{entries, keys, len, len-empty, len-entries, len-insert, len-remove}
use Rattle.std.proofs.lemmas.Option.{same_Some}
use Rattle.irc_names.specs.Tables.{fold_cmp, row, put, tabulate}
use Rattle.irc_names.specs.TableLaws.{same_fold, one_fold, row-tabulate}
use Rattle.irc_relay.specs.Distances.{IsAmong}
use Rattle.irc_relay.specs.Links.{Name, same, Link, joined}
use Rattle.irc_relay.specs.Lemmas.TellingNames.{Telling, alike, unlike, tell, same_when}
use Rattle.irc_stage.specs.View.{View}
use Rattle.irc_world.specs.World.{Setting, servers_where}
use Rattle.irc_world.specs.Bounds.{part_size}
use Rattle.irc_network.specs.Network.{Network, Node}
use Rattle.irc_items.specs.SetUp.{named_at, setting_at, setting_now, settings_of, IsSetUp}

abbrev number : Bool → ℕ
number b = cond b 1 0

count-cons : (test : Name → Bool) (x : Name) (xs : List Name)
    → count_by test (x ∷ xs) ≡ number (test x) + count_by test xs
count-cons test x xs = sum_by-cons (λ u. number (test u)) x xs

-- ---- names in a list

is_first : (x t : Name) (xs : List Name) → x ≡ t → IsAmong (x ∷ xs) t
is_first x t xs e = ap (λ b. b || list_any (same t) xs) (same_when t x (sym e))

is_later : (x t : Name) (xs : List Name) → IsAmong xs t → IsAmong (x ∷ xs) t
is_later x t xs among = by (same t x) among
  where
    by : (b : Bool) → list_any (same t) xs ≡ true → (b || list_any (same t) xs) ≡ true
    by true there = refl
    by false there = there

-- ---- sums

-- The sum over servers, of which each of one side has at most n and the others none.
pub sum_most : (names : List Name) (is_one : Name → Bool) (n : ℕ) (count : Name → ℕ)
    → ((t : Name) → IsAmong names t → is_one t ≡ true → count t ≤ n) → ((t : Name) → IsAmong names t
    → is_one t ≡ false → count t ≡ 0) → sum_by count names ≤ count_by is_one names * n
sum_most [] is_one n count few none = omega arith
sum_most (x ∷ xs) is_one n count few none =
    rw (sum_by-cons count x xs, count-cons is_one x xs)
    (both (number (is_one x)) (count x) (sum_by count xs) (count_by is_one xs) (by (is_one x) refl)
    (sum_most xs is_one n count (λ t among. few t (is_later x t xs among))
    (λ t among. none t (is_later x t xs among))))
  where
    by : (b : Bool) → is_one x ≡ b → count x ≤ number b * n
    by true is = let most = few x (is_first x x xs refl) is in omega arith
    by false is = let nothing = none x (is_first x x xs refl) is in omega arith

    both : (a c sum k : ℕ) → c ≤ a * n → sum ≤ k * n → c + sum ≤ (a + k) * n
    both a c sum k one more = omega arith

-- ---- two sides

-- The sum over servers that are on one of two sides, or on none and have nothing.
pub two_sides : (names : List Name) (is_one is_other : Name → Bool) (count : Name → ℕ)
    → ((t : Name) → IsAmong names t → is_one t ≡ false → is_other t ≡ false → count t ≡ 0)
    → sum_by count names ≤ sum_by (λ t. if is_one t then count t else 0) names + sum_by
    (λ t. if is_other t then count t else 0) names
two_sides [] is_one is_other count none = omega arith
two_sides (x ∷ xs) is_one is_other count none =
    rw (
      sum_by-cons count x xs,
      sum_by-cons (λ t. if is_one t then count t else 0) x xs,
      sum_by-cons (λ t. if is_other t then count t else 0) x xs,
    )
    (both (count x) (cond (is_one x) (count x) 0) (cond (is_other x) (count x) 0) (sum_by count xs)
    (sum_by (λ t. if is_one t then count t else 0) xs)
    (sum_by (λ t. if is_other t then count t else 0) xs) (by (is_one x) (is_other x) refl refl)
    (two_sides xs is_one is_other count (λ t among. none t (is_later x t xs among))))
  where
    by : (b c : Bool) → is_one x ≡ b → is_other x ≡ c
        → count x ≤ cond b (count x) 0 + cond c (count x) 0
    by true true one other = omega arith
    by true false one other = omega arith
    by false true one other = omega arith
    by false false one other = let nothing = none x (is_first x x xs refl) one other in omega arith

    both : (a b c k m n : ℕ) → a ≤ b + c → k ≤ m + n → a + k ≤ (b + m) + (c + n)
    both a b c k m n here rest = omega arith

-- ---- one that has more

-- one server of a side, in the list once, has m at most, and each other of that side n
pub record HasMost (names : List Name) (is_one : Name → Bool) (h : Name) (m n : ℕ)
    (count : Name → ℕ) : Type 0 where
  pub there : is_one h ≡ true
  pub once : count_by (same h) names ≡ 1
  pub most : count h ≤ m
  pub others : (t : Name) → IsAmong names t → t ≢ h → is_one t ≡ true → count t ≤ n

abbrev pub but : Name → (Name → Bool) → Name → Bool
but h is_one t = is_one t && not (same h t)

-- such a server counts for itself
pub counted_but : (names : List Name) (is_one : Name → Bool) (h : Name) → is_one h ≡ true
    → count_by is_one names ≡ count_by (same h) names + count_by (but h is_one) names
counted_but [] is_one h there = refl
counted_but (x ∷ xs) is_one h there =
    rw (count-cons is_one x xs, count-cons (same h) x xs, count-cons (but h is_one) x xs)
    (both (number (is_one x)) (number (same h x)) (number (but h is_one x)) (count_by is_one xs)
    (count_by (same h) xs) (count_by (but h is_one) xs)
    (by (tell h x)) (counted_but xs is_one h there))
  where
    plain : (b : Bool) → number b ≡ number false + number (b && not false)
    plain true = refl
    plain false = refl

    by : Telling h x → number (is_one x) ≡ number (same h x) + number (but h is_one x)
    by (alike is e) =
        rw (
          ap (λ b. number b) is,
          ap (λ b. number (is_one x && not b)) is,
          sym (ap is_one e)
              ∙ there,
        ) refl
    by (unlike is _) = rw (is) (plain (is_one x))

    both : (a b c k m n : ℕ) → a ≡ b + c → k ≡ m + n → a + k ≡ (b + m) + (c + n)
    both a b c k m n here rest = omega arith

sum_but : (names : List Name) (is_one : Name → Bool) (h : Name) (m n : ℕ) (count : Name → ℕ)
    → count h ≤ m → ((t : Name) → IsAmong names t → t ≢ h → is_one t ≡ true → count t ≤ n)
    → ((t : Name) → IsAmong names t → t ≢ h → is_one t ≡ false → count t ≡ 0)
    → sum_by count names ≤ count_by (same h) names * m + count_by (but h is_one) names * n
sum_but [] is_one h m n count most few none = omega arith
sum_but (x ∷ xs) is_one h m n count most few none =
    rw (sum_by-cons count x xs, count-cons (same h) x xs, count-cons (but h is_one) x xs)
    (both (number (same h x)) (number (but h is_one x)) (count x) (sum_by count xs)
    (count_by (same h) xs) (count_by (but h is_one) xs) (by (tell h x))
    (sum_but xs is_one h m n count most (λ t among. few t (is_later x t xs among))
    (λ t among. none t (is_later x t xs among))))
  where
    here : (b : Bool) → is_one x ≡ b → x ≢ h
        → count x ≤ number false * m + number (b && not false) * n
    here true is apart = let one = few x (is_first x x xs refl) apart is in omega arith
    here false is apart = let nothing = none x (is_first x x xs refl) apart is in omega arith

    at_it : (b : Bool) → count x ≤ m → count x ≤ number true * m + number (b && not true) * n
    at_it true one = omega arith
    at_it false one = omega arith

    by : Telling h x → count x ≤ number (same h x) * m + number (but h is_one x) * n
    by (alike is e) = subst (λ b. count x ≤ number b * m + number (is_one x && not b) * n) (sym is)
        (at_it (is_one x) (subst (λ v. count v ≤ m) e most))
    by (unlike is apart) =
        subst (λ b. count x ≤ number b * m + number (is_one x && not b) * n) (sym is)
        (here (is_one x) refl (λ e. apart (sym e)))

    both : (a b c sum k l : ℕ) → c ≤ a * m + b * n → sum ≤ k * m + l * n
        → c + sum ≤ (a + k) * m + (b + l) * n
    both a b c sum k l one more = omega arith

-- The sum over servers of one side, one of which has m at most and the others n, while those of no
-- side have none.
pub sum_most_but : (names : List Name) (is_one : Name → Bool) (h : Name) (m n : ℕ)
    (count : Name → ℕ) → HasMost names is_one h m n count → ((t : Name) → IsAmong names t
    → is_one t ≡ false → count t ≡ 0) → sum_by count names ≤ m + (count_by is_one names - 1) * n
sum_most_but names is_one h m n count has none =
    all (count_by is_one names) (count_by (same h) names) (count_by (but h is_one) names)
    (sum_by count names) (counted_but names is_one h has.there) has.once
    (sum_but names is_one h m n count has.most has.others (λ t among _. none t among))
  where
    all : (k c r sum : ℕ) → k ≡ c + r → c ≡ 1 → sum ≤ c * m + r * n → sum ≤ m + (k - 1) * n
    all k c r sum counted once few =
        let rest : k - 1 ≡ r = omega arith in
        let head : c * m ≡ m = rw once (omega arith) in
        rw rest (omega arith)

-- The sum over two sides, as the ends of a link see them.
pub sides_most : (names : List Name) (is_one is_other : Name → Bool) (g h : Name) (m n k l : ℕ)
    (count : Name → ℕ) → HasMost names is_one g m n count → HasMost names is_other h k l count
    → ((t : Name) → IsAmong names t → is_one t ≡ false → is_other t ≡ false → count t ≡ 0) → sum_by
    count names ≤ (m + (count_by is_one names - 1) * n) + (k + (count_by is_other names - 1) * l)
sides_most names is_one is_other g h m n k l count one other none =
    let both = two_sides names is_one is_other count none in
    let first = sum_most_but names is_one g m n (on_side is_one count) (of_side is_one g m n one)
    (off_side is_one) in
    let second = sum_most_but names is_other h k l (on_side is_other count)
    (of_side is_other h k l other) (off_side is_other) in
    omega arith
  where
    on_side : (Name → Bool) → (Name → ℕ) → Name → ℕ
    on_side test count t = if test t then count t else 0

    fewer : (b : Bool) (n most : ℕ) → n ≤ most → cond b n 0 ≤ most
    fewer true n most few = few
    fewer false n most few = omega arith

    of_side : (test : Name → Bool) (x : Name) (m n : ℕ) → HasMost names test x m n count
        → HasMost names test x m n (on_side test count)
    of_side test x m n has = record {
      there = has.there;
      once = has.once;
      most = fewer (test x) (count x) m has.most;
      others = λ t among apart is. fewer (test t) (count t) n (has.others t among apart is);
    }

    off_side : (test : Name → Bool) (t : Name) → IsAmong names t → test t ≡ false
        → on_side test count t ≡ 0
    off_side test t among is = ap (λ b. cond b (count t) 0) is

-- ---- how many servers pass a test

abbrev pub AreOnce : List Name → Type 0
AreOnce names = (t : Name) → IsAmong names t → count_by (same t) names ≡ 1

among_counts : (names : List Name) (t : Name) → IsAmong names t → 0 < count_by (same t) names
among_counts [] t among = absurd (cc among)
among_counts (x ∷ xs) t among =
    rw (count-cons (same t) x xs) (by (same t x) (among_counts xs t) among)
  where
    by : (b : Bool) → (IsAmong xs t → 0 < count_by (same t) xs) → (b || list_any (same t) xs) ≡ true
        → 0 < number b + count_by (same t) xs
    by true later there = omega arith
    by false later there = let more = later there in omega arith

once_later : (x : Name) (xs : List Name) → AreOnce (x ∷ xs) → AreOnce xs
once_later x xs once t among = by (same t x) (sym (count-cons (same t) x xs)
    ∙ once t (is_later x t xs among)) (among_counts xs t among)
  where
    by : (b : Bool) → number b + count_by (same t) xs ≡ 1 → 0 < count_by (same t) xs
        → count_by (same t) xs ≡ 1
    by true all more = absurd (let no_way : ⊥ = omega arith in no_way)
    by false all more = omega arith

not_again : (x : Name) (xs : List Name) → AreOnce (x ∷ xs) → list_any (same x) xs ≡ false
not_again x xs once = by (list_any (same x) xs) refl
  where
    all : number (same x x) + count_by (same x) xs ≡ 1
    all = sym (count-cons (same x) x xs) ∙ once x (is_first x x xs refl)

    by : (b : Bool) → list_any (same x) xs ≡ b → b ≡ false
    by true again =
        let more = among_counts xs x again in
        let first = ap (λ b. number b) (same_when x x refl) in
        absurd (let no_way : ⊥ = omega (arith, all) in no_way)
    by false none = refl

abbrev passing : (Name → Bool) → Name → Option (Unit {0})
passing test server = if test server then Some (tt {0}) else None

no_row : (test : Name → Bool) (x : Name) (names : List Name) → list_any (same x) names ≡ false
    → row (tabulate names (passing test)) x ≡ None
no_row test x names none =
    row-tabulate names (passing test) x ∙ ap (λ b. cond b (passing test x) None) (folds names none)
  where
    folds : (xs : List Name) → list_any (same x) xs ≡ false → list_any (same_fold x) xs ≡ false
    folds [] off = refl
    folds (y ∷ ys) off = by (tell x y) (folds ys)
      where
        two : (b : Bool) → same_fold x y ≡ b → x ≢ y → b ≡ false
        two true one apart = absurd (apart (one_fold x y one))
        two false one apart = refl

        by : Telling x y → (list_any (same x) ys ≡ false → list_any (same_fold x) ys ≡ false)
            → (same_fold x y || list_any (same_fold x) ys) ≡ false
        by (alike is e) later = absurd (cc (sym (ap (λ b. b || list_any (same x) ys) is) ∙ off))
        by (unlike is apart) later =
            ap (λ b. b || list_any (same_fold x) ys) (two (same_fold x y) refl apart)
            ∙ later (sym (ap (λ b. b || list_any (same x) ys) is) ∙ off)

rows_counted : (test : Name → Bool) (names : List Name) → AreOnce names
    → len (tabulate names (passing test)) ≡ count_by test names
rows_counted test [] once = len-empty fold_cmp (Unit {0})
rows_counted test (x ∷ xs) once =
    by (test x) (no_row test x xs (not_again x xs once))
    ∙ ap (λ n. number (test x) + n) (rows_counted test xs (once_later x xs once))
    ∙ sym (count-cons test x xs)
  where
    by : (b : Bool) → row (tabulate xs (passing test)) x ≡ None
        → len (put (tabulate xs (passing test)) x (if b then Some (tt {0}) else None))
        ≡ number b + len (tabulate xs (passing test))
    by true new =
        len-insert nat_list_cmp_total (tabulate xs (passing test)) x (tt {0})
        ∙ ap (λ o. cond (is_some o) (len (tabulate xs (passing test)))
        (len (tabulate xs (passing test)) + 1)) new
        ∙ omega arith
    by false new =
        len-remove nat_list_cmp_total (tabulate xs (passing test)) x
        ∙ ap (λ o. cond (is_some o) (len (tabulate xs (passing test)) - 1)
        (len (tabulate xs (passing test)))) new
        ∙ omega arith

pub part_is_counted : (settings : List Setting) (names : List Name)
    → map (λ (x : Setting). x.name) settings ≡ names → AreOnce names → (test : Name → Bool)
    → length (servers_where settings test) ≡ count_by test names
part_is_counted settings names named once test =
    ap (λ folds. length (keys (tabulate folds (passing test)))) named
    ∙ length-map (entries (tabulate names (passing test))) (λ (e : List ℕ × Unit {0}). e.0)
    ∙ sym (len-entries (tabulate names (passing test)))
    ∙ rows_counted test names once

-- ---- the servers of a network

abbrev first_of : List (Option Name) → Option Name
first_of [] = None
first_of (first ∷ rest) = first

abbrev rest_of : List (Option Name) → List (Option Name)
rest_of [] = []
rest_of (first ∷ rest) = rest

names_set : (nodes : List Node) (names : List Name) → map named_at nodes ≡ map Some names
    → map (λ (x : Setting). x.name) (filter_map setting_at nodes) ≡ names
names_set [] [] named = refl
names_set [] (name ∷ names) named = absurd (cc named)
names_set (node ∷ nodes) [] named = absurd (cc named)
names_set (node ∷ nodes) (name ∷ names) named =
    by node.server (ap first_of named) (names_set nodes names (ap rest_of named))
  where
    by : (o : Option View) → option_map (λ (view : View). view.routes.name) o ≡ Some name
        → map (λ (x : Setting). x.name) (filter_map setting_at nodes) ≡ names
        → map (λ (x : Setting). x.name)
        (cons_option (option_map setting_now o) (filter_map setting_at nodes)) ≡ name ∷ names
    by None none later = absurd (cc none)
    by (Some view) is later =
        ap (λ first. first ∷ map (λ (x : Setting). x.name) (filter_map setting_at nodes))
        (same_Some view.routes.name name is)
        ∙ ap (λ rest. name ∷ rest) later

pub settings_named : (net : Network) → IsSetUp net
    → map (λ (x : Setting). x.name) (settings_of net) ≡ net.names
settings_named net set_up = names_set net.nodes net.names set_up.named

-- A part has as many servers as names are joined to one of them.
pub part_counted : (net : Network) → IsSetUp net → (links : List Link) (t : Name)
    → part_size (settings_of net) links t ≡ count_by (joined links t) net.names
part_counted net set_up links t = part_is_counted (settings_of net) net.names
    (settings_named net set_up) set_up.once (joined links t)
