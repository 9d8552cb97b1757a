-- A queue of numbers, and the marks of those that stand in it.
use Rattle.std.proofs.Common.{◌≡◌, ◌≢◌, ℕ, zero, suc, ◌+◌, ◌<◌, ◌≤◌, ◌==◌, Bool, true, false, not}
use Rattle.std.proofs.Common.{nat_eq, ◌||◌, cond, List, [], ◌∷◌, ◌++◌, length, get_or, set, take}
use Rattle.std.proofs.Common.{drop}
use Rattle.std.proofs.Common.{replicate, count_by, length-append, zero-add, inl, inr, refl, sym}
use Rattle.std.proofs.Common.{◌∙◌, ap, arith}
use Rattle.std.proofs.lemmas.Bool.{cases_eq, eqb-true, eq-eqb, or_parts}
use Rattle.std.proofs.lemmas.List.{get_or-set_same, get_or-set_other, get_or_past, get_or-replicate}
use Rattle.std.proofs.lemmas.List.{length-replicate, length-set, take_all, take-append-drop}
use Rattle.std.proofs.lemmas.List.Sums.{sum_by-cons, sum_by-append, sum_by-set, count_by-le-length}
use Rattle.irc_brakes.specs.Reading.{is_read_beside}
use Rattle.irc_turns.specs.Queues.{stands_in, queue_without, turned_queue, times, is_marked}

-- a number that is marked stands in it once, and no other does
abbrev pub StandsOnce : List ℕ → List Bool → Type 0
StandsOnce queue marks = (number : ℕ) → times number queue ≡ cond (is_marked marks number) 1 0

one_more : (n first : ℕ) (queue : List ℕ)
    → times n (first ∷ queue) ≡ cond (first == n) 1 0 + times n queue
one_more n first queue = sum_by-cons (λ x. cond (x == n) 1 0) first queue

-- ---- who is marked stands in it

none_more : (n : ℕ) (queue : List ℕ) (b : Bool) → (times n queue ≡ 0 → stands_in n queue ≡ false)
    → cond b 1 0 + times n queue ≡ 0 → (b || stands_in n queue) ≡ false
none_more n queue true behind none = absurd (omega (arith, none))
none_more n queue false behind none = behind (omega (arith, none))

none_stands : (n : ℕ) (queue : List ℕ) → times n queue ≡ 0 → stands_in n queue ≡ false
none_stands n [] none = refl
none_stands n (first ∷ queue) none =
    none_more n queue (first == n) (none_stands n queue) (sym (one_more n first queue) ∙ none)

some_more : (n : ℕ) (queue : List ℕ) (b : Bool) → (times n queue ≡ 1 → stands_in n queue ≡ true)
    → cond b 1 0 + times n queue ≡ 1 → (b || stands_in n queue) ≡ true
some_more n queue true behind one = refl
some_more n queue false behind one = behind (omega (arith, one))

one_stands : (n : ℕ) (queue : List ℕ) → times n queue ≡ 1 → stands_in n queue ≡ true
one_stands n [] one = absurd (omega (arith, one))
one_stands n (first ∷ queue) one =
    some_more n queue (first == n) (one_stands n queue) (sym (one_more n first queue) ∙ one)

pub stands_marked : (n : ℕ) (queue : List ℕ) (marks : List Bool) → StandsOnce queue marks
    → stands_in n queue ≡ is_marked marks n
stands_marked n queue marks once = by (is_marked marks n) (once n)
  where
    by : (b : Bool) → times n queue ≡ cond b 1 0 → stands_in n queue ≡ b
    by true e = one_stands n queue e
    by false e = none_stands n queue e

marked_within : (n : ℕ) (marks : List Bool) → is_marked marks n ≡ true → n < length marks
marked_within n marks marked = grind (arith, get_or_past, marked)

pub stands_within : (n : ℕ) (queue : List ℕ) (marks : List Bool) → StandsOnce queue marks
    → stands_in n queue ≡ true → n < length marks
stands_within n queue marks once stands =
    marked_within n marks (sym (stands_marked n queue marks once) ∙ stands)

-- ---- what another number has of a change

apart_from : (n k : ℕ) → k ≢ n → (n == k) ≡ false
apart_from n k apart = elim (n == k) as (λ b. (n == k) ≡ b → (n == k) ≡ false) [
  | true ↦ λ (e : (n == k) ≡ true). absurd (apart (sym (eqb-true n k e)))
  | false ↦ λ (e : (n == k) ≡ false). e
] refl

-- for the number that is marked, or no more, and for each other
marks_set : (n : ℕ) (marks : List Bool) (b : Bool) (count : ℕ → ℕ) → n < length marks
    → count n ≡ cond b 1 0 → ((k : ℕ) → k ≢ n → count k ≡ cond (is_marked marks k) 1 0) → (k : ℕ)
    → count k ≡ cond (is_marked (set marks n b) k) 1 0
marks_set n marks b count within here others k = elim (cases_eq k n) [
  | inl same ↦
      ap count same ∙ here
      ∙ ap (λ m. cond m 1 0) (sym (ap (λ m. is_marked (set marks n b) m) same
      ∙ get_or-set_same marks n b false within))
  | inr apart ↦ others k apart
      ∙ ap (λ m. cond m 1 0) (sym (get_or-set_other marks n k b false apart))
]

-- ---- one more stands in it, or one less

more_behind : (n k : ℕ) (queue : List ℕ) (b : Bool) → (n == k) ≡ b
    → times k (queue ++ n ∷ []) ≡ times k queue + cond b 1 0
more_behind n k queue b is = sum_by-append (λ x. cond (x == k) 1 0) queue (n ∷ [])
    ∙ ap (λ m. times k queue + (0 + cond {A = ℕ} m 1 0)) is
    ∙ ap (λ m. times k queue + m) (zero-add (cond b 1 0))

pub pushed : (n : ℕ) (queue : List ℕ) (marks : List Bool) → StandsOnce queue marks
    → n < length marks → stands_in n queue ≡ false → StandsOnce (queue ++ n ∷ []) (set marks n true)
pushed n queue marks once within none =
    marks_set n marks true (λ k. times k (queue ++ n ∷ [])) within
    (more_behind n n queue true (eq-eqb n n refl) ∙ ap (λ m. m + 1)
    (once n ∙ ap (λ b. cond b 1 0) (sym (stands_marked n queue marks once) ∙ none)))
    (λ k apart. more_behind n k queue false (apart_from n k apart) ∙ omega (arith, once k))

one_less : (n k : ℕ) (queue : List ℕ) (b : Bool) → (n == k) ≡ b
    → times k (n ∷ queue) ≡ cond b 1 0 + times k queue
one_less n k queue b is = one_more k n queue ∙ ap (λ m. cond m 1 0 + times k queue) is

other_first : (n k : ℕ) (queue : List ℕ) → (n == k) ≡ false → times k (n ∷ queue) ≡ times k queue
other_first n k queue is = one_less n k queue false is ∙ zero-add (times k queue)

is_one : (n : ℕ) (b : Bool) → n + 1 ≡ cond b 1 0 → (b ≡ true) × (n ≡ 0)
is_one n true e = (refl, omega (arith, e))
is_one n false e = absurd (omega (arith, e))

first_once : (n : ℕ) (queue : List ℕ) (marks : List Bool) → StandsOnce (n ∷ queue) marks
    → times n queue + 1 ≡ cond (is_marked marks n) 1 0
first_once n queue marks once =
    omega (arith, sym (one_less n n queue true (eq-eqb n n refl)) ∙ once n)

pub first_within : (n : ℕ) (queue : List ℕ) (marks : List Bool) → StandsOnce (n ∷ queue) marks
    → n < length marks
first_within n queue marks once = marked_within n marks
    (is_one (times n queue) (is_marked marks n) (first_once n queue marks once)).0

pub popped : (n : ℕ) (queue : List ℕ) (marks : List Bool) → StandsOnce (n ∷ queue) marks
    → StandsOnce queue (set marks n false)
popped n queue marks once =
    marks_set n marks false (λ k. times k queue) (first_within n queue marks once)
    (is_one (times n queue) (is_marked marks n) (first_once n queue marks once)).1
    (λ k apart. sym (other_first n k queue (apart_from n k apart)) ∙ once k)

filtered_on : (n k first : ℕ) (queue : List ℕ) (b : Bool) → (first == n) ≡ b
    → k ≢ n → times k (queue_without n queue) ≡ times k queue → times k
    (cond (not b) (first ∷ queue_without n queue) (queue_without n queue)) ≡ times k (first ∷ queue)
filtered_on n k first queue true is apart behind =
    behind ∙ sym
    (other_first first k queue (ap (λ m. m == k) (eqb-true first n is) ∙ apart_from n k apart))
filtered_on n k first queue false is apart behind = one_more k first (queue_without n queue)
    ∙ ap (λ m. cond (first == k) 1 0 + m) behind ∙ sym (one_more k first queue)

others_stay : (n k : ℕ) (queue : List ℕ) → k ≢ n → times k (queue_without n queue) ≡ times k queue
others_stay n k [] apart = refl
others_stay n k (first ∷ queue) apart =
    filtered_on n k first queue (first == n) refl apart (others_stay n k queue apart)

gone_on : (n first : ℕ) (queue : List ℕ) (b : Bool)
    → (first == n) ≡ b → times n (queue_without n queue) ≡ 0
    → times n (cond (not b) (first ∷ queue_without n queue) (queue_without n queue)) ≡ 0
gone_on n first queue true is behind = behind
gone_on n first queue false is behind = other_first first n (queue_without n queue) is ∙ behind

none_left : (n : ℕ) (queue : List ℕ) → times n (queue_without n queue) ≡ 0
none_left n [] = refl
none_left n (first ∷ queue) = gone_on n first queue (first == n) refl (none_left n queue)

pub removed : (n : ℕ) (queue : List ℕ) (marks : List Bool) → StandsOnce queue marks
    → n < length marks → StandsOnce (queue_without n queue) (set marks n false)
removed n queue marks once within =
    marks_set n marks false (λ k. times k (queue_without n queue)) within (none_left n queue)
    (λ k apart. others_stay n k queue apart ∙ once k)

without_more : (n first : ℕ) (queue : List ℕ) (b : Bool) → (queue ≡ queue_without n queue)
    → stands_in n (first ∷ queue) ≡ false → (first == n) ≡ b
    → first ∷ queue ≡ cond (not b) (first ∷ queue_without n queue) (queue_without n queue)
without_more n first queue true behind none is = cc (none, is)
without_more n first queue false behind none is = ap (λ q. first ∷ q) behind

-- a number that does not stand in it
pub without_none : (n : ℕ) (queue : List ℕ) → stands_in n queue ≡ false
    → queue ≡ queue_without n queue
without_none n [] none = refl
without_none n (first ∷ queue) none =
    without_more n first queue (first == n)
    (without_none n queue (or_parts (first == n) (stands_in n queue) none).1) none refl

-- ---- all in another order, and with more room

pub turned : (count : ℕ) (queue : List ℕ) (marks : List Bool) → StandsOnce queue marks
    → StandsOnce (turned_queue count queue) marks
turned count queue marks once k =
    let one = λ (x : ℕ). cond (x == k) 1 0 in
    sum_by-append one (drop count queue) (take count queue)
    ∙ omega (
      arith,
      sum_by-append one (take count queue) (drop count queue),
      ap (times k) (take-append-drop count queue),
    )
    ∙ once k

past_false : (n k : ℕ) → get_or (replicate n false) k false ≡ false
past_false n k = grind (arith, get_or_past, get_or-replicate, length-replicate)

is_marked_more : (marks : List Bool) (more k : ℕ)
    → is_marked (marks ++ replicate more false) k ≡ is_marked marks k
is_marked_more [] more k = past_false more k
is_marked_more (m ∷ marks) more zero = refl
is_marked_more (m ∷ marks) more (suc k) = is_marked_more marks more k

pub widened : (queue : List ℕ) (marks : List Bool) (room more : ℕ) → length marks ≤ room
    → StandsOnce queue marks → StandsOnce queue (take room marks ++ replicate more false)
widened queue marks room more within once k =
    once k ∙ ap (λ b. cond b 1 0) (sym (is_marked_more marks more k)
    ∙ ap (λ ms. is_marked (ms ++ replicate more false) k) (sym (take_all room marks within)))

-- ---- there is room

pub no_longer : (queue : List ℕ) (marks : List Bool) → StandsOnce queue marks
    → length queue ≤ count_by (λ b. b) marks
no_longer [] marks once = omega arith
no_longer (n ∷ queue) marks once =
    let within = first_within n queue marks once in
    let marked = (is_one (times n queue) (is_marked marks n) (first_once n queue marks once)).0 in
    omega (
      arith,
      no_longer queue (set marks n false) (popped n queue marks once),
      sum_by-set (λ b. cond b 1 0) marks n false false within,
      ap {B = ℕ} (λ b. cond b 1 0) marked,
    )

pub has_room : (n : ℕ) (queue : List ℕ) (marks : List Bool) (capacity : ℕ) → StandsOnce queue marks
    → n < length marks → stands_in n queue ≡ false → length marks ≤ capacity
    → length queue < capacity
has_room n queue marks capacity once within none room =
    omega (
      arith,
      no_longer (queue ++ n ∷ []) (set marks n true) (pushed n queue marks once within none),
      count_by-le-length (λ b. b) (set marks n true),
      length-set marks n true,
      length-append queue (n ∷ []),
      room,
    )

-- ---- who stands in it beside another

two_there : (b c rest : Bool) → (b ≡ true → c ≡ true → ⊥) → not (not b || (not c || rest)) ≡ false
two_there false c rest apart = refl
two_there true false rest apart = refl
two_there true true rest apart = absurd (apart refl refl)

at_most_once : (b : Bool) → cond b 1 0 ≤ 1
at_most_once true = omega arith
at_most_once false = omega arith

both_one : (n x y : ℕ) (queue : List ℕ) (marks : List Bool) → StandsOnce (x ∷ y ∷ queue) marks
    → (n == x) ≡ true → (n == y) ≡ true → ⊥
both_one n x y queue marks once first second =
    omega (
      arith,
      sym (once n) ∙ one_more n x (y ∷ queue) ∙ ap (λ k. k + times n (y ∷ queue))
          (counted x first),
      one_more n y queue ∙ ap (λ k. k + times n queue) (counted y second),
      at_most_once (is_marked marks n),
    )
  where
    counted : (k : ℕ) → (n == k) ≡ true → ◌≡◌ {A = ℕ} (cond (k == n) 1 0) 1
    counted k same = ap (λ b. cond b 1 0) (eq-eqb k n (sym (eqb-true n k same)))

-- where two stand in it, one of them is another
pub many_beside : (n : ℕ) (queue : List ℕ) (marks : List Bool) → StandsOnce queue marks
    → (length queue ≡ 0 → ⊥) → (length queue ≡ 1 → ⊥) → is_read_beside nat_eq queue n ≡ false
many_beside n [] marks once some more = absurd (some refl)
many_beside n (x ∷ []) marks once some more = absurd (more refl)
many_beside n (x ∷ y ∷ queue) marks once some more =
    two_there (n == x) (n == y) _ (both_one n x y queue marks once)
