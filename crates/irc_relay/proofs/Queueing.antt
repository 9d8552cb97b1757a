-- Queues in one list of lines under way.
use Rattle.std.proofs.Common.{◌≡◌, ℕ, zero, suc, ◌+◌, ◌<◌, Bool, true, false, ◌&&◌, cond, not, List}
use Rattle.std.proofs.Common.{[], ◌∷◌, ◌++◌, length, map, filter, get_or, position, remove, Option}
use Rattle.std.proofs.Common.{Some, None, refl, sym, ap, ◌∙◌, arith}
use Rattle.std.specs.List.{position_or_len}
use Rattle.std.specs.Prelude.{nat_lt}
use Rattle.std.proofs.lemmas.Bool.Decides.{nat_tests}
use Rattle.std.proofs.lemmas.List.{map-append}
use Rattle.std.proofs.lemmas.List.Elements.{filter-append}
use Rattle.std.proofs.lemmas.List.Quantifiers.{position-Some}
use Rattle.irc_relay.specs.Links.{Name, same}
use Rattle.irc_relay.specs.Queue.{SentParts, goes, queue_of, IsOldest}
use Rattle.irc_relay.specs.Lemmas.TellingNames.{Telling, alike, unlike, tell}

-- the first that passes is the head of those that pass
filter_first : {X : Type 0} (p : X → Bool) (xs : List X) (i : ℕ) (s : X) → i < length xs
    → p (get_or xs i s) ≡ true → ((k : ℕ) → k < i → p (get_or xs k s) ≡ false)
    → filter p xs ≡ get_or xs i s ∷ filter p (remove xs i)
filter_first p [] i s h e before = let q : ⊥ = omega arith in absurd q
filter_first p (x ∷ xs) zero s h e before = ap (λ b. cond b (x ∷ filter p xs) (filter p xs)) e
filter_first p (x ∷ xs) (suc i) s h e before =
    ap (λ b. cond b (x ∷ filter p xs) (filter p xs)) (before zero (omega arith))
    ∙ filter_first p xs i s (omega arith) e (λ k g. before (suc k) (omega arith))
    ∙ ap (λ rest. get_or xs i s ∷ rest) (sym (ap (λ b. cond b (x ∷ filter p (remove xs i))
    (filter p (remove xs i))) (before zero (omega arith))))

-- taking out one that does not pass changes nothing of those that do
filter_others : {X : Type 0} (q : X → Bool) (xs : List X) (i : ℕ) (s : X) → i < length xs
    → q (get_or xs i s) ≡ false → filter q (remove xs i) ≡ filter q xs
filter_others q [] i s h e = let r : ⊥ = omega arith in absurd r
filter_others q (x ∷ xs) zero s h e = sym (ap (λ b. cond b (x ∷ filter q xs) (filter q xs)) e)
filter_others q (x ∷ xs) (suc i) s h e =
    ap (λ rest. cond (q x) (x ∷ rest) rest) (filter_others q xs i s (omega arith) e)

filter_past : {X : Type 0} (p : X → Bool) (xs : List X) → (position_or_len p xs < length xs → ⊥)
    → filter p xs ≡ []
filter_past p [] h = refl
filter_past p (x ∷ xs) h = go (p x) refl (filter_past p xs)
  where
    here : (b : Bool) → p x ≡ b
        → position_or_len p (x ∷ xs) ≡ cond (not b) (1 + position_or_len p xs) 0
    here b e = ap (λ v. cond (not v) (1 + position_or_len p xs) 0) e

    go : (b : Bool) → p x ≡ b → ((position_or_len p xs < length xs → ⊥) → filter p xs ≡ [])
        → filter p (x ∷ xs) ≡ []
    go true e r = absurd (h (rw (here true e) (omega arith)))
    go false e r = ap (λ b. cond b (x ∷ filter p xs) (filter p xs)) e
        ∙ r (λ g. h (rw (here false e) (omega arith)))

not_below : (a b : ℕ) → nat_lt a b ≡ false → a < b → ⊥
not_below a b e h = grind (arith, nat_tests)

filter_none : {X : Type 0} (p : X → Bool) (xs : List X) → position p xs ≡ None → filter p xs ≡ []
filter_none {X} p xs e = go (nat_lt (position_or_len p xs) (length xs)) refl
  where
    go : (b : Bool) → nat_lt (position_or_len p xs) (length xs) ≡ b → filter p xs ≡ []
    go true f = let g = sym (ap (λ b. cond {A = Option ℕ} b (Some (position_or_len p xs)) None) f)
        ∙ e in cc
    go false f = filter_past p xs (not_below (position_or_len p xs) (length xs) f)

-- what goes from x to y, by names
pub goes_tells : {Sent Line : Type 0} (r : SentParts Sent Line) (x y : Name) (s : Sent)
    → goes r x y s ≡ true → (r.from s ≡ x) × (r.to s ≡ y)
goes_tells r x y s e = go (tell (r.from s) x) (tell (r.to s) y)
  where
    go : Telling (r.from s) x → Telling (r.to s) y → (r.from s ≡ x) × (r.to s ≡ y)
    go (alike a f) (alike b g) = (f, g)
    go (alike a f) (unlike b g) = let h = sym (ap (λ v. v && same (r.to s) y) a) ∙ e in
        let i = sym b ∙ h in cc
    go (unlike a f) c = let h = sym (ap (λ v. v && same (r.to s) y) a) ∙ e in cc

goes_only : {Sent Line : Type 0} (r : SentParts Sent Line) (p t x y : Name) (s : Sent)
    → goes r p t s ≡ true → (x ≡ p → y ≡ t → ⊥) → goes r x y s ≡ false
goes_only r p t x y s e o = go (goes r x y s) refl
  where
    go : (b : Bool) → goes r x y s ≡ b → goes r x y s ≡ false
    go false f = f
    go true f = absurd (o (sym (goes_tells r x y s f).0 ∙ (goes_tells r p t s e).0)
        (sym (goes_tells r x y s f).1 ∙ (goes_tells r p t s e).1))

pub first_is_oldest : {Sent Line : Type 0} (r : SentParts Sent Line) (sent : List Sent)
    (p t : Name) (i : ℕ) (s : Sent) → position (goes r p t) sent ≡ Some i → s ≡ get_or sent i s
    → IsOldest r sent p t i s
first_is_oldest r sent p t i s e f = go (position-Some (goes r p t) sent i s e)
  where
    go : (i < length sent) × (goes r p t (get_or sent i s) ≡ true)
        × ((k : ℕ) → k < i → goes r p t (get_or sent k s) ≡ false) → IsOldest r sent p t i s
    go found =
        record {
          oldest = ap (map r.line) (filter_first (goes r p t) sent i s found.0 found.1 found.2)
              ∙ ap (λ v. r.line v ∷ queue_of r (remove sent i) p t) (sym f);
          others = λ x y o. ap (map r.line) (filter_others (goes r x y) sent i s found.0
              (goes_only r p t x y (get_or sent i s) found.1 o));
        }

pub none_is_empty : {Sent Line : Type 0} (r : SentParts Sent Line) (sent : List Sent) (p t : Name)
    → position (goes r p t) sent ≡ None → queue_of r sent p t ≡ []
none_is_empty r sent p t e = ap (map r.line) (filter_none (goes r p t) sent e)

pub sent_is_behind : {Sent Line : Type 0} (r : SentParts Sent Line) (sent more : List Sent)
    (x y : Name) → queue_of r (sent ++ more) x y ≡ queue_of r sent x y ++ queue_of r more x y
sent_is_behind r sent more x y = ap (map r.line) (filter-append (goes r x y) sent more)
    ∙ map-append r.line (filter (goes r x y) sent) (filter (goes r x y) more)
