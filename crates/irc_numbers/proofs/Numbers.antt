-- Numbers that are one, and maps whose numbers are others.
use Rattle.std.proofs.Common.{◌≡◌, ℕ, Bool, true, false, cond, is_some, nat_eq, Option, Some, None}
use Rattle.std.proofs.Common.{refl, sym, ◌∙◌, ap}
use Rattle.std.proofs.lemmas.Bool.{eq-eqb, eqb-true}
use Rattle.std.specs.Cmp.{nat_cmp_total, unsigned_tied}
use Rattle.std.specs.FinMap.{FinMap, get, get-insert, get-remove, insert, remove}
use Rattle.std.specs.Option.{option_and_then}
use Rattle.std.specs.Ordering.{eq_by_cmp, nat_cmp}
use Rattle.std.proofs.lemmas.Option.{same_Some}
use Rattle.irc_numbers.specs.Alike.{IsAmong}

-- ---- maps whose numbers are others

module _ (number : ℕ → Option ℕ) (apart : (one other conn : ℕ) → number one ≡ Some conn
    → number other ≡ Some conn → one ≡ other) where
  -- two are one where their numbers are
  pub same_one : (one conn : ℕ) → number one ≡ Some conn → (theirs mine : ℕ)
      → number theirs ≡ Some mine → nat_eq theirs one ≡ nat_eq mine conn
  same_one one conn at theirs mine is = by (nat_eq theirs one) (nat_eq mine conn) refl refl
    where
      by : (a b : Bool) → nat_eq theirs one ≡ a → nat_eq mine conn ≡ b → a ≡ b
      by true true same too = refl
      by false false same too = refl
      by true false same too = cc (sym (eq-eqb mine conn
          (same_Some mine conn (sym is ∙ ap number (eqb-true theirs one same) ∙ at))) ∙ too)
      by false true same too = cc (sym (eq-eqb theirs one
          (apart theirs one conn (is ∙ ap Some (eqb-true mine conn too)) at)) ∙ same)

  module _ {V : Type 0} (own other : FinMap nat_cmp V)
      (alike : (q : ℕ) → get other q ≡ option_and_then (get own) (number q))
      (none : (k : ℕ) → is_some (get own k) ≡ true → IsAmong number k) (one conn : ℕ)
      (at : number one ≡ Some conn) where
    -- a number is looked for in a map that is changed at one
    changed_at : (mine theirs : Option V) → mine ≡ theirs → (q : ℕ)
        → cond (eq_by_cmp nat_cmp q one) theirs (get other q) ≡ option_and_then
        (λ k. cond (eq_by_cmp nat_cmp k conn) mine (get own k)) (number q)
    changed_at mine theirs same q =
        ap (λ b. cond b theirs (get other q)) (unsigned_tied q one)
        ∙ ap (cond (nat_eq q one) theirs) (alike q) ∙ by (number q) refl
      where
        by : (o : Option ℕ) → number q ≡ o
            → cond (nat_eq q one) theirs (option_and_then (get own) o)
            ≡ option_and_then (λ k. cond (eq_by_cmp nat_cmp k conn) mine (get own k)) o
        by None is = two (nat_eq q one) refl
          where
            two : (b : Bool) → nat_eq q one ≡ b → cond b theirs None ≡ None
            two true same_as = cc (sym is ∙ ap number (eqb-true q one same_as) ∙ at)
            two false differs = refl
        by (Some k) is =
            ap (λ b. cond b theirs (get own k)) (same_one one conn at q k is
            ∙ sym (unsigned_tied k conn))
            ∙ ap (λ (o : Option V). cond (eq_by_cmp nat_cmp k conn) o (get own k)) (sym same)

    pub put_alike : (value : V) (q : ℕ)
        → get (insert other one value) q ≡ option_and_then (get (insert own conn value)) (number q)
    put_alike value q = get-insert nat_cmp_total other one value q
        ∙ changed_at (Some value) (Some value) refl q ∙ by (number q)
      where
        by : (o : Option ℕ) → option_and_then (λ k. cond (eq_by_cmp nat_cmp k conn) (Some value)
            (get own k)) o ≡ option_and_then (get (insert own conn value)) o
        by None = refl
        by (Some k) = sym (get-insert nat_cmp_total own conn value k)

    pub taken_alike : (q : ℕ)
        → get (remove other one) q ≡ option_and_then (get (remove own conn)) (number q)
    taken_alike q =
        get-remove nat_cmp_total other one q ∙ changed_at None None refl q ∙ by (number q)
      where
        by : (o : Option ℕ) → option_and_then (λ k. cond (eq_by_cmp nat_cmp k conn) None
            (get own k)) o ≡ option_and_then (get (remove own conn)) o
        by None = refl
        by (Some k) = sym (get-remove nat_cmp_total own conn k)

    pub put_among : (value : V) (k : ℕ) → is_some (get (insert own conn value) k) ≡ true
        → IsAmong number k
    put_among value k is =
        by (nat_eq k conn) refl
        (sym (ap (λ b. is_some (cond b (Some value) (get own k))) (unsigned_tied k conn))
        ∙ ap is_some (sym (get-insert nat_cmp_total own conn value k)) ∙ is)
      where
        by : (b : Bool) → nat_eq k conn ≡ b → is_some (cond b (Some value) (get own k)) ≡ true
            → IsAmong number k
        by true same there = record { number = one; is = at ∙ ap Some (sym (eqb-true k conn same)) }
        by false two there = none k there

    pub taken_among : (k : ℕ) → is_some (get (remove own conn) k) ≡ true → IsAmong number k
    taken_among k is =
        by (eq_by_cmp nat_cmp k conn) (ap is_some (sym (get-remove nat_cmp_total own conn k)) ∙ is)
      where
        by : (b : Bool) → is_some (cond b None (get own k)) ≡ true → IsAmong number k
        by true there = cc there
        by false there = none k there
