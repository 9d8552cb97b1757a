-- Places among names.
use Rattle.std.proofs.Common.{◌≡◌, ◌≢◌, ℕ, suc, Bool, true, false, ◌||◌, List, [], ◌∷◌, sym, ◌∙◌}
use Rattle.std.proofs.Common.{ap, if◌then◌else◌}
use Rattle.std.specs.List.{list_any}
use Rattle.std.proofs.Math.Nat.{suc_inj}
use Rattle.irc_relay.specs.Distances.{IsAmong}
use Rattle.irc_relay.specs.Links.{Name, same}
use Rattle.irc_relay.specs.Lemmas.TellingNames.{Telling, alike, unlike, tell}
use Rattle.irc_follow.specs.Tree.{index_in}

place_is : (first a : Name) (names : List Name) (b : Bool) → same first a ≡ b
    → index_in (first ∷ names) a ≡ (if b then 0 else suc (index_in names a))
place_is first a names b is = ap (λ c. if c then 0 else suc (index_in names a)) is

later : (a first : Name) (names : List Name) → first ≢ a → IsAmong (first ∷ names) a
    → IsAmong names a
later a first names two among = by (tell a first)
  where
    by : Telling a first → IsAmong names a
    by (alike _ e) = absurd (two (sym e))
    by (unlike z _) = sym (ap (λ c. c || list_any (same a) names) z) ∙ among

never : {A : Type 0} (n : ℕ) → 0 ≡ suc n → A
never n e = absurd (cc e)

-- two servers with one place are one
pub one_place : (names : List Name) (a b : Name) → IsAmong names a
    → index_in names a ≡ index_in names b → a ≡ b
one_place [] a b among is = cc
one_place (first ∷ names) a b among is = by (tell first a) (tell first b) (one_place names a b)
  where
    by : Telling first a → Telling first b
        → (IsAmong names a → index_in names a ≡ index_in names b → a ≡ b) → a ≡ b
    by (alike _ e) (alike _ f) rest = sym e ∙ f
    by (alike x e) (unlike y _) rest = never (index_in names b)
        (sym (place_is first a names true x) ∙ is ∙ place_is first b names false y)
    by (unlike x _) (alike y f) rest = never (index_in names a)
        (sym (place_is first b names true y) ∙ sym is ∙ place_is first a names false x)
    by (unlike x m) (unlike y _) rest =
        rest (later a first names m among)
        (suc_inj (sym (place_is first a names false x) ∙ is ∙ place_is first b names false y))
