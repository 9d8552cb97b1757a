-- Which ban is found for a mask once another is set or taken out.
use Rattle.std.proofs.Common.{◌≡◌, ℕ, Bool, true, false, cond, not, Option, Some, None, List}
use Rattle.std.proofs.Common.{[], ◌∷◌, find, refl, sym, ◌∙◌, ap, true≢false}
use Rattle.std.specs.List.{list_any}
use Rattle.std.proofs.lemmas.Bool.{or_parts}
use Rattle.irc_names.specs.Fold.{same}
use Rattle.irc_names.specs.FoldLaws.{same-equivalence}
use Rattle.irc_modes.specs.Bans.{before, rises}
use Rattle.irc_modes.specs.Modes.{with_ban, without_ban}
use Rattle.irc_modes.specs.Lemmas.BanPlaces.{placed, put_over, taken_gone}

-- ---- what is found with a mask

swap : (p q : Bool) (a b c : Option (List ℕ)) → (p ≡ true → q ≡ true → ⊥)
    → cond q b (cond p a c) ≡ cond p a (cond q b c)
swap true true a b c not_both = absurd (not_both refl refl)
swap true false a b c not_both = refl
swap false q a b c not_both = refl

find_placed : (m w : List ℕ) (bans : List (List ℕ)) → list_any (same w) bans ≡ false
    → find (same m) (placed w bans) ≡ cond (same w m) (Some w) (find (same m) bans)
find_placed m w [] none = ap (λ b. cond b (Some w) None) (same-equivalence.symm m w)
find_placed m w (ban ∷ bans) none =
    by (before ban w) (find_placed m w bans (or_parts (same w ban) (list_any (same w) bans) none).1)
  where
    not_both : same w m ≡ true → same m ban ≡ true → ⊥
    not_both one other = absurd (true≢false (sym other ∙ sym (same-equivalence.congr w m ban one)
        ∙ (or_parts (same w ban) (list_any (same w) bans) none).0))

    by : (test : Bool) → find (same m) (placed w bans)
        ≡ cond (same w m) (Some w) (find (same m) bans)
        → find (same m) (cond test (ban ∷ placed w bans) (w ∷ ban ∷ bans))
        ≡ cond (same w m) (Some w) (cond (same m ban) (Some ban) (find (same m) bans))
    by true rest = ap (cond (same m ban) (Some ban)) rest
        ∙ swap (same w m) (same m ban) (Some w) (Some ban) (find (same m) bans) not_both
    by false rest = ap (λ b. cond b (Some w) (cond (same m ban) (Some ban) (find (same m) bans)))
        (same-equivalence.symm m w)

-- ---- what is found without a mask

out : (p q : Bool) (a b : Option (List ℕ)) → (p ≡ false → q ≡ true → ⊥)
    → cond p None b ≡ cond p None (cond q a b)
out true q a b never_so = refl
out false true a b never_so = absurd (never_so refl refl)
out false false a b never_so = refl

stays : (p q : Bool) (a b : Option (List ℕ)) → (p ≡ true → q ≡ true → ⊥)
    → cond q a (cond p None b) ≡ cond p None (cond q a b)
stays true true a b never_so = absurd (never_so refl refl)
stays true false a b never_so = refl
stays false q a b never_so = refl

pub find-without_ban : (m w : List ℕ) (bans : List (List ℕ))
    → find (same m) (without_ban w bans) ≡ cond (same w m) None (find (same m) bans)
find-without_ban m w [] = by (same w m)
  where
    by : (test : Bool) → ◌≡◌ {A = Option (List ℕ)} None (cond test None None)
    by true = refl
    by false = refl
find-without_ban m w (ban ∷ bans) = by (same w ban) refl (find-without_ban m w bans)
  where
    by : (test : Bool) → same w ban ≡ test
        → find (same m) (without_ban w bans) ≡ cond (same w m) None (find (same m) bans)
        → find (same m) (cond (not test) (ban ∷ without_ban w bans) (without_ban w bans))
        ≡ cond (same w m) None (cond (same m ban) (Some ban) (find (same m) bans))
    by true is rest =
        rest
        ∙ out (same w m) (same m ban) (Some ban) (find (same m) bans)
        (λ other alike. absurd (true≢false (sym is ∙ same-equivalence.symm w ban ∙ sym
        (same-equivalence.congr m ban w alike) ∙ same-equivalence.symm m w ∙ other)))
    by false is rest =
        ap (cond (same m ban) (Some ban)) rest
        ∙ stays (same w m) (same m ban) (Some ban) (find (same m) bans)
        (λ one alike.
        absurd (true≢false (sym alike ∙ sym (same-equivalence.congr w m ban one) ∙ is)))

-- ---- what is found behind one change

pub find-with_ban : (m w : List ℕ) (bans : List (List ℕ)) → rises bans ≡ true
    → find (same m) (with_ban w bans) ≡ cond (same w m) (Some w) (find (same m) bans)
find-with_ban m w bans rising =
    ap (find (same m)) (put_over w bans rising).is_put
    ∙ find_placed m w (without_ban w bans) (taken_gone w bans)
    ∙ ap (cond (same w m) (Some w)) (find-without_ban m w bans)
    ∙ by (same w m)
  where
    by : (test : Bool) → cond test (Some w) (cond test None (find (same m) bans))
        ≡ cond test (Some w) (find (same m) bans)
    by true = refl
    by false = refl
