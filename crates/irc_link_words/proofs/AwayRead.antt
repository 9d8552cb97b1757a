-- Two words, of which the first says that a user is away, are read as that, with the second as its
-- text.
use Rattle.std.proofs.Common.{◌≡◌, ℕ, ◌≤◌, ◌<◌, Bool, true, false, cond, if◌then◌else◌, Option}
use Rattle.std.proofs.Common.{Some, None, List, [], ◌∷◌, length, map, refl, sym, ◌∙◌, ap, arith}
use Rattle.std.proofs.lemmas.Slice.Eq.{bytes_eq-Decides}
use Rattle.std.specs.Borrow.{Bor}
use Rattle.std.specs.Cmp.Lexicographic.{pointwise}
use Rattle.std.specs.List.{find, slice_index_or}
use Rattle.std.specs.Str.{bytes_eq}
use Rattle.irc_names.specs.UserTexts.{is_away}
use Rattle.irc_users.specs.declared.user_change.UserChange.{UserChange}
use Rattle.irc_users.specs.declared.user_change.UserChange.TheVariants.{Away}
use Rattle.irc_link_words.specs.Lemmas.UserChangesRead.{away_again}
use Rattle.irc_link_words.specs.UserChanges.{change_words, user_change_of}
use Rattle.irc_link_words.specs.Words.{with_a}

abbrev away_told : List ℕ → Option UserChange
away_told text = if is_away text then Some (Away (Some text)) else None

told_so : (text : List ℕ) → away_told text ≡ user_change_of (with_a ∷ text ∷ [])
told_so text = by (is_away text) refl
  where
    by : (b : Bool) → is_away text ≡ b → away_told text ≡ user_change_of (with_a ∷ text ∷ [])
    by true taken =
        ap (λ b. if b then Some (Away (Some text)) else None) taken ∙ sym (away_again text taken)
    by false refused =
        ap (λ b. if b then Some (Away (Some text)) else None) refused
        ∙ sym (ap (λ b. find (λ change. pointwise bytes_eq (with_a ∷ text ∷ [])
        (change_words change)) (cond b (Away (Some text) ∷ []) [])) refused)

pub away_read : (words : List (Bor (List ℕ))) (none : Bor (List ℕ)) → 2 ≤ length words
    → length words < 3 → bytes_eq (slice_index_or words 0 none).now with_a ≡ true
    → away_told (slice_index_or words 1 none).now ≡ user_change_of (map (λ word. word.now) words)
away_read [] none least most letters = absurd (omega (arith, least))
away_read (one ∷ []) none least most letters = absurd (omega (arith, least))
away_read (one ∷ two ∷ []) none least most letters =
    told_so two.now
    ∙ ap (λ first. user_change_of (first ∷ two.now ∷ []))
    (sym ((bytes_eq-Decides one.now with_a).0 letters))
away_read (one ∷ two ∷ three ∷ words) none least most letters = absurd (omega (arith, most))
