-- The members that an NJOIN names, by the words between commas.
use Rattle.std.proofs.Common.{◌≡◌, ℕ, suc, ◌+◌, ◌<◌, ◌≤◌, Bool, true, false, cond, not, ◌&&◌, List}
use Rattle.std.proofs.Common.{[], ◌∷◌, refl, length, count_by, sym, ◌∙◌, ap, arith}
use Rattle.std.proofs.lemmas.List.{length-map}
use Rattle.std.proofs.lemmas.List.Splits.{length-slice_split, slice_split_first}
use Rattle.std.proofs.lemmas.List.Folds.{list_all-map}
use Rattle.std.specs.List.{list_all, slice_split, position_or_len, onto_first, before_first}
use Rattle.std.specs.List.{after_first}
use Rattle.std.proofs.Math.Bool.{and-true}
use Rattle.irc_channels.specs.declared.flags.Flags.{Flags}
use Rattle.irc_names.specs.Names.{is_nick}
use Rattle.irc_burst.specs.DeedsMeant.{is_comma, member_of, members_of}

pub how_many : (text : List ℕ) → length (members_of text) ≡ count_by is_comma text + 1
how_many text = length-map (slice_split is_comma text) member_of ∙ length-slice_split is_comma text

pub all_nicks : (text : List ℕ)
    → list_all (λ (member : List ℕ × Flags). is_nick member.0) (members_of text)
    ≡ list_all (λ word. is_nick (member_of word).0) (slice_split is_comma text)
all_nicks text = list_all-map (λ (member : List ℕ × Flags). is_nick member.0) member_of
    (slice_split is_comma text)

pub ruleset few_told = (how_many)

pub ruleset nicks_told = (all_nicks)

-- ---- the words between commas, one after another

no_comma : (text : List ℕ) → length text ≤ position_or_len is_comma text
    → slice_split is_comma text ≡ text ∷ []
no_comma [] past = refl
no_comma (byte ∷ text) past = by (is_comma byte) past (no_comma text)
  where
    by : (b : Bool) → suc (length text) ≤ cond (not b) (1 + position_or_len is_comma text) 0
        → (length text ≤ position_or_len is_comma text → slice_split is_comma text ≡ text ∷ [])
        → cond b ([] ∷ slice_split is_comma text) (onto_first byte (slice_split is_comma text))
        ≡ (byte ∷ text) ∷ []
    by true past rest = absurd (omega (arith, past))
    by false past rest = ap (onto_first byte) (rest (omega (arith, past)))

pub all_last : (f : List ℕ → Bool) (text : List ℕ) → length text ≤ position_or_len is_comma text
    → list_all f (slice_split is_comma text) ≡ f text
all_last f text past = ap (list_all f) (no_comma text past) ∙ and-true (f text)

pub all_on : (f : List ℕ → Bool) (text : List ℕ) → position_or_len is_comma text < length text
    → list_all f (slice_split is_comma text) ≡ (f (before_first is_comma text)
    && list_all f (slice_split is_comma (after_first is_comma text)))
all_on f text there = ap (list_all f) (slice_split_first is_comma text 0 there)

-- the loop over the words: it stops at one that is no nickname, goes on behind one that is, and
-- ends with the last
module _ (f : List ℕ → Bool) (rest : List ℕ) (all : Bool)
    (so_far : all ≡ list_all f (slice_split is_comma rest)) where
  pub stops : (word : List ℕ) (b : Bool) → position_or_len is_comma rest < length rest
      → word ≡ before_first is_comma rest → b ≡ f word → b ≡ false → false ≡ all
  stops word b there is tests fails =
      sym (so_far ∙ all_on f rest there
      ∙ ap (λ w. f w && list_all f (slice_split is_comma (after_first is_comma rest))) (sym is)
      ∙ ap (λ c. c && list_all f (slice_split is_comma (after_first is_comma rest)))
      (sym tests ∙ fails))

  pub goes_on : (word after : List ℕ) (b : Bool) → position_or_len is_comma rest < length rest
      → word ≡ before_first is_comma rest → b ≡ f word → b ≡ true
      → after ≡ after_first is_comma rest → all ≡ list_all f (slice_split is_comma after)
  goes_on word after b there is tests passes behind =
      so_far ∙ all_on f rest there
      ∙ ap (λ w. f w && list_all f (slice_split is_comma (after_first is_comma rest))) (sym is)
      ∙ ap (λ c. c && list_all f (slice_split is_comma (after_first is_comma rest)))
      (sym tests ∙ passes)
      ∙ ap (λ w. list_all f (slice_split is_comma w)) (sym behind)

  pub ends : (b : Bool) → length rest ≤ position_or_len is_comma rest → b ≡ f rest → b ≡ all
  ends b past tests = tests ∙ sym (so_far ∙ all_last f rest past)
