-- The list of all nicknames has each one: its fold is a word of bytes, whatever it is the fold of,
-- and not too long.
use Rattle.std.proofs.Common.{◌≡◌, ℕ, ◌<◌, ◌≤◌, inl, inr, Bool, true, false, ◌||◌, ◌&&◌, zero, suc}
use Rattle.std.proofs.Common.{List, [], ◌∷◌, map, length, get_or, nat_eq, nat_lt, refl, sym, ◌∙◌}
use Rattle.std.proofs.Common.{ap, arith}
use Rattle.std.proofs.Math.Bool.{false≢true}
use Rattle.std.proofs.lemmas.Bool.{cases_eq, eqb-true, eq-eqb, or_left, or_right}
use Rattle.std.proofs.lemmas.Bool.Decides.{nat_tests}
use Rattle.std.proofs.lemmas.List.Folds.{list_any-append}
use Rattle.std.specs.Cmp.{first_so, second_so}
use Rattle.std.specs.List.{list_any, list_all, flat_map}
use Rattle.irc_names.specs.Fold.{fold, fold_table, key}
use Rattle.irc_names.specs.FoldLaws.{key-length}
use Rattle.irc_names.specs.Limits.{max_nick}
use Rattle.irc_names.specs.Lemmas.RuleFacts.{nick-fits}
use Rattle.irc_names.specs.TableLaws.{same_fold, same_fold-refl, one_fold}
use Rattle.irc_room_edits.specs.AllNicks.{bytes_below, words, all_nicks, AllNicksAreListed}

-- ---- each byte

byte_listed : (bound byte : ℕ) → byte < bound → list_any (nat_eq byte) (bytes_below bound) ≡ true
unfolding bytes_below
byte_listed zero byte below = absurd (omega arith)
byte_listed (suc bound) byte below = elim (cases_eq byte bound) [
  | inl same ↦ or_left (nat_eq byte bound) (list_any (nat_eq byte) (bytes_below bound))
      (eq-eqb byte bound same)
  | inr other ↦ or_right (nat_eq byte bound) (list_any (nat_eq byte) (bytes_below bound))
      (byte_listed bound byte (omega arith))
]

-- what is so of all bytes of a list is so of each, and of the 0 that stands behind them
so_at : (test : ℕ → Bool) → test 0 ≡ true → (bytes : List ℕ) → list_all test bytes ≡ true
    → (place : ℕ) → test (get_or bytes place 0) ≡ true
so_at test none [] all place = none
so_at test none (byte ∷ bytes) all zero = first_so (test byte) (list_all test bytes) all
so_at test none (byte ∷ bytes) all (suc place) =
    so_at test none bytes (second_so (test byte) (list_all test bytes) all) place

abbrev is_byte : ℕ → Bool
is_byte byte = nat_lt byte 256

-- the fold of a number that is no byte is 0
folds_are_bytes : list_all is_byte fold_table ≡ true
unfolding fold_table
folds_are_bytes = refl

fold_is_byte : (byte : ℕ) → is_byte (fold byte) ≡ true
unfolding fold
fold_is_byte byte = so_at is_byte refl fold_table folds_are_bytes byte

fold_below : (byte : ℕ) → fold byte < 256
fold_below byte =
    let is : is_byte (fold byte) ≡ true = fold_is_byte byte in grind (arith, nat_tests)

-- ---- each word

-- what is behind a byte of the list is in what is behind all of them
listed_behind : (test : List ℕ → Bool) (behind : ℕ → List (List ℕ)) (bytes : List ℕ) (byte : ℕ)
    → list_any (nat_eq byte) bytes ≡ true → list_any test (behind byte) ≡ true
    → list_any test (flat_map behind bytes) ≡ true
listed_behind test behind [] byte listed passes = absurd (false≢true listed)
listed_behind test behind (first ∷ bytes) byte listed passes =
    list_any-append test (behind first) (flat_map behind bytes)
    ∙ by (nat_eq byte first) refl listed
    (λ more. listed_behind test behind bytes byte more passes)
  where
    by : (b : Bool) → nat_eq byte first ≡ b → (b || list_any (nat_eq byte) bytes) ≡ true
        → (list_any (nat_eq byte) bytes ≡ true → list_any test (flat_map behind bytes) ≡ true)
        → (list_any test (behind first) || list_any test (flat_map behind bytes)) ≡ true
    by true same listed rest = or_left (list_any test (behind first)) _
        (ap (λ b. list_any test (behind b)) (sym (eqb-true byte first same)) ∙ passes)
    by false other listed rest = or_right (list_any test (behind first)) _
        (rest listed)

-- a word of a list is, with one more byte in front, among all of its words with that in front
one_more : (byte : ℕ) (word : List ℕ) (folds : List (List ℕ))
    → list_any (same_fold word) folds ≡ true
    → list_any (same_fold (byte ∷ word)) (map (λ fold. byte ∷ fold) folds) ≡ true
one_more byte word [] listed = absurd (false≢true listed)
one_more byte word (first ∷ folds) listed =
    by (list_any (same_fold (byte ∷ word)) (map (λ fold. byte ∷ fold) folds))
    (same_fold word first) refl listed (one_more byte word folds)
  where
    by : (more b : Bool) → same_fold word first ≡ b
        → (b || list_any (same_fold word) folds) ≡ true
        → (list_any (same_fold word) folds ≡ true → more ≡ true)
        → (same_fold (byte ∷ word) (byte ∷ first) || more) ≡ true
    by more true same listed rest = or_left (same_fold (byte ∷ word) (byte ∷ first)) more
        (ap (λ it. same_fold (byte ∷ word) (byte ∷ it)) (sym (one_fold word first same))
        ∙ same_fold-refl (byte ∷ word))
    by more false other listed rest =
        or_right (same_fold (byte ∷ word) (byte ∷ first)) more (rest listed)

word_listed : (bytes : List ℕ) (most : ℕ) (word : List ℕ) → length word ≤ most
    → list_all (λ byte. list_any (nat_eq byte) bytes) word ≡ true
    → list_any (same_fold word) (words bytes most) ≡ true
unfolding words
word_listed bytes zero [] short all = refl
word_listed bytes zero (byte ∷ word) short all = absurd (omega arith)
word_listed bytes (suc most) [] short all = refl
word_listed bytes (suc most) (byte ∷ word) short all =
    listed_behind (same_fold (byte ∷ word)) (λ b. map (λ fold. b ∷ fold) (words bytes most)) bytes
    byte (first_so (list_any (nat_eq byte) bytes) _ all)
    (one_more byte word (words bytes most)
    (word_listed bytes most word (omega arith) (second_so (list_any (nat_eq byte) bytes) _ all)))

-- ---- each nickname

folds_listed : (bound : ℕ) → ((byte : ℕ) → fold byte < bound) → (name : List ℕ)
    → list_all (λ byte. list_any (nat_eq byte) (bytes_below bound)) (key name) ≡ true
folds_listed bound below [] = refl
folds_listed bound below (byte ∷ name) =
    ap (λ b. b && list_all (λ byte. list_any (nat_eq byte) (bytes_below bound)) (key name))
    (byte_listed bound (fold byte) (below byte)) ∙ folds_listed bound below name

pub all_nicks_are_listed : AllNicksAreListed
unfolding all_nicks
all_nicks_are_listed nick is_nick =
    word_listed (bytes_below 256) max_nick (key nick)
    (omega (arith, key-length nick, nick-fits nick is_nick))
    (folds_listed 256 fold_below nick)
