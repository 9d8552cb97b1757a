-- How many changes there are, where they are read again: at most eleven letters with their signs,
-- three of them with a parameter.
use Rattle.std.proofs.Common.{◌≡◌, ℕ, suc, ◌+◌, ◌*◌, ◌≤◌, Bool, true, false, cond, ◌++◌}
use Rattle.std.proofs.Common.{if◌then◌else◌, Option, Some, None, List, [], ◌∷◌, length, nat_eq}
use Rattle.std.proofs.Common.{is_some, sum_by, count_by, refl, ◌∙◌, arith}
use Rattle.std.specs.List.{list_all}
use Rattle.std.specs.Cmp.{first_so, second_so}
use Rattle.std.proofs.lemmas.List.Sums.{sum_by-cons}
use Rattle.std.proofs.Math.Bool.{false≢true}
use Rattle.irc_modes.specs.declared.modes.ModeChange.{ModeChange}
use Rattle.irc_modes.specs.declared.modes.ModeLetter.{ModeLetter}
use Rattle.irc_modes.specs.declared.modes.ModeLetter.TheVariants as letter
use Rattle.irc_modes.specs.Letters.{letter_byte, sign_byte}
use Rattle.irc_modes.specs.ModeWritten.{letters_behind, letters_text}
use Rattle.irc_modes.specs.Readable.{AreReadable, has_its_word, is_of, is_worded, word_fits}

-- ---- how many changes there are

-- the letters of which there is one at most
abbrev single : List ModeLetter
single =
    letter.InviteOnly ∷ letter.Moderated ∷ letter.NoOutside ∷ letter.TopicLocked ∷ letter.Private
    ∷ letter.Secret ∷ letter.Key ∷ letter.Limit ∷ []

-- a letter is one of these, or has a parameter
one_counted : (plus : Bool) (which : ModeLetter) (word : Option (List ℕ))
    → word_fits plus which word ≡ true → 1 ≤ sum_by (λ (l : ModeLetter).
    cond (nat_eq (letter_byte l) (letter_byte which)) 1 0) single + cond (is_some word) 1 0
one_counted plus letter.InviteOnly word fits = omega arith
one_counted plus letter.Moderated word fits = omega arith
one_counted plus letter.NoOutside word fits = omega arith
one_counted plus letter.TopicLocked word fits = omega arith
one_counted plus letter.Private word fits = omega arith
one_counted plus letter.Secret word fits = omega arith
one_counted plus letter.Key word fits = omega arith
one_counted plus letter.Limit word fits = omega arith
one_counted plus letter.Ban None fits = absurd (false≢true fits)
one_counted plus letter.Ban (Some word) fits = omega arith
one_counted plus letter.Operator None fits = absurd (false≢true fits)
one_counted plus letter.Operator (Some word) fits = omega arith
one_counted plus letter.Voice None fits = absurd (false≢true fits)
one_counted plus letter.Voice (Some word) fits = omega arith

pub counted_first : (p : ModeChange → Bool) (change : ModeChange) (changes : List ModeChange)
    → count_by p (change ∷ changes) ≡ cond (p change) 1 0 + count_by p changes
counted_first p change changes = sum_by-cons (λ c. cond (p c) 1 0) change changes

abbrev of_any : List ModeLetter → List ModeChange → ℕ
of_any letters changes = sum_by (λ (l : ModeLetter). count_by (is_of l) changes) letters

abbrev is_any : List ModeLetter → ModeChange → ℕ
is_any letters change = sum_by (λ (l : ModeLetter). cond (is_of l change) 1 0) letters

joined : (all first rest one more ones mores : ℕ) → all ≡ first + rest → first ≡ one + more
    → rest ≡ ones + mores → all ≡ (one + ones) + (more + mores)
joined all first rest one more ones mores all_is first_is rest_is = omega arith

any_first : (letters : List ModeLetter) (change : ModeChange) (changes : List ModeChange)
    → of_any letters (change ∷ changes) ≡ is_any letters change + of_any letters changes
any_first [] change changes = refl
any_first (l ∷ letters) change changes =
    joined (of_any (l ∷ letters) (change ∷ changes)) (count_by (is_of l) (change ∷ changes))
    (of_any letters (change ∷ changes))
    (cond (is_of l change) 1 0) (count_by (is_of l) changes) (is_any letters change)
    (of_any letters changes)
    (sum_by-cons (λ (m : ModeLetter). count_by (is_of m) (change ∷ changes)) l letters)
    (counted_first (is_of l) change changes)
    (any_first letters change changes)
    ∙ both (sum_by-cons (λ (m : ModeLetter). cond (is_of m change) 1 0) l letters)
    (sum_by-cons (λ (m : ModeLetter). count_by (is_of m) changes) l letters)
  where
    both : {a b c d : ℕ} → a ≡ b → c ≡ d → b + d ≡ a + c
    both one other = omega arith

one_more : (singles more_singles one worded more_worded this count more_count : ℕ)
    → count ≤ singles + worded → 1 ≤ one + this → more_singles ≡ one + singles
    → more_worded ≡ this + worded → more_count ≡ suc count → more_count ≤ more_singles + more_worded
one_more singles more_singles one worded more_worded this count more_count before some singles_is
    worded_is count_is = omega arith

all_counted : (changes : List ModeChange) → list_all has_its_word changes ≡ true
    → length changes ≤ of_any single changes + count_by is_worded changes
all_counted [] all = omega arith
all_counted (change ∷ changes) all =
    one_more (of_any single changes) (of_any single (change ∷ changes)) (is_any single change)
    (count_by is_worded changes)
    (count_by is_worded (change ∷ changes)) (cond (is_worded change) 1 0) (length changes)
    (length (change ∷ changes))
    (all_counted changes (second_so (has_its_word change) (list_all has_its_word changes) all))
    (one_counted change.plus change.letter change.word
    (first_so (has_its_word change) (list_all has_its_word changes) all))
    (any_first single change changes) (counted_first is_worded change changes) refl

eight : (i m n t p s k l : ℕ) → i ≤ 1 → m ≤ 1 → n ≤ 1 → t ≤ 1 → p ≤ 1 → s ≤ 1 → k ≤ 1 → l ≤ 1
    → sum_by (λ (x : ℕ). x) (i ∷ m ∷ n ∷ t ∷ p ∷ s ∷ k ∷ l ∷ []) ≤ 8
eight i m n t p s k l i_one m_one n_one t_one p_one s_one k_one l_one = omega arith

pub few_changes : (changes : List ModeChange) → AreReadable changes → length changes ≤ 11
few_changes changes readable =
    let singles : of_any single changes ≤ 8 =
    eight (count_by (is_of letter.InviteOnly) changes) (count_by (is_of letter.Moderated) changes)
    (count_by (is_of letter.NoOutside) changes)
    (count_by (is_of letter.TopicLocked) changes) (count_by (is_of letter.Private) changes)
    (count_by (is_of letter.Secret) changes)
    (count_by (is_of letter.Key) changes) (count_by (is_of letter.Limit) changes)
    (readable.once letter.InviteOnly refl) (readable.once letter.Moderated refl)
    (readable.once letter.NoOutside refl)
    (readable.once letter.TopicLocked refl) (readable.once letter.Private refl)
    (readable.once letter.Secret refl)
    (readable.once letter.Key refl) (readable.once letter.Limit refl) in
    let all = all_counted changes readable.worded in
    let worded : count_by is_worded changes ≤ 3 = readable.few in
    omega (arith, singles, all, worded)

-- ---- the letters

behind_short : (sign : Bool) (changes : List ModeChange)
    → length (letters_behind sign changes) ≤ 2 * length changes
behind_short sign [] = omega arith
behind_short sign (change ∷ changes) =
    by_signs change.plus sign (letter_byte change.letter) (letters_behind change.plus changes)
    (length changes) (behind_short change.plus changes)
  where
    by_signs : (plus sign : Bool) (byte : ℕ) (behind : List ℕ) (count : ℕ) → length behind
        ≤ 2 * count → length ((if plus then (if sign then [] else sign_byte true ∷ [])
        else (if sign then sign_byte false ∷ [] else [])) ++ byte ∷ behind) ≤ 2 * suc count
    by_signs true true byte behind count short = omega arith
    by_signs true false byte behind count short = omega arith
    by_signs false true byte behind count short = omega arith
    by_signs false false byte behind count short = omega arith

pub letters_short : (changes : List ModeChange) → length (letters_text changes) ≤ 2 * length changes
letters_short [] = omega arith
letters_short (change ∷ changes) = let short = behind_short change.plus changes in
    omega (arith, short)

letters_size : (letters count : ℕ) → letters ≤ 2 * count → count ≤ 11 → letters ≤ 22
letters_size letters count twice few = omega arith

pub letters_few : (changes : List ModeChange) → AreReadable changes
    → length (letters_text changes) ≤ 22
letters_few changes readable = letters_size (length (letters_text changes)) (length changes)
    (letters_short changes) (few_changes changes readable)
