-- What words of a MODE ask for has no words but theirs.
use Rattle.std.proofs.Common.{◌≡◌, ◌+◌, ◌<◌, ◌≤◌, ℕ, append_assoc, append-nil, option_to_list, Bool}
use Rattle.std.proofs.Common.{true, false, ◌&&◌, Option, Some, None, List, [], ◌∷◌, ◌++◌, drop}
use Rattle.std.proofs.Common.{length, get_or, nat_eq, if◌then◌else◌, not, refl, sym, ◌∙◌, ap, arith}
use Rattle.std.proofs.Common.{suc, zero}
use Rattle.std.specs.List.{cons_option, filter_map, list_all}
use Rattle.std.proofs.lemmas.List.{drop_all, drop_more}
use Rattle.std.specs.Cmp.{first_so, second_so}
use Rattle.std.proofs.lemmas.Bool.Decides.{nat_tests}
use Rattle.std.proofs.lemmas.List.Folds.{list_all-append, list_all-map}
use Rattle.irc_names.specs.Names.{fits, starts_without_colon}
use Rattle.std.specs.Borrow.{Bor}
use Rattle.std.proofs.lemmas.Bool.{and_from}
use Rattle.irc_line.specs.Bytes.{is_space}
use Rattle.irc_line.specs.PartViews.{words_now}
use Rattle.irc_modes.specs.Limits.{max_mode_word}
use Rattle.irc_modes.specs.declared.mode_words.ModeItem.{ModeItem}
use Rattle.irc_modes.specs.declared.modes.ModeLetter.{ModeLetter}
use Rattle.irc_modes.specs.declared.modes.ModeChange.{ModeChange}
use Rattle.irc_modes.specs.declared.modes.ModeLetter.TheVariants as letter
use Rattle.irc_modes.specs.ModeViews.{all_asked, asked}
use Rattle.irc_modes.specs.ModeWords.{Asked, ReadLetter, change, counted, counts, is_sign}
use Rattle.irc_modes.specs.ModeWords.{letter_asks, letters_read, list, mode_of, modes_read}
use Rattle.irc_modes.specs.ModeWords.{next_word, no_word, reading, reading_of, unknown}
use Rattle.irc_modes.specs.ModeWords.{words_after}
use Rattle.irc_modes.specs.Letters.{plus_byte}
use Rattle.irc_link_words.specs.Loops.Changes.{IsKeptWord}
use Rattle.irc_link_words.specs.Words.{is_mode_word, made}

abbrev is_short : List ℕ → Bool
is_short word = fits max_mode_word word

abbrev is_short_if_any : Option (List ℕ) → Bool
is_short_if_any None = true
is_short_if_any (Some word) = is_short word

abbrev pub is_kept : Asked → Bool
is_kept (change plus letter word) = is_short_if_any word
is_kept list = true
is_kept no_word = true
is_kept (unknown byte) = true

-- a letter asks for the next word or for none
letter_kept : (plus : Bool) (byte : ℕ) (letter : ModeLetter) (next : Option (List ℕ))
    → is_short_if_any next ≡ true → is_kept (reading_of plus byte (Some letter) next).asked ≡ true
letter_kept plus byte letter.InviteOnly next short = refl
letter_kept plus byte letter.Moderated next short = refl
letter_kept plus byte letter.NoOutside next short = refl
letter_kept plus byte letter.TopicLocked next short = refl
letter_kept plus byte letter.Private next short = refl
letter_kept plus byte letter.Secret next short = refl
letter_kept true byte letter.Key None short = refl
letter_kept true byte letter.Key (Some word) short = short
letter_kept false byte letter.Key None short = refl
letter_kept false byte letter.Key (Some word) short = short
letter_kept true byte letter.Limit None short = refl
letter_kept true byte letter.Limit (Some word) short = short
letter_kept false byte letter.Limit next short = refl
letter_kept plus byte letter.Ban None short = refl
letter_kept plus byte letter.Ban (Some word) short = short
letter_kept plus byte letter.Operator None short = refl
letter_kept plus byte letter.Operator (Some word) short = short
letter_kept plus byte letter.Voice None short = refl
letter_kept plus byte letter.Voice (Some word) short = short

reading_kept : (plus : Bool) (byte : ℕ) (mode : Option ModeLetter) (next : Option (List ℕ))
    → is_short_if_any next ≡ true → is_kept (reading_of plus byte mode next).asked ≡ true
reading_kept plus byte None next short = refl
reading_kept plus byte (Some letter) next short = letter_kept plus byte letter next short

next_short : (words : List (List ℕ)) → list_all is_short words ≡ true
    → is_short_if_any (next_word words) ≡ true
next_short [] short = refl
next_short (word ∷ words) short = first_so (is_short word) _ short

rest_short : (b : Bool) (words : List (List ℕ)) → list_all is_short words ≡ true
    → list_all is_short (if b then drop 1 words else words) ≡ true
rest_short false words short = short
rest_short true [] short = refl
rest_short true (word ∷ words) short = second_so (is_short word) _ short

letters_kept : (plus : Bool) (letters : List ℕ) (words : List (List ℕ)) → list_all is_short words
    ≡ true → list_all (λ (r : ReadLetter). is_kept r.asked) (letters_read plus letters words) ≡ true
letters_kept plus [] words short = refl
letters_kept plus (byte ∷ letters) words short =
    by_sign (is_sign byte) _ _ (letters_kept (nat_eq byte plus_byte) letters words short)
    (and_from (is_kept (reading plus byte (next_word words)).asked) _
    (reading_kept plus byte (mode_of byte) (next_word words) (next_short words short))
    (letters_kept plus letters (words_after plus byte words)
    (rest_short (letter_asks plus (mode_of byte)) words short)))
  where
    by_sign : (b : Bool) (one other : List ReadLetter) → list_all (λ (r : ReadLetter).
        is_kept r.asked) one ≡ true → list_all (λ (r : ReadLetter). is_kept r.asked) other ≡ true
        → list_all (λ (r : ReadLetter). is_kept r.asked) (if b then one else other) ≡ true
    by_sign true one other first second = first
    by_sign false one other first second = second

counted_kept : (earlier readings : List ReadLetter)
    → list_all (λ (r : ReadLetter). is_kept r.asked) readings ≡ true
    → list_all is_kept (counted earlier readings) ≡ true
counted_kept earlier [] kept = refl
counted_kept earlier (reading ∷ later) kept =
    list_all-append is_kept (if counts earlier reading then reading.asked ∷ [] else [])
    (counted (earlier ++ reading ∷ []) later)
    ∙ and_from _ _ (by_count (counts earlier reading) (first_so (is_kept reading.asked) _ kept))
    (counted_kept (earlier ++ reading ∷ []) later (second_so (is_kept reading.asked) _ kept))
  where
    by_count : (b : Bool) → is_kept reading.asked ≡ true
        → list_all is_kept (if b then reading.asked ∷ [] else []) ≡ true
    by_count true so = and_from _ true so refl
    by_count false so = refl

words_short : (words : List (List ℕ)) → list_all is_mode_word words ≡ true
    → list_all is_short words ≡ true
words_short [] so = refl
words_short (word ∷ words) so =
    and_from _ _ (second_so (starts_without_colon word && list_all (λ b. not (is_space b)) word) _
    (first_so (is_mode_word word) _ so))
    (words_short words (second_so (is_mode_word word) _ so))

pub modes_kept : (words : List (List ℕ)) → list_all is_mode_word words ≡ true
    → list_all is_kept (modes_read words) ≡ true
modes_kept [] so = refl
modes_kept (letters ∷ words) so =
    counted_kept [] (letters_read true letters words) (letters_kept true letters words
    (words_short words (second_so (is_mode_word letters) _ so)))

kept_so : (a : Asked) → is_kept a ≡ true → IsKeptWord a
kept_so (change plus letter None) so = tt
kept_so (change plus letter (Some word)) so = short word so
  where
    short : (word : List ℕ) → fits max_mode_word word ≡ true → length word ≤ max_mode_word
    short word so = grind (arith, nat_tests)
kept_so list so = tt
kept_so no_word so = tt
kept_so (unknown byte) so = tt

pub kept_at : (items : List ModeItem) (i : ℕ) (d : ModeItem) → i < length items
    → list_all is_kept (all_asked items) ≡ true → IsKeptWord (asked (get_or items i d))
kept_at [] i d within so = absurd (omega (arith, within))
kept_at (item ∷ items) zero d within so =
    kept_so (asked item) (first_so (is_kept (asked item)) _ so)
kept_at (item ∷ items) (suc i) d within so =
    kept_at items i d (omega (arith, within)) (second_so (is_kept (asked item)) _ so)

-- what is asked of each word's bytes
pub mode_words_so : (words : List (Bor (List ℕ))) (so : Bool) → so
    ≡ list_all (λ word. is_mode_word word.now) words → so ≡ list_all is_mode_word (words_now words)
mode_words_so words so is = is ∙ sym (list_all-map is_mode_word (λ word. word.now) words)

one_first : (o : Option ModeChange) (rest : List ModeChange)
    → option_to_list o ++ rest ≡ cons_option o rest
one_first None rest = refl
one_first (Some c) rest = refl

-- the change of one item more
pub made_more : (changes more whole : List ModeChange)
    (items : List ModeItem) (i : ℕ) (d : ModeItem) → i < length items
    → more ≡ changes ++ option_to_list (made (asked (get_or items i d)))
    → changes ++ filter_map made (all_asked (drop i items)) ≡ whole
    → more ++ filter_map made (all_asked (drop (i + 1) items)) ≡ whole
made_more changes more whole items i d within pushed so_far =
    let rest = filter_map made (all_asked (drop (i + 1) items)) in
    ap (λ m. m ++ rest) pushed
    ∙ append_assoc changes (option_to_list (made (asked (get_or items i d)))) rest
    ∙ ap (λ t. changes ++ t) (one_first (made (asked (get_or items i d))) rest)
    ∙ sym (ap (λ xs. changes ++ filter_map made (all_asked xs)) (drop_more items i d within))
    ∙ so_far

pub made_done : (changes whole : List ModeChange) (items : List ModeItem) (i : ℕ) → length items ≤ i
    → changes ++ filter_map made (all_asked (drop i items)) ≡ whole → changes ≡ whole
made_done changes whole items i past so_far =
    sym (ap (λ xs. changes ++ filter_map made (all_asked xs)) (drop_all i items past)
    ∙ append-nil changes) ∙ so_far
