-- What is read of the words of a MODE has parameters that a line can carry, where it can carry the
-- words.
use Rattle.std.specs.Prelude.{⊤, ℕ, Bool, true, false, ◌++◌, Option, Some, None, List, [], ◌∷◌}
use Rattle.std.specs.Prelude.{drop, nat_eq}
use Rattle.std.specs.List.{AllByRecursion}
use Rattle.std.specs.Option.{IfSome}
use Rattle.irc_line.specs.Carried.{IsCarried}
use Rattle.irc_modes.specs.declared.modes.ModeLetter.{ModeLetter}
use Rattle.irc_modes.specs.declared.modes.ModeLetter.TheVariants as letter
use Rattle.irc_modes.specs.Letters.{plus_byte}
use Rattle.irc_modes.specs.ModeWords.{Asked, change, ReadLetter, mode_of, needs, answer}
use Rattle.irc_modes.specs.ModeWords.{reading_of, reading, next_word, letter_asks, words_after}
use Rattle.irc_modes.specs.ModeWords.{is_sign, letters_read, counts, counted, modes_read}
use Rattle.irc_acts.specs.ByTest.{by_test}

abbrev pub IsCarriedAsked : Asked → Type 0
IsCarriedAsked (change plus which word) = IfSome word IsCarried
IsCarriedAsked other = ⊤

abbrev IsCarriedLetter : ReadLetter → Type 0
IsCarriedLetter reading = IsCarriedAsked reading.asked

answer_carried : (plus : Bool) (which : ModeLetter) (next : Option (List ℕ))
    → IfSome next IsCarried → IsCarriedAsked (answer (needs plus which) plus which next)
answer_carried plus letter.InviteOnly next carried = tt
answer_carried plus letter.Moderated next carried = tt
answer_carried plus letter.NoOutside next carried = tt
answer_carried plus letter.TopicLocked next carried = tt
answer_carried plus letter.Private next carried = tt
answer_carried plus letter.Secret next carried = tt
answer_carried true letter.Key (Some word) carried = carried
answer_carried true letter.Key None carried = tt
answer_carried false letter.Key (Some word) carried = carried
answer_carried false letter.Key None carried = tt
answer_carried true letter.Limit (Some word) carried = carried
answer_carried true letter.Limit None carried = tt
answer_carried false letter.Limit next carried = tt
answer_carried plus letter.Ban (Some word) carried = carried
answer_carried plus letter.Ban None carried = tt
answer_carried plus letter.Operator (Some word) carried = carried
answer_carried plus letter.Operator None carried = tt
answer_carried plus letter.Voice (Some word) carried = carried
answer_carried plus letter.Voice None carried = tt

reading_carried : (plus : Bool) (byte : ℕ) (mode : Option ModeLetter) (next : Option (List ℕ))
    → IfSome next IsCarried → IsCarriedLetter (reading_of plus byte mode next)
reading_carried plus byte None next carried = tt
reading_carried plus byte (Some which) next carried = answer_carried plus which next carried

next_carried : (words : List (List ℕ)) → AllByRecursion IsCarried words
    → IfSome (next_word words) IsCarried
next_carried [] all = tt
next_carried (word ∷ words) all = all.0

behind_first : (words : List (List ℕ)) → AllByRecursion IsCarried words
    → AllByRecursion IsCarried (drop 1 words)
behind_first [] all = tt
behind_first (word ∷ words) all = all.1

after_carried : (plus : Bool) (byte : ℕ) (words : List (List ℕ)) → AllByRecursion IsCarried words
    → AllByRecursion IsCarried (words_after plus byte words)
after_carried plus byte words all =
    by_test (λ (left : List (List ℕ)). AllByRecursion IsCarried left)
    (letter_asks plus (mode_of byte)) (drop 1 words) words (λ takes. behind_first words all)
    (λ none. all)

letters_carried : (plus : Bool) (letters : List ℕ) (words : List (List ℕ))
    → AllByRecursion IsCarried words
    → AllByRecursion IsCarriedLetter (letters_read plus letters words)
letters_carried plus [] words all = tt
letters_carried plus (byte ∷ letters) words all =
    by_test (λ (readings : List ReadLetter). AllByRecursion IsCarriedLetter readings) (is_sign byte)
    (letters_read (nat_eq byte plus_byte) letters words)
    (reading plus byte (next_word words) ∷ letters_read plus letters (words_after plus byte words))
    (λ sign. letters_carried (nat_eq byte plus_byte) letters words all)
    (λ other. (
      reading_carried plus byte (mode_of byte) (next_word words) (next_carried words all),
      letters_carried plus letters (words_after plus byte words)
          (after_carried plus byte words all),
    ))

counted_carried : (earlier readings : List ReadLetter) → AllByRecursion IsCarriedLetter readings
    → AllByRecursion IsCarriedAsked (counted earlier readings)
counted_carried earlier [] all = tt
counted_carried earlier (reading ∷ later) all =
    let rest = counted_carried (earlier ++ reading ∷ []) later all.1 in
    by_test (λ (items : List Asked).
    AllByRecursion IsCarriedAsked (items ++ counted (earlier ++ reading ∷ []) later))
    (counts earlier reading) (reading.asked ∷ []) []
    (λ counts. (all.0, rest)) (λ dropped. rest)

pub read_carried : (words : List (List ℕ)) → AllByRecursion IsCarried words
    → AllByRecursion IsCarriedAsked (modes_read words)
read_carried [] all = tt
read_carried (letters ∷ words) all =
    counted_carried [] (letters_read true letters words) (letters_carried true letters words all.1)
