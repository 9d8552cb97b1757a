-- The words that changes are written as can stand in a line of a link: at most eleven letters with
-- their signs, and parameters that are short and without a space.
use Rattle.std.proofs.Common.{◌≡◌, ◌≢◌, ℕ, ◌+◌, ◌≤◌, Bool, true, false, cond, not, ◌&&◌}
use Rattle.std.proofs.Common.{◌++◌, if◌then◌else◌, Option, Some, None, List, [], ◌∷◌, length}
use Rattle.std.proofs.Common.{nat_eq, is_some, count_by, refl, sym, ◌∙◌, ap, arith, IfSome}
use Rattle.std.specs.List.{list_all, filter_map, cons_option, AllByRecursion}
use Rattle.std.specs.Char.{is_ascii_digit}
use Rattle.std.specs.Cmp.{first_so, second_so}
use Rattle.std.proofs.lemmas.Bool.{and_from, not-true}
use Rattle.std.proofs.lemmas.Bool.Decides.{nat_tests}
use Rattle.std.proofs.Math.Bool.{false≢true}
use Rattle.irc_line.specs.Bytes.{is_space, is_colon, begins}
use Rattle.irc_line.specs.Carried.{is_carried, is_carried_byte}
use Rattle.irc_line.specs.Messages.{IsPlainWord}
use Rattle.irc_names.specs.Names.{fits, is_ban_mask, is_key, is_nick, starts_without_colon}
use Rattle.irc_modes.specs.declared.modes.ModeChange.{ModeChange}
use Rattle.irc_modes.specs.declared.modes.ModeLetter.{ModeLetter}
use Rattle.irc_modes.specs.declared.modes.ModeLetter.TheVariants as letter
use Rattle.irc_modes.specs.Letters.{letter_byte, sign_byte}
use Rattle.irc_modes.specs.Limits.{max_mode_word}
use Rattle.irc_modes.specs.Modes.{is_limit, is_nil}
use Rattle.irc_modes.specs.ModeWritten.{changes_written, letters_behind, letters_text}
use Rattle.irc_modes.specs.Lemmas.FewChanges.{counted_first, letters_few}
use Rattle.irc_modes.specs.Readable.{AreReadable, has_its_word, is_parameter, is_worded}
use Rattle.irc_modes.specs.Readable.{word_fits}
use Rattle.irc_room.specs.Laws.{NamesAreLineWords}
use Rattle.irc_room.specs.Room.{Room}
use Rattle.irc_room.specs.Seen.{names_member}
use Rattle.irc_room.specs.Sendable.{IsSentChange, IsSentWord}
use Rattle.irc_link_words.specs.Words.{is_mode_word}
use Rattle.irc_readback.specs.Lemmas.LinesReadBack.{carried_no_nul, nick_short}

-- a first byte that is no colon
no_first_colon : (word : List ℕ) → starts_without_colon word ≡ true → begins is_colon word ≡ false
no_first_colon [] starts = refl
no_first_colon (byte ∷ bytes) starts = not-true (is_colon byte) starts

abbrev no_spaces : List ℕ → Bool
no_spaces bytes = list_all (λ b. not (is_space b)) bytes

-- a test that each letter and each sign passes
record IsPassed (p : ℕ → Bool) : Type 0 where
  letters : (which : ModeLetter) → p (letter_byte which) ≡ true
  plus : p (sign_byte true) ≡ true
  minus : p (sign_byte false) ≡ true

behind_pass : (p : ℕ → Bool) → IsPassed p → (sign : Bool) (changes : List ModeChange)
    → list_all p (letters_behind sign changes) ≡ true
behind_pass p passed sign [] = refl
behind_pass p passed sign (change ∷ changes) =
    by_signs change.plus sign (letter_byte change.letter ∷ letters_behind change.plus changes)
    (and_from (p (letter_byte change.letter)) _ (passed.letters change.letter)
    (behind_pass p passed change.plus changes))
  where
    by_signs : (plus sign : Bool) (behind : List ℕ) → list_all p behind ≡ true
        → list_all p ((if plus then (if sign then [] else sign_byte true ∷ [])
        else (if sign then sign_byte false ∷ [] else [])) ++ behind) ≡ true
    by_signs true true behind so = so
    by_signs true false behind so = and_from (p (sign_byte true)) _ passed.plus so
    by_signs false true behind so = and_from (p (sign_byte false)) _ passed.minus so
    by_signs false false behind so = so

letters_pass : (p : ℕ → Bool) → IsPassed p → (changes : List ModeChange)
    → list_all p (letters_text changes) ≡ true
letters_pass p passed [] = refl
letters_pass p passed (change ∷ changes) =
    and_from (p (sign_byte change.plus)) _ (by_sign change.plus)
    (and_from (p (letter_byte change.letter)) _ (passed.letters change.letter)
    (behind_pass p passed change.plus changes))
  where
    by_sign : (plus : Bool) → p (sign_byte plus) ≡ true
    by_sign true = passed.plus
    by_sign false = passed.minus

spaces_pass : IsPassed (λ b. not (is_space b))
spaces_pass = record { letters = letter_so; plus = refl; minus = refl }
  where
    letter_so : (which : ModeLetter) → not (is_space (letter_byte which)) ≡ true
    letter_so letter.InviteOnly = refl
    letter_so letter.Moderated = refl
    letter_so letter.NoOutside = refl
    letter_so letter.TopicLocked = refl
    letter_so letter.Private = refl
    letter_so letter.Secret = refl
    letter_so letter.Key = refl
    letter_so letter.Limit = refl
    letter_so letter.Ban = refl
    letter_so letter.Operator = refl
    letter_so letter.Voice = refl

carried_pass : IsPassed is_carried_byte
carried_pass = record { letters = letter_so; plus = refl; minus = refl }
  where
    letter_so : (which : ModeLetter) → is_carried_byte (letter_byte which) ≡ true
    letter_so letter.InviteOnly = refl
    letter_so letter.Moderated = refl
    letter_so letter.NoOutside = refl
    letter_so letter.TopicLocked = refl
    letter_so letter.Private = refl
    letter_so letter.Secret = refl
    letter_so letter.Key = refl
    letter_so letter.Limit = refl
    letter_so letter.Ban = refl
    letter_so letter.Operator = refl
    letter_so letter.Voice = refl

letters_start : (changes : List ModeChange) → is_nil changes ≡ false
    → starts_without_colon (letters_text changes) ≡ true
letters_start [] filled = absurd (false≢true (sym filled))
letters_start (change ∷ changes) filled = by_sign change.plus
  where
    by_sign : (plus : Bool) → not (nat_eq (sign_byte plus) 0x3A) ≡ true
    by_sign true = refl
    by_sign false = refl

-- the letters of changes
letters_word : (changes : List ModeChange) → AreReadable changes
    → is_mode_word (letters_text changes) ≡ true
letters_word changes readable =
    let letters = letters_text changes in
    let few = letters_few changes readable in
    let short : length letters ≤ 90 = omega (arith, few) in
    and_from (starts_without_colon letters && no_spaces letters) (fits max_mode_word letters)
    (and_from (starts_without_colon letters) (no_spaces letters)
    (letters_start changes readable.filled) (letters_pass _ spaces_pass changes))
    (grind (arith, nat_tests))

pub letters_carried : (changes : List ModeChange) → is_carried (letters_text changes) ≡ true
letters_carried changes = letters_pass is_carried_byte carried_pass changes

pub letters_plain : (changes : List ModeChange) → AreReadable changes
    → IsPlainWord (letters_text changes)
letters_plain changes readable = record {
  is_some = some changes readable.filled;
  no_space = letters_pass _ spaces_pass changes;
  no_colon = no_first_colon (letters_text changes) (letters_start changes readable.filled);
  no_nul = carried_no_nul (letters_text changes) (letters_carried changes);
}
  where
    some : (changes : List ModeChange) → is_nil changes ≡ false → letters_text changes ≢ []
    some [] filled = absurd (false≢true (sym filled))
    some (change ∷ changes) filled = λ e. cc e

-- ---- the parameters

no_colon : (word : List ℕ) → word ≢ [] → begins is_colon word ≡ false
    → starts_without_colon word ≡ true
no_colon [] some other = absurd (some refl)
no_colon (byte ∷ bytes) some other = ap not other

plain_word : (word : List ℕ) → IsPlainWord word → length word ≤ 90 → is_mode_word word ≡ true
plain_word word plain short =
    and_from (starts_without_colon word && no_spaces word) (fits max_mode_word word)
    (and_from (starts_without_colon word) (no_spaces word)
    (no_colon word plain.is_some plain.no_colon) plain.no_space) (grind (arith, nat_tests))

key_short : (word : List ℕ) → is_key word ≡ true → length word ≤ 23
unfolding is_key
key_short word is = grind (arith, nat_tests)

key_word : NamesAreLineWords → (word : List ℕ) → is_key word ≡ true → is_mode_word word ≡ true
key_word names word is = let short =
    key_short word is in plain_word word (names.key word is).plain (omega (arith, short))

nick_word : NamesAreLineWords → (word : List ℕ) → is_nick word ≡ true → is_mode_word word ≡ true
nick_word names word is = let short =
    nick_short word is in plain_word word (names.nick word is).plain (omega (arith, short))

-- the mask of a ban keeps just this rule
mask_word : (word : List ℕ) → is_ban_mask word ≡ true → is_mode_word word ≡ true
unfolding is_ban_mask
mask_word word is = is

-- bytes that keep a rule which refuses the space
spaceless : (allows : ℕ → Bool) → ((byte : ℕ) → allows byte ≡ true → not (is_space byte) ≡ true)
    → (bytes : List ℕ) → list_all allows bytes ≡ true → no_spaces bytes ≡ true
spaceless allows other [] all = refl
spaceless allows other (byte ∷ bytes) all =
    and_from (not (is_space byte)) (no_spaces bytes)
    (other byte (first_so (allows byte) (list_all allows bytes) all))
    (spaceless allows other bytes (second_so (allows byte) (list_all allows bytes) all))

digit_no_space : (byte : ℕ) → is_ascii_digit byte ≡ true → not (is_space byte) ≡ true
digit_no_space byte is = grind (arith, nat_tests)

digit_carried : (byte : ℕ) → is_ascii_digit byte ≡ true → is_carried_byte byte ≡ true
digit_carried byte is = grind (arith, nat_tests)

digit_no_colon : (byte : ℕ) → is_ascii_digit byte ≡ true → not (nat_eq byte 58) ≡ true
digit_no_colon byte is = grind (arith, nat_tests)

pub digits_carried : (digits : List ℕ) → list_all is_ascii_digit digits ≡ true
    → is_carried digits ≡ true
digits_carried [] all = refl
digits_carried (byte ∷ bytes) all =
    and_from (is_carried_byte byte) _
    (digit_carried byte (first_so (is_ascii_digit byte) (list_all is_ascii_digit bytes) all))
    (digits_carried bytes (second_so (is_ascii_digit byte) (list_all is_ascii_digit bytes) all))

-- digits are a word that is read again
pub digits_plain : (digits : List ℕ) → list_all is_ascii_digit digits ≡ true → digits ≢ []
    → IsPlainWord digits
digits_plain [] all some = absurd (some refl)
digits_plain (byte ∷ bytes) all some = record {
  is_some = some;
  no_space = spaceless is_ascii_digit digit_no_space (byte ∷ bytes) all;
  no_colon = no_first_colon (byte ∷ bytes)
      (digit_no_colon byte (first_so (is_ascii_digit byte) (list_all is_ascii_digit bytes) all));
  no_nul = carried_no_nul (byte ∷ bytes) (digits_carried (byte ∷ bytes) all);
}

limit_digits : (word : List ℕ) → is_limit word ≡ true → list_all is_ascii_digit word ≡ true
unfolding is_limit
limit_digits word is =
    let digits = list_all is_ascii_digit word in
    first_so digits (fits 5 word) (first_so (digits && fits 5 word) _ is)

limit_some : (word : List ℕ) → is_limit word ≡ true → word ≢ []
unfolding is_limit
limit_some [] is = absurd (false≢true is)
limit_some (byte ∷ bytes) is = λ e. cc e

limit_short : (word : List ℕ) → is_limit word ≡ true → length word ≤ 5
unfolding is_limit
limit_short word is =
    let digits = list_all is_ascii_digit word in
    let few : fits 5 word ≡ true =
    second_so digits (fits 5 word) (first_so (digits && fits 5 word) _ is) in
    grind (arith, nat_tests)

limit_plain : (word : List ℕ) → is_limit word ≡ true → IsPlainWord word
limit_plain word is = digits_plain word (limit_digits word is) (limit_some word is)

limit_word : (word : List ℕ) → is_limit word ≡ true → is_mode_word word ≡ true
limit_word word is =
    let short = limit_short word is in plain_word word (limit_plain word is) (omega (arith, short))

parameter_word : NamesAreLineWords → (which : ModeLetter) (word : List ℕ)
    → is_parameter which word ≡ true → is_mode_word word ≡ true
parameter_word names letter.Key word is = key_word names word is
parameter_word names letter.Limit word is = limit_word word (first_so (is_limit word) _ is)
parameter_word names letter.Ban word is = mask_word word is
parameter_word names letter.Operator word is = nick_word names word is
parameter_word names letter.Voice word is = nick_word names word is
parameter_word names letter.InviteOnly word is = absurd (false≢true is)
parameter_word names letter.Moderated word is = absurd (false≢true is)
parameter_word names letter.NoOutside word is = absurd (false≢true is)
parameter_word names letter.TopicLocked word is = absurd (false≢true is)
parameter_word names letter.Private word is = absurd (false≢true is)
parameter_word names letter.Secret word is = absurd (false≢true is)

one_word : NamesAreLineWords → (plus : Bool) (which : ModeLetter) (word : Option (List ℕ))
    (rest : List (List ℕ)) → word_fits plus which word ≡ true → list_all is_mode_word rest ≡ true
    → list_all is_mode_word (cons_option word rest) ≡ true
one_word names plus which None rest fits so = so
one_word names plus which (Some word) rest fits so =
    and_from (is_mode_word word) _ (parameter_word names which word (second_so _ _ fits)) so

parameter_words : NamesAreLineWords → (changes : List ModeChange) → list_all has_its_word changes
    ≡ true → list_all is_mode_word (filter_map (λ (c : ModeChange). c.word) changes) ≡ true
parameter_words names [] all = refl
parameter_words names (change ∷ changes) all =
    one_word names change.plus change.letter change.word
    (filter_map (λ (c : ModeChange). c.word) changes)
    (first_so (has_its_word change) (list_all has_its_word changes) all)
    (parameter_words names changes
    (second_so (has_its_word change) (list_all has_its_word changes) all))

-- all words of changes that are read as they are written
pub mode_words : NamesAreLineWords → (changes : List ModeChange) → AreReadable changes
    → list_all is_mode_word (changes_written changes) ≡ true
mode_words names changes readable =
    and_from (is_mode_word (letters_text changes)) _ (letters_word changes readable)
    (parameter_words names changes readable.worded)

-- ---- all of them are read again as they were written

parameter_plain : NamesAreLineWords → (room : Room) (which : ModeLetter) (word : List ℕ)
    → is_parameter which word ≡ true → IsSentWord room (names_member which) word → IsPlainWord word
parameter_plain names room letter.Key word is sent = (names.key word is).plain
parameter_plain names room letter.Limit word is sent =
    limit_plain word (first_so (is_limit word) _ is)
parameter_plain names room letter.Ban word is sent = (names.ban word is sent).plain
parameter_plain names room letter.Operator word is sent = (names.nick word is).plain
parameter_plain names room letter.Voice word is sent = (names.nick word is).plain
parameter_plain names room letter.InviteOnly word is sent = absurd (false≢true is)
parameter_plain names room letter.Moderated word is sent = absurd (false≢true is)
parameter_plain names room letter.NoOutside word is sent = absurd (false≢true is)
parameter_plain names room letter.TopicLocked word is sent = absurd (false≢true is)
parameter_plain names room letter.Private word is sent = absurd (false≢true is)
parameter_plain names room letter.Secret word is sent = absurd (false≢true is)

one_plain : NamesAreLineWords → (room : Room) (plus : Bool) (which : ModeLetter)
    (word : Option (List ℕ)) (rest : List (List ℕ)) → word_fits plus which word ≡ true
    → IfSome word (IsSentWord room (names_member which)) → AllByRecursion IsPlainWord rest
    → AllByRecursion IsPlainWord (cons_option word rest)
one_plain names room plus which None rest fits sent so = so
one_plain names room plus which (Some word) rest fits sent so =
    (parameter_plain names room which word (second_so _ _ fits) sent, so)

parameters_plain : NamesAreLineWords → (room : Room) (changes : List ModeChange)
    → list_all has_its_word changes ≡ true → AllByRecursion (IsSentChange room) changes
    → AllByRecursion IsPlainWord (filter_map (λ (c : ModeChange). c.word) changes)
parameters_plain names room [] all sent = tt
parameters_plain names room (change ∷ changes) all sent =
    one_plain names room change.plus change.letter change.word
    (filter_map (λ (c : ModeChange). c.word) changes)
    (first_so (has_its_word change) (list_all has_its_word changes) all) sent.0
    (parameters_plain names room changes
    (second_so (has_its_word change) (list_all has_its_word changes) all) sent.1)

pub words_plain : NamesAreLineWords → (room : Room) (changes : List ModeChange)
    → AreReadable changes → AllByRecursion (IsSentChange room) changes
    → AllByRecursion IsPlainWord (changes_written changes)
words_plain names room changes readable sent =
    (letters_plain changes readable, parameters_plain names room changes readable.worded sent)

-- as many parameters as changes with a word
pub worded_counted : (changes : List ModeChange)
    → length (filter_map (λ (c : ModeChange). c.word) changes) ≡ count_by is_worded changes
worded_counted [] = refl
worded_counted (change ∷ changes) =
    by change.word (filter_map (λ (c : ModeChange). c.word) changes) (count_by is_worded changes)
    (worded_counted changes)
    ∙ sym (counted_first is_worded change changes)
  where
    by : (word : Option (List ℕ)) (rest : List (List ℕ)) (count : ℕ) → length rest ≡ count
        → length (cons_option word rest) ≡ cond (is_some word) 1 0 + count
    by None rest count same = omega arith
    by (Some word) rest count same = omega arith
