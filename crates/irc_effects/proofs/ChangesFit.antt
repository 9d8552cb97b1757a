-- How long the words are that changes of modes are written as, where they are read again: at most
-- eleven letters, three of them with a parameter.
use Rattle.std.proofs.Common.{◌≡◌, ℕ, ◌+◌, ◌*◌, ◌≤◌, Bool, true, false, cond, if◌then◌else◌, Option}
use Rattle.std.proofs.Common.{Some, None, List, [], ◌∷◌, length, is_some, sym, subst, option_map}
use Rattle.std.proofs.Common.{arith}
use Rattle.std.specs.List.{list_all, filter_map, count_by, cons_option, AllByRecursion}
use Rattle.std.specs.Option.{option_map_or, IfSome}
use Rattle.std.specs.Cmp.{first_so, second_so}
use Rattle.std.proofs.lemmas.Option.{same_Some, none-some}
use Rattle.std.proofs.Math.Bool.{false≢true}
use Rattle.irc_line.specs.Lemmas.Lengths.{words_size}
use Rattle.irc_names.specs.Fold.{key}
use Rattle.irc_names.specs.Limits.{max_nick}
use Rattle.irc_names.specs.Tables.{row}
use Rattle.irc_names.specs.Lemmas.RuleFacts.{nick-fits, key-fits, ban_mask-fits}
use Rattle.irc_users.specs.declared.user.User.{User}
use Rattle.irc_modes.specs.declared.modes.ModeChange.{ModeChange}
use Rattle.irc_modes.specs.declared.modes.ModeLetter.{ModeLetter}
use Rattle.irc_modes.specs.declared.modes.ModeLetter.TheVariants as letter
use Rattle.irc_modes.specs.Modes.{is_limit}
use Rattle.irc_modes.specs.Lemmas.FewChanges.{counted_first, few_changes, letters_short}
use Rattle.irc_modes.specs.ModeWritten.{letters_text}
use Rattle.irc_modes.specs.Readable.{is_parameter, word_fits, has_its_word, is_worded}
use Rattle.irc_modes.specs.Readable.{AreReadable}
use Rattle.irc_modes.specs.Lemmas.LimitFacts.{limit-few}
use Rattle.irc_effects.specs.Room.{Room}
use Rattle.irc_effects.specs.Seen.{stored_nick, names_member, written_word, changes_words}
use Rattle.irc_effects.specs.Sendable.{IsStoredNick, IsSentWord, IsSentChange}

parameter_short : (which : ModeLetter) (word : List ℕ) → is_parameter which word ≡ true
    → length word ≤ 90
parameter_short letter.Key word is = let short : length word ≤ 23 = key-fits word is in
    omega (arith, short)
parameter_short letter.Limit word is = let short : length word ≤ 5 =
    limit-few word (first_so (is_limit word) _ is) in omega (arith, short)
parameter_short letter.Ban word is = ban_mask-fits word is
parameter_short letter.Operator word is = let short : length word ≤ max_nick = nick-fits word is in
    omega (arith, short)
parameter_short letter.Voice word is = let short : length word ≤ max_nick = nick-fits word is in
    omega (arith, short)
parameter_short letter.InviteOnly word is = absurd (false≢true is)
parameter_short letter.Moderated word is = absurd (false≢true is)
parameter_short letter.NoOutside word is = absurd (false≢true is)
parameter_short letter.TopicLocked word is = absurd (false≢true is)
parameter_short letter.Private word is = absurd (false≢true is)
parameter_short letter.Secret word is = absurd (false≢true is)

-- a stored nickname is written as it is
pub nick_as_stored : (room : Room) (nick : List ℕ) → IsStoredNick room nick
    → stored_nick room nick ≡ nick
nick_as_stored room nick is = by (row room.users (key nick)) is
  where
    by : (o : Option User) → option_map (λ (user : User). user.nick) o ≡ Some nick
        → option_map_or (λ (user : User). user.nick) o nick ≡ nick
    by None is = absurd (none-some nick is)
    by (Some user) is = same_Some user.nick nick is

written_short : (room : Room) (member : Bool) (word : List ℕ) → length word ≤ 90
    → IsSentWord room member word → length (if member then stored_nick room word else word) ≤ 90
written_short room true word short sent =
    subst (λ (w : List ℕ). length w ≤ 90) (sym (nick_as_stored room word sent)) short
written_short room false word short sent = short

word_added : (word rest count : ℕ) → word ≤ 90 → rest ≤ 91 * count
    → 1 + word + rest ≤ 91 * (1 + count)
word_added word rest count short fits = omega arith

none_added : (rest count : ℕ) → rest ≤ 91 * count → rest ≤ 91 * (0 + count)
none_added rest count fits = omega arith

-- the parameter of one more change
one_size : (room : Room) (member : Bool) (word : Option (List ℕ)) (rest : List (List ℕ)) (count : ℕ)
    → IfSome word (λ w. length (if member then stored_nick room w else w) ≤ 90)
    → words_size rest ≤ 91 * count
    → words_size (cons_option (if member then option_map (stored_nick room) word else word) rest)
    ≤ 91 * (cond (is_some word) 1 0 + count)
one_size room true None rest count short fits = none_added (words_size rest) count fits
one_size room false None rest count short fits = none_added (words_size rest) count fits
one_size room true (Some word) rest count short fits =
    word_added (length (stored_nick room word)) (words_size rest) count short fits
one_size room false (Some word) rest count short fits =
    word_added (length word) (words_size rest) count short fits

one_short : (room : Room) (plus : Bool) (which : ModeLetter) (word : Option (List ℕ))
    → word_fits plus which word ≡ true → IfSome word (IsSentWord room (names_member which))
    → IfSome word (λ w. length (if names_member which then stored_nick room w else w) ≤ 90)
one_short room plus which None fits sent = tt
one_short room plus which (Some word) fits sent = written_short room (names_member which) word
    (parameter_short which word (second_so _ _ fits)) sent

words_short : (room : Room) (changes : List ModeChange)
    → list_all has_its_word changes ≡ true → AllByRecursion (IsSentChange room) changes
    → words_size (filter_map (written_word room) changes) ≤ 91 * count_by is_worded changes
words_short room [] all sent = omega arith
words_short room (change ∷ changes) all sent =
    subst (λ (n : ℕ). words_size (filter_map (written_word room) (change ∷ changes)) ≤ 91 * n)
    (sym (counted_first is_worded change changes))
    (one_size room (names_member change.letter) change.word (filter_map (written_word room) changes)
    (count_by is_worded changes)
    (one_short room change.plus change.letter change.word
    (first_so (has_its_word change) (list_all has_its_word changes) all) sent.0)
    (words_short room changes
    (second_so (has_its_word change) (list_all has_its_word changes) all) sent.1))

added : (count letters words worded : ℕ) → count ≤ 11 → letters ≤ 2 * count → words ≤ 91 * worded
    → worded ≤ 3 → 1 + letters + words ≤ 296
added count letters words worded few letters_fit words_fit few_words = omega arith

-- all words of some changes
pub changes_short : (room : Room) (changes : List ModeChange) → AreReadable changes
    → AllByRecursion (IsSentChange room) changes → words_size (changes_words room changes) ≤ 296
changes_short room changes readable sent =
    added (length changes) (length (letters_text changes))
    (words_size (filter_map (written_word room) changes)) (count_by is_worded changes)
    (few_changes changes readable) (letters_short changes)
    (words_short room changes readable.worded sent) readable.few
