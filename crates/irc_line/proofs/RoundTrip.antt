-- What is written from plain parts is read as these parts.
use Rattle.std.proofs.Common.{◌≡◌, ◌≢◌, ℕ, ◌-◌, ◌≤◌, Bool, true, false, ◌||◌, ◌&&◌, not, Option}
use Rattle.std.proofs.Common.{Some, None, List, [], ◌∷◌, ◌++◌, length, refl, sym, inl, inr, ◌∙◌, ap}
use Rattle.std.proofs.Common.{subst, append_assoc, append-nil, arith, option_to_list, unwrap_or}
use Rattle.std.specs.List.{list_any, list_all, AllByRecursion}
use Rattle.std.proofs.lemmas.Bool.{cases_lt}
use Rattle.std.proofs.lemmas.List.Folds.{list_any-append}
use Rattle.irc_line.specs.Limits.{max_parameters}
use Rattle.irc_line.specs.Bytes.{is_space, is_colon, is_nul, has_nul, begins, colon, space}
use Rattle.irc_line.specs.Messages.{Parsed, Written, prefix_of, prefix_text, middle_text, last_text}
use Rattle.irc_line.specs.Messages.{joined_text, line_text, message_of, IsPlainWord, IsPlain}
use Rattle.irc_line.specs.Grammar.{is_word_byte, HasNoSpace, EndsWord, ReadsParams, no_more}
use Rattle.irc_line.specs.Grammar.{behind_colon, the_rest, one_word, CommandAt, Reads, plain}
use Rattle.irc_line.specs.Grammar.{prefixed}
use Rattle.irc_line.specs.Laws.{WrittenIsRead}
use Rattle.irc_line.specs.Lemmas.CutLaws.{cut_all}

-- the text of parameters begins with a space, or is nothing
words_end_word : (words : List (List ℕ)) (more : List ℕ) → EndsWord more
    → EndsWord (middle_text words ++ more)
words_end_word [] more ends = ends
words_end_word (word ∷ words) more ends = refl

last_ends_word : (last : Option (List ℕ)) → EndsWord (last_text last)
last_ends_word None = refl
last_ends_word (Some last) = refl

two_tests : (word : List ℕ) → word ≢ [] → list_all is_word_byte word ≡ true
    → begins is_colon word ≡ false → begins (λ b. is_space b || is_colon b) word ≡ false
two_tests [] some no_space no_colon = absurd (some refl)
two_tests (b ∷ word) some no_space no_colon =
    first_fails (is_space b) (is_colon b) (list_all is_word_byte word) no_space no_colon
  where
    first_fails : (s c rest : Bool) → (not s && rest) ≡ true → c ≡ false → (s || c) ≡ false
    first_fails true c rest h none = cc h
    first_fails false c rest h none = none

-- a word with its space in front, and what follows it
regroup : (word rest last : List ℕ) → ((space ∷ word) ++ rest) ++ last ≡ (space ∷ [])
    ++ (word ++ (rest ++ last))
regroup word rest last = ap (λ t. space ∷ t) (append_assoc word rest last)

params_again : (room : ℕ) (words : List (List ℕ)) (last : Option (List ℕ))
    → AllByRecursion IsPlainWord words → length (words ++ option_to_list last) ≤ room
    → ReadsParams room (middle_text words ++ last_text last) (words ++ option_to_list last)
params_again room [] None plain_words fits = no_more room [] refl
params_again room [] (Some last) plain_words fits =
    behind_colon room (space ∷ colon ∷ last) (space ∷ []) last refl refl
params_again room (word ∷ words) last plain_words fits =
    let w = plain_words.0 in
    let text = (space ∷ word) ++ middle_text words ++ last_text last in
    let rest = middle_text words ++ last_text last in
    elim (cases_lt 1 room) [
      | inl more_room ↦
          one_word room text (space ∷ []) word rest (words ++ option_to_list last) more_room refl
          (w.is_some) (w.no_space) (w.no_colon)
          (words_end_word words (last_text last) (last_ends_word last))
          (regroup word (middle_text words) (last_text last))
          (params_again (room - 1) words last (plain_words.1) (omega (arith, fits)))
      | inr last_room ↦ one_left room word words last w fits (omega (arith, fits, last_room))
    ]
  where
    one_left : (room : ℕ) (word : List ℕ) (words : List (List ℕ)) (last : Option (List ℕ))
        → IsPlainWord word → length (word ∷ (words ++ option_to_list last)) ≤ room
        → room ≡ 1 → ReadsParams room ((space ∷ word) ++ middle_text words ++ last_text last)
        (word ∷ (words ++ option_to_list last))
    one_left room word [] None w fits one =
        the_rest room ((space ∷ word) ++ [] ++ []) (space ∷ []) word one refl (w.is_some)
        (two_tests word (w.is_some) (w.no_space) (w.no_colon))
        (ap (λ t. space ∷ t) (append-nil (word ++ []) ∙ append-nil word))
    one_left room word [] (Some last) w fits one = absurd (omega (arith, fits, one))
    one_left room word (next ∷ words) last w fits one = absurd (omega (arith, fits, one))

-- No NUL stands in what plain parts are written as.

neither_has : (p : ℕ → Bool) (xs ys : List ℕ) → list_any p xs ≡ false → list_any p ys ≡ false
    → list_any p (xs ++ ys) ≡ false
neither_has p xs ys x_none y_none = list_any-append p xs ys ∙ ap (λ b. b || list_any p ys) x_none
    ∙ y_none

prefix_no_nul : (prefix : Option (List ℕ)) → has_nul (unwrap_or prefix []) ≡ false
    → has_nul (prefix_text prefix) ≡ false
prefix_no_nul None none = refl
prefix_no_nul (Some name) none = neither_has is_nul name (space ∷ []) none refl

middle_no_nul : (words : List (List ℕ)) → AllByRecursion IsPlainWord words
    → has_nul (middle_text words) ≡ false
middle_no_nul [] plain_words = refl
middle_no_nul (word ∷ words) plain_words = neither_has is_nul word (middle_text words)
    ((plain_words.0).no_nul) (middle_no_nul words (plain_words.1))

last_no_nul : (last : Option (List ℕ)) → has_nul (unwrap_or last []) ≡ false
    → has_nul (last_text last) ≡ false
last_no_nul None none = refl
last_no_nul (Some last) none = none

joined_no_nul : (parts : Written) → IsPlain parts → has_nul (joined_text parts) ≡ false
joined_no_nul parts is =
    let p = prefix_text (prefix_of parts.sender) in
    let m = middle_text parts.middle in
    neither_has is_nul (p ++ parts.command ++ m) (last_text parts.last)
    (neither_has is_nul (p ++ parts.command) m
    (neither_has is_nul p parts.command (prefix_no_nul (prefix_of parts.sender) (is.prefix_no_nul))
    ((is.command).no_nul))
    (middle_no_nul parts.middle (is.middle)))
    (last_no_nul parts.last (is.last_no_nul))

command_again : (parts : Written) → IsPlain parts
    → CommandAt (parts.command ++ (middle_text parts.middle ++ last_text parts.last)) parts.command
    (parts.middle ++ option_to_list parts.last)
command_again parts is = record {
  more = middle_text parts.middle ++ last_text parts.last;
  is_some = (is.command).is_some;
  no_space = (is.command).no_space;
  whole = words_end_word parts.middle (last_text parts.last) (last_ends_word parts.last);
  text_is = refl;
  params_are = params_again max_parameters parts.middle parts.last (is.middle) (is.count);
}

command_no_colon : (command more : List ℕ) → command ≢ [] → begins is_colon command ≡ false
    → begins is_colon (command ++ more) ≡ false
command_no_colon [] more some none = absurd (some refl)
command_no_colon (b ∷ command) more some none = none

-- the parts of the text, the prefix apart
behind_prefix : (p c m l : List ℕ) → p ++ c ++ m ++ l ≡ p ++ (c ++ (m ++ l))
behind_prefix p c m l = append_assoc (p ++ c) m l ∙ append_assoc p c (m ++ l)

abbrev message : Option (List ℕ) → List ℕ → List (List ℕ) → Parsed
message prefix command params = record { prefix = prefix; command = command; params = params }

line_again : (line text command : List ℕ) (ps : List (List ℕ)) (prefix : Option (List ℕ))
    → has_nul line ≡ false → HasNoSpace (unwrap_or prefix []) → begins is_colon text ≡ false
    → line ≡ prefix_text prefix ++ text → CommandAt text command ps
    → Reads line (message prefix command ps)
line_again line text command ps None no_nul no_space no_colon is at =
    plain line [] text command ps no_nul refl no_colon is at
line_again line text command ps (Some name) no_nul no_space no_colon is at =
    prefixed line [] name (space ∷ []) text command ps no_nul refl no_space refl (λ none. cc none)
    (is ∙ ap (λ t. colon ∷ t) (append_assoc name (space ∷ []) text)) at

pub written_is_read : WrittenIsRead
unfolding line_text
written_is_read parts is fits =
    let joined = joined_text parts in
    let text = parts.command ++ (middle_text parts.middle ++ last_text parts.last) in
    let read = line_again joined text parts.command (parts.middle ++ option_to_list parts.last)
    (prefix_of parts.sender) (joined_no_nul parts is) (is.prefix_no_space)
    (command_no_colon parts.command (middle_text parts.middle ++ last_text parts.last)
    ((is.command).is_some) ((is.command).no_colon))
    (behind_prefix (prefix_text (prefix_of parts.sender)) parts.command (middle_text parts.middle)
    (last_text parts.last)) (command_again parts is) in
    subst (λ (line : List ℕ). Reads line (message_of parts)) (sym (cut_all joined fits)) read
