-- How the parts of a line follow one another.
use Rattle.std.proofs.Common.{◌≡◌, ℕ, ◌+◌, ◌≤◌, ◌<◌, List, [], ◌∷◌, ◌++◌, length, take, drop}
use Rattle.std.proofs.Common.{get_or, Option, Some, None, take-append-drop, nat_eq, unwrap_or, ◌-◌}
use Rattle.std.proofs.Common.{sym, ◌∙◌, ap, append-nil}
use Rattle.std.specs.Borrow.{Bor}
use Rattle.std.specs.Prelude.{MatchOption, true, false}
use Rattle.std.specs.Cmp.Lexicographic.{same_text, pointwise}
use Rattle.std.proofs.lemmas.List.{take_more, map-append}
use Rattle.std.proofs.lemmas.Grind.{flat_map-append}
use Rattle.irc_line.specs.Limits.{max_line}
use Rattle.irc_line.specs.Bytes.{cut, space, crlf}
use Rattle.irc_line.specs.Messages.{Written, prefix_of, prefix_text, middle_text, last_text}
use Rattle.irc_line.specs.Messages.{line_text, text}
use Rattle.irc_line.specs.PartViews.{words_now}
use Rattle.irc_line.specs.Lemmas.CutLaws.{cut_two, cut_all}

-- one word more
one_word_more : (words : List (Bor (List ℕ))) (i : ℕ) (d : Bor (List ℕ)) → i < length words
    → middle_text (words_now (take (i + 1) words)) ≡ middle_text (words_now (take i words))
    ++ ((space ∷ []) ++ (get_or words i d).now)
one_word_more words i d within =
    let word = get_or words i d in
    ap (λ ws. middle_text (words_now ws)) (take_more words i d within)
    ∙ ap middle_text (map-append (λ w. w.now) (take i words) (word ∷ []))
    ∙ flat_map-append (λ w. space ∷ w) (words_now (take i words)) (word.now ∷ [])
    ∙ ap (λ t. middle_text (words_now (take i words)) ++ t) (append-nil (space ∷ word.now))

-- a step of the loop over the words
pub words_go_on : (old before between after : List ℕ)
    (words : List (Bor (List ℕ))) (i : ℕ) (d : Bor (List ℕ)) → i < length words
    → before ≡ cut (old ++ middle_text (words_now (take i words)))
    → between ≡ cut (before ++ (space ∷ [])) → after ≡ cut (between ++ (get_or words i d).now)
    → after ≡ cut (old ++ middle_text (words_now (take (i + 1) words)))
words_go_on old before between after words i d within first second third =
    let word = get_or words i d in
    cut_two old before after (middle_text (words_now (take i words))) ((space ∷ [])
    ++ word.now) first (cut_two before between after (space ∷ []) (word.now) second third)
    ∙ ap (λ t. cut (old ++ t)) (sym (one_word_more words i d within))

-- the parts of a whole line
pub all_written : (a b c d line : List ℕ) (parts : Written)
    → a ≡ cut (prefix_text (prefix_of parts.sender)) → b ≡ cut (a ++ parts.command)
    → c ≡ cut (b ++ middle_text parts.middle) → d ≡ cut (c ++ last_text parts.last)
    → line ≡ d ++ crlf → line ≡ text parts
unfolding line_text
all_written a b c d line parts first second third fourth ended =
    let p = prefix_text (prefix_of parts.sender) in
    let m = middle_text parts.middle in
    let whole = cut_two [] c d (p ++ parts.command ++ m) (last_text parts.last)
    (cut_two [] b c (p ++ parts.command) m (cut_two [] a b p parts.command first second) third)
    fourth in
    ended ∙ ap (λ l. l ++ crlf) whole

pub no_words_yet : (old : List ℕ) → length old ≤ max_line → old ≡ cut (old ++ [])
no_words_yet old fits = sym (ap cut (append-nil old) ∙ cut_all old fits)

-- A text and its CR LF.

-- what a search for the line end at the end of a text tells
abbrev pub Stripped : List ℕ → Option (Bor (List ℕ)) → Type 0
Stripped bytes found =
    MatchOption found (pointwise nat_eq (drop (length bytes - 2) bytes) crlf ≡ false) (λ x.
    (pointwise nat_eq (drop (length bytes - 2) bytes) crlf ≡ true)
    × (x.now ≡ take (length bytes - 2) bytes) × (length x.now + 2 ≡ length bytes))

pub other_is_whole : (text : List ℕ) (whole line : Bor (List ℕ)) (found : Option (Bor (List ℕ)))
    → Stripped (whole.now) found → whole.now ≡ text → line ≡ unwrap_or found whole
    → ((front : List ℕ) → text ≡ front ++ crlf → ⊥) → line.now ≡ text
other_is_whole text whole line None told is line_is other = ap (λ b. b.now) line_is ∙ is
other_is_whole text whole line (Some front) told is line_is other =
    let bytes = whole.now in
    let n = length bytes - 2 in
    absurd (other (take n bytes) (sym is ∙ sym (take-append-drop n bytes)
    ∙ ap (λ end. take n bytes ++ end) (same_text (drop n bytes) crlf (sym (told.0)))))
