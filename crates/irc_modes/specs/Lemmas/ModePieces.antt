-- The words of a MODE, written piece by piece.
use Rattle.std.proofs.Common.{◌≡◌, ℕ, ◌+◌, ◌≤◌, ◌<◌, Bool, true, false, Option, Some, None, List}
use Rattle.std.proofs.Common.{[], ◌∷◌, ◌++◌, length, get_or, drop, if◌then◌else◌, option_to_list}
use Rattle.std.proofs.Common.{refl, sym, ap, ◌∙◌, append_assoc, append-nil}
use Rattle.std.proofs.lemmas.List.{drop_more, drop_all}
use Rattle.std.specs.List.{filter_map, cons_option}
use Rattle.irc_line.specs.Bytes.{cut}
use Rattle.irc_line.specs.Limits.{max_line}
use Rattle.irc_line.specs.Messages.{middle_text}
use Rattle.irc_line.specs.Lemmas.CutPieces.{piece_on, nothing_on}
use Rattle.irc_modes.specs.declared.modes.ModeChange.{ModeChange}
use Rattle.irc_modes.specs.Letters.{letter_byte, sign_byte}
use Rattle.irc_modes.specs.Loops.WrittenLetters.{letters_from}
use Rattle.irc_modes.specs.ModeWritten.{letters_behind, sign_between}

letters_shape_some : (before plus : Bool) (letter : ℕ) (behind : Bool → List ℕ)
    → (if plus then (if before then [] else sign_byte true ∷ [])
    else (if before then sign_byte false ∷ [] else [])) ++ letter ∷ behind plus
    ≡ sign_between (Some before) plus ++ letter ∷ behind plus
letters_shape_some true true letter behind = refl
letters_shape_some true false letter behind = refl
letters_shape_some false true letter behind = refl
letters_shape_some false false letter behind = refl

letters_of_one : (sign : Option Bool) (c : ModeChange) (rest : List ModeChange) → letters_from sign
    (c ∷ rest) ≡ sign_between sign c.plus ++ letter_byte c.letter ∷ letters_behind c.plus rest
letters_of_one None c rest = refl
letters_of_one (Some before) c rest =
    letters_shape_some before c.plus (letter_byte c.letter) (λ p. letters_behind p rest)

-- the letters of one change more
pub letters_next : (sign : Option Bool) (changes : List ModeChange) (i : ℕ) (d : ModeChange)
    → i < length changes → letters_from sign (drop i changes)
    ≡ (sign_between sign (get_or changes i d).plus ++ letter_byte (get_or changes i d).letter ∷ [])
    ++ letters_from (Some (get_or changes i d).plus) (drop (i + 1) changes)
letters_next sign changes i d within =
    let c = get_or changes i d in
    ap (letters_from sign) (drop_more changes i d within)
    ∙ letters_of_one sign c (drop (i + 1) changes)
    ∙ sym (append_assoc (sign_between sign c.plus) (letter_byte c.letter ∷ [])
    (letters_behind c.plus (drop (i + 1) changes)))

-- a step of the loop over the letters
pub letters_on : (line more whole : List ℕ) (sign : Option Bool) (changes : List ModeChange)
    (i : ℕ) (d item : ModeChange) → i < length changes → item ≡ get_or changes i d
    → more ≡ cut (line ++ (sign_between sign item.plus ++ letter_byte item.letter ∷ []))
    → cut (line ++ letters_from sign (drop i changes)) ≡ cut whole
    → cut (more ++ letters_from (Some item.plus) (drop (i + 1) changes)) ≡ cut whole
letters_on line more whole sign changes i d item within is pushed so_far =
    ap (λ (m : ModeChange). cut (more ++ letters_from (Some m.plus) (drop (i + 1) changes))) is
    ∙ piece_on line more _ _ _ (pushed ∙ ap (λ (m : ModeChange).
    cut (line ++ (sign_between sign m.plus ++ letter_byte m.letter ∷ []))) is)
    (letters_next sign changes i d within)
    ∙ so_far

no_letters : (sign : Option Bool) → letters_from sign [] ≡ []
no_letters None = refl
no_letters (Some sign) = refl

-- the ends of the two loops
pub letters_done : (line whole : List ℕ) (sign : Option Bool) (changes : List ModeChange) (i : ℕ)
    → length changes ≤ i → length line ≤ max_line
    → cut (line ++ letters_from sign (drop i changes)) ≡ cut whole → line ≡ cut whole
letters_done line whole sign changes i past fits so_far =
    nothing_on line whole fits
    (sym (ap (λ cs. cut (line ++ letters_from sign cs)) (drop_all i changes past)
    ∙ ap (λ t. cut (line ++ t)) (no_letters sign)) ∙ so_far)

pub words_done : (written : ModeChange → Option (List ℕ)) (line whole : List ℕ)
    (changes : List ModeChange) (i : ℕ) → length changes ≤ i → length line ≤ max_line
    → cut (line ++ middle_text (filter_map written (drop i changes))) ≡ cut whole → line ≡ cut whole
words_done written line whole changes i past fits so_far =
    nothing_on line whole fits (sym (ap (λ cs. cut (line ++ middle_text (filter_map written cs)))
    (drop_all i changes past)) ∙ so_far)

one_word : (o : Option (List ℕ)) (rest : List (List ℕ))
    → middle_text (cons_option o rest) ≡ middle_text (option_to_list o) ++ middle_text rest
one_word None rest = refl
one_word (Some word) rest = ap (λ w. w ++ middle_text rest) (sym (append-nil (32 ∷ word)))

-- the parameter of one change more
pub words_next : (written : ModeChange → Option (List ℕ)) (changes : List ModeChange) (i : ℕ)
    (d : ModeChange) → i < length changes → middle_text (filter_map written (drop i changes))
    ≡ middle_text (option_to_list (written (get_or changes i d)))
    ++ middle_text (filter_map written (drop (i + 1) changes))
words_next written changes i d within =
    let c = get_or changes i d in
    ap (λ cs. middle_text (filter_map written cs)) (drop_more changes i d within)
    ∙ one_word (written c) (filter_map written (drop (i + 1) changes))
