-- The line of a MODE, piece by piece.
use Rattle.std.proofs.Common.{◌≡◌, ℕ, None, List, [], ◌∷◌, ◌++◌, codes, sym, ap, ◌∙◌, append_assoc}
use Rattle.std.proofs.Common.{append-nil}
use Rattle.irc_line.specs.Bytes.{cut, crlf}
use Rattle.irc_line.specs.Messages.{middle_text, text, line_text}
use Rattle.irc_line.specs.Lemmas.CutLaws.{cut_two}
use Rattle.irc_link_writer.specs.Loops.Families.{head_text}
use Rattle.irc_link_writer.specs.Written.{from}

-- all pieces of the line are its parts
in_a_row : (x c l w : List ℕ) → (x ++ codes " MODE " ++ c ++ codes " ")
    ++ (l ++ w) ≡ (x ++ codes " ") ++ codes "MODE" ++ ((32 ∷ c) ++ ((32 ∷ l) ++ w)) ++ []
in_a_row [] c l w =
    ap (λ t. 32 ∷ 77 ∷ 79 ∷ 68 ∷ 69 ∷ 32 ∷ t) (append_assoc c (32 ∷ []) (l ++ w)
    ∙ sym (append-nil (c ++ (32 ∷ (l ++ w)))))
in_a_row (x ∷ xs) c l w = ap (λ t. x ∷ t) (in_a_row xs c l w)

-- the whole line
pub mode_written : (name channel letters : List ℕ) (words : List (List ℕ))
    (head changed line : List ℕ) → head ≡ cut (head_text name (codes " MODE ") channel)
    → changed ≡ cut (head ++ (letters ++ middle_text words)) → line ≡ changed ++ crlf
    → line ≡ text (from name (codes "MODE") (channel ∷ letters ∷ words) None)
unfolding line_text
mode_written name channel letters words head changed line begun worded ended =
    let front = head_text name (codes " MODE ") channel in
    let whole = cut_two [] head changed front (letters ++ middle_text words) begun worded in
    ended ∙ ap (λ l. l ++ crlf)
    (whole ∙ ap cut (in_a_row (codes ":" ++ name) channel letters (middle_text words)))
