-- The line of a MODE, piece by piece.
use Rattle.std.proofs.Common.{◌≡◌, ℕ, None, List, [], ◌∷◌, ◌++◌, codes, sym, ap, ◌∙◌, append_assoc}
use Rattle.std.proofs.Common.{append-nil}
use Rattle.irc_line.specs.Bytes.{cut, crlf}
use Rattle.irc_line.specs.Messages.{Sender, line_text, middle_text, prefix_of, prefix_text, text}
use Rattle.irc_line.specs.Lemmas.CutLaws.{cut_two}

-- all pieces of the line are its parts
in_a_row : (p c l w : List ℕ) → p ++ codes "MODE " ++ c ++ codes " " ++ (l ++ w) ≡ p ++ codes "MODE"
    ++ ((32 ∷ c) ++ ((32 ∷ l) ++ w)) ++ []
in_a_row [] c l w = ap (λ t. 77 ∷ 79 ∷ 68 ∷ 69 ∷ 32 ∷ t) (append_assoc c (32 ∷ []) (l ++ w)
    ∙ sym (append-nil (c ++ (32 ∷ (l ++ w)))))
in_a_row (x ∷ xs) c l w = ap (λ t. x ∷ t) (in_a_row xs c l w)

-- the whole line
pub mode_written : (from : Sender) (channel letters : List ℕ) (words : List (List ℕ))
    (old a b c d e line : List ℕ) → old ≡ [] → a ≡ cut (old ++ prefix_text (prefix_of from))
    → b ≡ cut (a ++ codes "MODE ") → c ≡ cut (b ++ channel) → d ≡ cut (c ++ codes " ") → e ≡ cut
    (d ++ (letters ++ middle_text words)) → line ≡ e ++ crlf → line ≡ text (record {
      sender = from;
      command = codes "MODE";
      middle = channel ∷ letters ∷ words;
      last = None;
    })
unfolding line_text
mode_written from channel letters words old a b c d e line none first command named spaced
    changed ended =
    let p = prefix_text (prefix_of from) in
    let one = first ∙ ap (λ o. cut (o ++ p)) none in
    let two = cut_two [] a b p (codes "MODE ") one command in
    let three = cut_two [] b c (p ++ codes "MODE ") channel two named in
    let four = cut_two [] c d (p ++ codes "MODE " ++ channel) (codes " ") three spaced in
    let five = cut_two [] d e (p ++ codes "MODE " ++ channel ++ codes " ")
    (letters ++ middle_text words) four changed in
    ended ∙ ap (λ l. l ++ crlf) (five ∙ ap cut (in_a_row p channel letters (middle_text words)))
