-- A text that was cut makes the same line as the whole one, and is cut once though it is put
-- together piece by piece.
use Rattle.std.proofs.Common.{◌≡◌, ℕ, List, [], ◌∷◌, ◌++◌}
use Rattle.std.proofs.Common.{sym, ◌∙◌, ap, append_assoc, arith}
use Rattle.irc_numerics.specs.Lemmas.Cutting.{take-append_take}
use Rattle.irc_line.specs.Limits.{max_line}
use Rattle.irc_line.specs.Bytes.{crlf, cut, space, colon}
use Rattle.irc_line.specs.Messages.{line_text, middle_text, named, prefix_of, prefix_text, text}
use Rattle.irc_line.specs.Lemmas.CutLaws.{cut-cut_append}
use Rattle.irc_door.specs.MessagesOfTheDay.{reply_to, Told}

cut-append_cut : (xs ys : List ℕ) → cut (xs ++ cut ys) ≡ cut (xs ++ ys)
unfolding cut
cut-append_cut xs ys = take-append_take max_line max_line xs ys (omega arith)

-- what the last words of a line have no room for makes no difference to the line
pub text-cut : (told : Told) (number last : List ℕ)
    → text (reply_to told number (cut last)) ≡ text (reply_to told number last)
unfolding line_text
text-cut told number last =
    let front = prefix_text (prefix_of (named told.server)) ++ number
    ++ middle_text (told.nick ∷ []) in
    let mark = space ∷ colon ∷ [] in
    let step : cut (front ++ (mark ++ cut last)) ≡ cut (front ++ (mark ++ last)) =
    ap cut (sym (append_assoc front mark (cut last))) ∙ cut-append_cut (front ++ mark) last
    ∙ ap cut (append_assoc front mark last) in
    ap (λ line. line ++ crlf) step

-- three pieces, cut as each is put behind the others
pub three_pieces : (first second third one two three : List ℕ) → one ≡ cut first
    → two ≡ cut (one ++ second) → three ≡ cut (two ++ third)
    → three ≡ cut (first ++ (second ++ third))
three_pieces first second third one two three is_one is_two is_three =
    let both : two ≡ cut (first ++ second) =
    is_two ∙ ap (λ b. cut (b ++ second)) is_one ∙ cut-cut_append first second in
    is_three ∙ ap (λ b. cut (b ++ third)) both ∙ cut-cut_append (first ++ second) third
    ∙ ap cut (append_assoc first second third)
