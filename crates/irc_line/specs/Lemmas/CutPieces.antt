-- A line that is written piece by piece, with a cut.
use Rattle.std.proofs.Common.{◌≡◌, ℕ, ◌≤◌, List, [], ◌++◌, length, append_assoc, append-nil, sym}
use Rattle.std.proofs.Common.{◌∙◌, ap}
use Rattle.irc_line.specs.Bytes.{cut}
use Rattle.irc_line.specs.Limits.{max_line}
use Rattle.irc_line.specs.Lemmas.CutLaws.{cut_all, cut-cut_append}

-- what was cut off makes no difference where one piece of what is left is appended
pub piece_on : (line more piece rest left : List ℕ) → more ≡ cut (line ++ piece)
    → rest ≡ piece ++ left → cut (more ++ left) ≡ cut (line ++ rest)
piece_on line more piece rest left pushed parts =
    ap (λ m. cut (m ++ left)) pushed ∙ cut-cut_append (line ++ piece) left
    ∙ ap cut (append_assoc line piece left)
    ∙ ap (λ t. cut (line ++ t)) (sym parts)

-- where nothing is left, a line that is not too long is the whole
pub nothing_on : (line whole : List ℕ) → length line ≤ max_line → cut (line ++ []) ≡ cut whole
    → line ≡ cut whole
nothing_on line whole fits so_far = sym (ap cut (append-nil line) ∙ cut_all line fits) ∙ so_far
