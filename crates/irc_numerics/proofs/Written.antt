-- How the parts of a reply's line follow one another.
use Rattle.std.proofs.Common.{◌≡◌, ℕ, ◌+◌, ◌≤◌, ◌<◌, List, [], ◌∷◌, ◌++◌, map, length, take, get_or}
use Rattle.std.proofs.Common.{sym, ◌∙◌, ap, append-nil}
use Rattle.std.specs.List.{flat_map}
use Rattle.std.proofs.lemmas.List.{take_more, map-append}
use Rattle.std.proofs.lemmas.Grind.{flat_map-append}
use Rattle.irc_line.specs.Limits.{max_line}
use Rattle.irc_line.specs.Bytes.{cut, space, crlf}
use Rattle.irc_line.specs.Messages.{line_text, prefix_text, prefix_of, named, middle_text}
use Rattle.irc_line.specs.Messages.{last_text}
use Rattle.irc_line.specs.Lemmas.CutLaws.{cut_two, cut_all}
use Rattle.irc_numerics.specs.Replies.{ReplyWords, numbered}
use Rattle.irc_numerics.specs.Lemmas.Cutting.{cut-append_cut}

pub nothing_yet : (old : List ℕ) → length old ≤ max_line → old ≡ cut (old ++ [])
nothing_yet old fits = sym (ap cut (append-nil old) ∙ cut_all old fits)

-- a text that was cut is written as the whole one
pub whole_text : (old new : List ℕ) {text : List ℕ} (whole : List ℕ) → new ≡ cut (old ++ text)
    → text ≡ cut whole → new ≡ cut (old ++ whole)
whole_text old new whole pushed is =
    pushed ∙ ap (λ t. cut (old ++ t)) is ∙ cut-append_cut old whole

-- a step of the loop over pieces
pub pieces_go_on : {A : Type 0} (bytes : A → List ℕ) (mark old so_far between after : List ℕ)
    (pieces : List A) (i : ℕ) (d : A) → i < length pieces
    → so_far ≡ cut (old ++ flat_map (λ b. mark ++ b) (map bytes (take i pieces)))
    → between ≡ cut (so_far ++ mark) → after ≡ cut (between ++ bytes (get_or pieces i d))
    → after ≡ cut (old ++ flat_map (λ b. mark ++ b) (map bytes (take (i + 1) pieces)))
pieces_go_on bytes mark old so_far between after pieces i d within first second third =
    let piece = bytes (get_or pieces i d) in
    let each = flat_map (λ (b : List ℕ). mark ++ b) in
    let before = map bytes (take i pieces) in
    let more : each (map bytes (take (i + 1) pieces)) ≡ each before ++ (mark ++ piece) =
    ap (λ ps. each (map bytes ps)) (take_more pieces i d within)
    ∙ ap each (map-append bytes (take i pieces) (get_or pieces i d ∷ []))
    ∙ flat_map-append (λ (b : List ℕ). mark ++ b) before (piece ∷ [])
    ∙ ap (λ t. each before ++ t) (append-nil (mark ++ piece)) in
    cut_two old so_far after (each before) (mark ++ piece) first
    (cut_two so_far between after mark piece second third)
    ∙ ap (λ t. cut (old ++ t)) (sym more)

-- the parts of a whole line
pub row_written : (server name number : List ℕ) (words : ReplyWords) (a b c d e f line : List ℕ)
    → a ≡ cut (prefix_text (prefix_of (named server))) → b ≡ cut (a ++ number)
    → c ≡ cut (b ++ (space ∷ [])) → d ≡ cut (c ++ name) → e ≡ cut (d ++ middle_text words.middle)
    → f ≡ cut (e ++ last_text words.last) → line ≡ f ++ crlf
    → line ≡ numbered server name number words
unfolding numbered line_text
row_written server name number words a b c d e f line first second third fourth fifth sixth ended =
    let front = prefix_text (prefix_of (named server)) in
    let middle = middle_text (name ∷ words.middle) in
    let named_words = cut_two b d e (space ∷ name) (middle_text words.middle)
    (cut_two b c d (space ∷ []) name third fourth) fifth in
    let whole = cut_two [] e f (front ++ number ++ middle) (last_text words.last)
    (cut_two [] b e (front ++ number) middle (cut_two [] a b front number first second)
    named_words) sixth in
    ended ∙ ap (λ l. l ++ crlf) whole
