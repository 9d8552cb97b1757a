-- Lists inside a text, an entry at a time.
use Rattle.std.proofs.Common.{◌≡◌, ℕ, zero, suc, ◌+◌, ◌<◌, List, [], ◌∷◌, ◌++◌, map, length, take}
use Rattle.std.proofs.Common.{get_or, refl, sym, ◌∙◌, ap, append_assoc, arith}
use Rattle.std.proofs.lemmas.List.{take_more, map-append}
use Rattle.irc_line.specs.Bytes.{cut, space}
use Rattle.irc_line.specs.Lemmas.CutLaws.{cut-cut_append}
use Rattle.irc_numerics.specs.Replies.{spaced}

-- a later entry stands behind a space
spaced_later : (first : List ℕ) (between : List (List ℕ)) (last : List ℕ)
    → spaced ((first ∷ between) ++ (last ∷ [])) ≡ spaced (first ∷ between) ++ (space ∷ last)
spaced_later first [] last = refl
spaced_later first (second ∷ rest) last =
    ap (λ text. first ++ (space ∷ text)) (spaced_later second rest last)
    ∙ sym (append_assoc first (space ∷ spaced
    (second ∷ rest)) (space ∷ last))

-- a step of the loop over the entries
pub entry_goes_on : {A : Type 0} (entry : A → List ℕ) (items : List A) (i : ℕ) (item : A)
    (before after : List ℕ) → i < length items → item ≡ get_or items i item → before
    ≡ cut (spaced (map entry (take i items))) → (i ≡ 0 → after ≡ cut (before ++ entry item))
    → (0 < i → after ≡ cut (before ++ (space ∷ entry item)))
    → after ≡ cut (spaced (map entry (take (i + 1) items)))
entry_goes_on entry items zero item before after within at is first later =
    first refl ∙ ap (λ b. cut (b ++ entry item)) is ∙ cut-cut_append [] (entry item)
    ∙ ap (λ x. cut (entry x)) at
    ∙ ap (λ taken. cut (spaced (map entry taken))) (sym (take_more items 0 item within))
entry_goes_on entry [] (suc j) item before after within at is first later = absurd (omega arith)
entry_goes_on entry (y ∷ ys) (suc j) item before after within at is first later =
    let taken = take (suc j) (y ∷ ys) in
    let more : map entry (take (suc j + 1) (y ∷ ys)) ≡ map entry taken ++ (entry item ∷ []) =
    ap (map entry) (take_more (y ∷ ys) (suc j) item within)
    ∙ map-append entry taken (get_or (y ∷ ys) (suc j) item ∷ [])
    ∙ ap (λ x. map entry taken ++ (entry x ∷ [])) (sym at) in
    later (omega arith) ∙ ap (λ b. cut (b ++ (space ∷ entry item))) is
    ∙ cut-cut_append (spaced (map entry taken))
    (space ∷ entry item)
    ∙ ap cut (sym (spaced_later (entry y) (map entry (take j ys)) (entry item)))
    ∙ ap (λ es. cut (spaced es)) (sym more)
