-- What a line has room for.
use Rattle.std.proofs.Common.{◌≡◌, ℕ, zero, suc, ◌+◌, ◌-◌, ◌≤◌, List, [], ◌∷◌, ◌++◌, length, take}
use Rattle.std.proofs.Common.{append_assoc, refl, ◌∙◌, ap, arith}
use Rattle.std.proofs.Math.Seq.{take-append-add}
use Rattle.std.proofs.lemmas.List.{take_all}
use Rattle.irc_line.specs.Limits.{max_line}
use Rattle.irc_line.specs.Bytes.{cut}

take-append_room : (n : ℕ) (xs ys : List ℕ) → length xs ≤ n
    → take n (xs ++ ys) ≡ xs ++ take (n - length xs) ys
take-append_room n xs ys fits =
    let all : n ≡ length xs + (n - length xs) = omega arith in
    ap (λ m. take m (xs ++ ys)) all ∙ take-append-add xs ys (n - length xs)

-- what is cut in front of more bytes
pub cut-append : (xs ys : List ℕ) → length xs ≤ max_line
    → cut (xs ++ ys) ≡ xs ++ take (max_line - length xs) ys
unfolding cut
cut-append xs ys fits = take-append_room max_line xs ys fits

-- what fits is not cut
pub cut_all : (xs : List ℕ) → length xs ≤ max_line → cut xs ≡ xs
unfolding cut
cut_all xs fits = take_all max_line xs fits

take-take_append : (n : ℕ) (xs ys : List ℕ) → take n (take n xs ++ ys) ≡ take n (xs ++ ys)
take-take_append zero xs ys = refl
take-take_append (suc n) [] ys = refl
take-take_append (suc n) (x ∷ xs) ys = ap (λ zs. x ∷ zs) (take-take_append n xs ys)

-- what was cut off makes no difference to what is cut later
pub cut-cut_append : (xs ys : List ℕ) → cut (cut xs ++ ys) ≡ cut (xs ++ ys)
unfolding cut
cut-cut_append xs ys = take-take_append max_line xs ys

-- one piece after another
pub cut_two : (old mid new a b : List ℕ) → mid ≡ cut (old ++ a) → new ≡ cut (mid ++ b)
    → new ≡ cut (old ++ (a ++ b))
cut_two old mid new a b first second =
    second ∙ ap (λ m. cut (m ++ b)) first ∙ cut-cut_append (old ++ a) b
    ∙ ap cut (append_assoc old a b)
