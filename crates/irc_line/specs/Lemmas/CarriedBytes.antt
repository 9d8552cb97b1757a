-- Bytes that a line can carry: which they are, and that none of them is NUL.
use Rattle.std.proofs.Common.{◌≡◌, ℕ, Bool, true, false, not, ◌||◌, List, [], ◌∷◌, refl, ◌∙◌, ap}
use Rattle.std.specs.Cmp.{first_so, second_so}
use Rattle.irc_line.specs.Bytes.{is_nul, is_line_end, has_nul}
use Rattle.irc_line.specs.Carried.{is_carried_byte, is_carried, IsCarried}

pub carried_byte : (nul end : Bool) → nul ≡ false → end ≡ false → not (nul || end) ≡ true
carried_byte true end nul_not end_not = cc
carried_byte false end nul_not end_not = ap not end_not

no_byte : (nul end : Bool) → not (nul || end) ≡ true → nul ≡ false
no_byte true end is = cc
no_byte false end is = refl

pub carried_no_nul : (bytes : List ℕ) → IsCarried bytes → has_nul bytes ≡ false
carried_no_nul [] all = refl
carried_no_nul (b ∷ bytes) all =
    let first =
    no_byte (is_nul b) (is_line_end b) (first_so (is_carried_byte b) (is_carried bytes) all) in
    ap (λ v. v || has_nul bytes) first
    ∙ carried_no_nul bytes (second_so (is_carried_byte b) (is_carried bytes) all)
