-- The parameters of a line of a link, taken one by one (RFC 2813 section 3.3).
use Rattle.std.specs.Prelude.{◌≡◌, ℕ, ⊤, Result, Ok, Err, List, [], ◌∷◌}
use Rattle.std.specs.Borrow.{Bor}
use Rattle.irc_batch.specs.declared.close_reason.CloseReason.{CloseReason}
use Rattle.irc_batch.specs.declared.close_reason.CloseReason.TheVariants.{Parameters}

-- what is taken of the parameters that are left, and the rest: the first of them, or the fault that
-- there is none
abbrev pub IsNext : List (List ℕ) → Result (Bor (List ℕ)) CloseReason → List (List ℕ) → Type 0
IsNext left (Ok word) rest = left ≡ word.now ∷ rest
IsNext left (Err Parameters) rest = (left ≡ []) × (rest ≡ [])
IsNext left (Err other) rest = ⊥

-- a line ends where none is left
abbrev pub end_of : List (List ℕ) → Result ⊤ CloseReason
end_of [] = Ok tt
end_of (word ∷ words) = Err Parameters
