-- A word of a line, put right where it lies.
use Rattle.std.specs.Prelude.{◌≡◌, ℕ, Bool, true, false, Option, Some, None, List}
use Rattle.irc_crossing.specs.Hearing.{words_now_at}

-- the word at a place is put right, or the one whom it means is gone
abbrev pub IsPutRight : ℕ → (List ℕ → Option (List ℕ)) → (old : List (List ℕ)) → Bool
    → (new : List (List ℕ)) → Type 0
IsPutRight place now old true new = words_now_at place now old ≡ Some new
IsPutRight place now old false new = words_now_at place now old ≡ None
