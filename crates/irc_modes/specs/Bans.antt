-- A channel's bans: masks in folded order, no two of them the same (our own choice).
use Rattle.std.specs.Prelude.{ℕ, Bool, true, ◌&&◌, List, [], ◌∷◌, IsTrue}
use Rattle.std.specs.List.{list_any, list_all}
use Rattle.std.specs.Ordering.{is_lt}
use Rattle.irc_names.specs.Fold.{name_cmp}
use Rattle.irc_names.specs.MaskLaws.{matches}

-- whether one name stands before another in folded order, and is not the same
abbrev pub before : List ℕ → List ℕ → Bool
before left right = is_lt (name_cmp left right)

-- whether each mask stands before all that follow it
abbrev pub rises : List (List ℕ) → Bool
rises [] = true
rises (ban ∷ bans) = list_all (before ban) bans && rises bans

abbrev pub IsBanList : List (List ℕ) → Type 0
IsBanList bans = IsTrue (rises bans)

-- whether some ban matches a text
abbrev pub some_matches : List (List ℕ) → List ℕ → Bool
some_matches bans text = list_any (λ ban. matches ban text) bans
