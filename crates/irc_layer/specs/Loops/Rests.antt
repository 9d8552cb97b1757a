-- What is put out behind something, and the line at hand.
use Rattle.std.specs.Prelude.{◌≡◌, ℕ, ⊤, Option, Some, None, List, drop}
use Rattle.irc_batch.specs.Batches.{Sent}
use Rattle.irc_layer.specs.declared.putting.Rest.{Rest}

abbrev pub rest_of : Rest → List Sent
rest_of rest = drop rest.place rest.held.now.outs

-- this line is at hand, if it is one
abbrev pub IsAtHand : Option (List ℕ) → List ℕ → Type 0
IsAtHand None hand = ⊤
IsAtHand (Some line) hand = hand ≡ line
