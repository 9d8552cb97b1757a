-- Lines under way as one list, in the order of sending. The queue from one server to another is
-- what of it goes from the one to the other.
use Rattle.std.specs.Prelude.{◌≡◌, ℕ, Bool, ◌&&◌, List, ◌∷◌, map, filter, remove}
use Rattle.irc_relay.specs.Links.{Name, same}

-- how what was sent is read: from whom, to whom, and which line
pub record SentParts (Sent Line : Type 0) : Type 0 where
  pub from : Sent → Name
  pub to : Sent → Name
  pub line : Sent → Line

-- it goes from x to y
abbrev pub goes : {Sent Line : Type 0} → SentParts Sent Line → Name → Name → Sent → Bool
goes r x y s = same (r.from s) x && same (r.to s) y

-- the queue from x to y, oldest first
abbrev pub queue_of : {Sent Line : Type 0} → SentParts Sent Line → List Sent → Name → Name
    → List Line
queue_of r sent x y = map r.line (filter (goes r x y) sent)

-- the i-th of what was sent, s, is the oldest in the queue from p to t, and taking it out leaves
-- all others in their order
pub record IsOldest {Sent Line : Type 0} (r : SentParts Sent Line) (sent : List Sent) (p t : Name)
    (i : ℕ) (s : Sent) : Type 0 where
  pub oldest : queue_of r sent p t ≡ r.line s ∷ queue_of r (remove sent i) p t
  pub others : (x y : Name) → (x ≡ p → y ≡ t → ⊥)
      → queue_of r (remove sent i) x y ≡ queue_of r sent x y
