-- What the search for a mask in a text has learned when it stands at a `*`, or at its end.
use Rattle.std.specs.Prelude.{ℕ, ◌<◌, List, length}
use Rattle.irc_names.specs.MaskLaws.{Somewhere}
use Rattle.irc_names.specs.declared.matching.Walk.{Walk}
use Rattle.irc_names.specs.declared.matching.Walk.TheVariants.{Star, Done, Differs}

-- A fact is the same as that the mask that is left matches some end of the text that is left.
pub record RestsOn (mask text : List ℕ) (whole : Type 0) : Type 0 where
  pub sound : Somewhere mask text → whole
  pub complete : whole → Somewhere mask text

-- what a walk tells of a fact: what it rests on still, that it holds, or that it does not
abbrev pub Tells : Walk → Type 0 → Type 0
Tells (Star mask text) whole = RestsOn mask.now text.now whole
Tells Done whole = whole
Tells Differs whole = ¬ whole

-- where a walk stands at a `*`, the rest of the mask is shorter
abbrev pub IsShorter : Walk → List ℕ → Type 0
IsShorter (Star rest text) mask = length rest.now < length mask
IsShorter Done mask = Unit {0}
IsShorter Differs mask = Unit {0}

-- Where a walk from the start of a text stands at a `*`, the whole mask can match no end of the
-- text, but where the rest of the mask matches some end of what is left.
abbrev pub IsFirst : Walk → List ℕ → List ℕ → Type 0
IsFirst (Star rest left) mask text = Somewhere mask text → Somewhere rest.now left.now
IsFirst Done mask text = Unit {0}
IsFirst Differs mask text = Unit {0}
