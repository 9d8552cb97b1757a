-- The front of a mask, as the code cuts it off: the part that the mask begins with, and the mask
-- after it.
use Rattle.std.specs.Prelude.{ℕ, Bool, true, false, cond, List, [], ◌∷◌, nat_eq}
use Rattle.irc_names.specs.Fold.{fold}
use Rattle.irc_names.specs.Masks.{is_wild}
use Rattle.irc_names.specs.declared.matching.Part.{Part}
use Rattle.irc_names.specs.declared.matching.Part.TheVariants.{Run, AnyByte, Escaped, Plain}

-- what stands in front of a mask: nothing, or a part and the mask after it
pub data Front : Type 0 where
  Empty : Front
  Begins : Part → List ℕ → Front

-- the front of a mask that begins with a backslash, by what follows the backslash
abbrev pub front_after_backslash : List ℕ → Front
front_after_backslash [] = Begins (Plain 0x5C) []
front_after_backslash (byte ∷ rest) =
    cond (is_wild byte) (Begins (Escaped byte) rest) (Begins (Plain 0x5C) (byte ∷ rest))

-- the front of a mask
abbrev pub front : List ℕ → Front
front [] = Empty
front (byte ∷ rest) =
    cond (nat_eq byte 0x2A) (Begins Run rest)
    (cond (nat_eq byte 0x3F) (Begins AnyByte rest)
    (cond (nat_eq byte 0x5C) (front_after_backslash rest)
    (Begins (Plain byte) rest)))

-- whether a part stands for one byte, and for this one
abbrev pub accepts : Part → ℕ → Bool
accepts Run byte = false
accepts AnyByte byte = true
accepts (Escaped own) byte = nat_eq own byte
accepts (Plain own) byte = nat_eq (fold own) (fold byte)
