-- Masks (RFC 2812, section 2.5): `*` stands for any run of bytes, `?` for one byte, `\*` for `*`
-- and `\?` for `?`. Any other backslash is itself, and a mask is read from left to right, so that
-- `\\*` is a backslash and then the byte `*` (our own choice where the RFC leaves it open). A byte
-- matches each byte with an equal fold.
use Rattle.std.specs.Prelude.{◌≡◌, ℕ, Bool, false, not, ◌&&◌, ◌||◌, List, [], ◌∷◌, ◌++◌, nat_eq}
use Rattle.std.specs.Prelude.{IsTrue}
use Rattle.irc_names.specs.Fold.{fold}

-- the bytes that a mask gives a meaning: `*` and `?`
abbrev pub is_wild : ℕ → Bool
is_wild byte = nat_eq byte 0x2A || nat_eq byte 0x3F

-- whether a mask begins with one of them
abbrev pub starts_wild : List ℕ → Bool
starts_wild [] = false
starts_wild (byte ∷ rest) = is_wild byte

-- Whether a byte of a mask stands for itself before this rest of the mask: it is not `*` or `?`,
-- and no backslash before one of them.
abbrev pub stands_for_itself : ℕ → List ℕ → Bool
stands_for_itself byte rest = not (is_wild byte) && not (nat_eq byte 0x5C && starts_wild rest)

-- A mask matches a text, read from the left.
pub data Matches : List ℕ → List ℕ → Type 0 where
  -- `*`, and any run of bytes
  run : {mask rest text more : List ℕ} (skipped : List ℕ)
      → mask ≡ 0x2A ∷ rest → text ≡ skipped ++ more → Matches rest more → Matches mask text
  -- `?`, and one byte
  any : {mask rest text more : List ℕ} {byte : ℕ}
      → mask ≡ 0x3F ∷ rest → text ≡ byte ∷ more → Matches rest more → Matches mask text
  -- `\*` or `\?`, and that byte
  escaped : {mask rest text more : List ℕ} {byte : ℕ} → mask ≡ 0x5C ∷ byte ∷ rest
      → IsTrue (is_wild byte) → text ≡ byte ∷ more → Matches rest more → Matches mask text
  -- any other byte, and one with an equal fold
  plain : {mask rest text more : List ℕ} {own byte : ℕ} → mask ≡ own ∷ rest
      → IsTrue (stands_for_itself own rest) → text ≡ byte ∷ more → fold own ≡ fold byte
      → Matches rest more → Matches mask text
  -- the end of both
  end : {mask text : List ℕ} → mask ≡ [] → text ≡ [] → Matches mask text
