-- What the test of two names tells.
use Rattle.std.proofs.Common.{◌≡◌, ◌≢◌, Bool, true, false, refl, sym}
use Rattle.std.specs.Cmp.Lexicographic.{same_text, other_text}
use Rattle.irc_relay.specs.Links.{Name, same}

pub data Telling (a b : Name) : Type 0 where
  alike : same a b ≡ true → a ≡ b → Telling a b
  unlike : same a b ≡ false → a ≢ b → Telling a b

pub tell : (a b : Name) → Telling a b
tell a b = go (same a b) refl
  where
    go : (r : Bool) → same a b ≡ r → Telling a b
    go true e = alike e (same_text a b (sym e))
    go false e = unlike e (other_text a b (sym e))

pub same_when : (a b : Name) → a ≡ b → same a b ≡ true
same_when a b e = elim (tell a b) [ alike t _ ↦ t | unlike _ n ↦ absurd (n e) ]

pub same_unless : (a b : Name) → a ≢ b → same a b ≡ false
same_unless a b n = elim (tell a b) [ alike _ e ↦ absurd (n e) | unlike f _ ↦ f ]
