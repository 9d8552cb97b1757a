-- Numbers under which nothing is there are nothing to two servers that are alike.
--
-- a.net gets a link to b.net, which is place 1, as connection 7: before it is opened, link 1 may be
-- 7 already, and once it is lost, link 1 may be another number, or none. Likewise with who connects
-- and who is gone.
use Rattle.std.specs.Prelude.{◌≡◌, ℕ, true, ◌||◌, ◌↔◌, is_some, Some}
use Rattle.std.specs.FinMap.{get}
use Rattle.irc_stage.specs.Ways.{AreEnds}
use Rattle.irc_stage.specs.View.{View}
use Rattle.irc_numbers.specs.Alike.{AreAlike, Numbers}

-- each link and client that is there has the same number by the old as by the new
pub record AgreeInUse (old new : Numbers) (own other : View) : Type 0 where
  pub links : (place conn : ℕ)
      → (is_some (get own.ends conn) || is_some (get other.ends place)) ≡ true → (old.link place
      ≡ Some conn) ↔ (new.link place ≡ Some conn)
  pub clients : (client conn : ℕ)
      → (is_some (get own.clients conn) || is_some (get other.clients client)) ≡ true
      → (old.client client ≡ Some conn) ↔ (new.client client ≡ Some conn)

-- Servers that are alike by the old numbers are so by the new. Each server that is known is behind
-- a link that counts, and so is there.
abbrev pub NumbersInUseCount : Type 0
NumbersInUseCount = (old new : Numbers) (own other : View) → AreAlike old own other
    → AreEnds own.ends own.routes → AgreeInUse old new own other
    → AreAlike new own other
