-- A log whose front is read.
use Rattle.std.proofs.Common.{◌≡◌, ℕ, Bool, true, false, List, [], ◌∷◌, drop, length, refl, sym}
use Rattle.std.proofs.Common.{ap, if◌then◌else◌, ◌<◌, arith}
use Rattle.std.proofs.lemmas.Bool.{false≢true}
use Rattle.irc_crossing.specs.declared.log.Entry.{Entry}
use Rattle.irc_crossing.specs.Logs.{is_first_read, unread}

module _ (read : ℕ) where
  -- where the first is read, the rest has what is not read
  pub first_goes : (log : List Entry) → is_first_read read log ≡ true
      → unread read (drop 1 log) ≡ unread read log
  first_goes [] is = absurd (false≢true is)
  first_goes (entry ∷ log) is =
      sym (ap (λ (b : Bool). if b then unread read log else entry ∷ log) is)

  -- else all of it is not read
  pub none_goes : (log : List Entry) → is_first_read read log ≡ false → log ≡ unread read log
  none_goes [] is = refl
  none_goes (entry ∷ log) is =
      sym (ap (λ (b : Bool). if b then unread read log else entry ∷ log) is)

  pub one_fewer : (log : List Entry) → is_first_read read log ≡ true
      → length (drop 1 log) < length log
  one_fewer [] is = absurd (false≢true is)
  one_fewer (entry ∷ log) is = omega arith
