-- What comes of reading a message of the day, where a file is named.
use Rattle.std.proofs.Common.{◌≡◌, ◌∙◌, ℕ, true, Option, Result, Ok, Err, IsErrAnd, List, inl, inr}
use Rattle.std.proofs.Common.{is_some, sym, subst}
use Rattle.irc_door.specs.declared.manner.Manner.{Manner}
use Rattle.irc_door.specs.declared.motd.Motd.{Motd}
use Rattle.irc_endings.specs.declared.fault.Stop.{Stop}
use Rattle.irc_endings.specs.declared.fault.Stop.TheVariants.{Usage, BadScript, BadConfiguration}
use Rattle.irc_endings.specs.declared.fault.Stop.TheVariants.{Failed}
use Rattle.ircd.specs.declared.setup.Setup.{Setup}
use Rattle.ircd.specs.Loops.Manners.{FindsManner, FindsMotd, ReadsMotd}
use Rattle.ircd.specs.Loops.Turns.{IsOfFile}
use Rattle.ircd.specs.Serving.{motd_file}

pub named_unread : (file : Option (List ℕ)) (room : ℕ) (r : Result (Option Motd) Stop)
    (stop : Stop) → is_some file ≡ true → IsOfFile stop → IsErrAnd r (λ e. e ≡ stop)
    → FindsMotd file room r
named_unread file room (Ok _) stop named of failed = absurd failed
named_unread file room (Err e) stop named (inl is) failed =
    subst (λ s. FindsMotd file room (Err s)) (sym (failed ∙ is)) named
named_unread file room (Err e) stop named (inr is) failed =
    subst (λ s. FindsMotd file room (Err s)) (sym (failed ∙ is)) tt

pub motd_unread : (room : ℕ) (r : Result Motd Stop) (stop : Stop) → IsOfFile stop
    → IsErrAnd r (λ e. e ≡ stop) → ReadsMotd room r
motd_unread room (Ok _) stop of failed = absurd failed
motd_unread room (Err e) stop of failed = subst IsOfFile (sym failed) of

-- how clients are spoken to is not found, since the message is not
found_by : (setup : Setup) (stop : Stop) → FindsMotd (motd_file setup) setup.listening.client_room
    (Err stop) → FindsManner setup (Err stop)
found_by setup BadConfiguration none = none
found_by setup Failed none = tt
found_by setup Usage none = absurd none
found_by setup (BadScript line) none = absurd none

pub manner_unfound : (setup : Setup) (file : Option (List ℕ)) (r : Result Manner Stop)
    (stop : Stop) → file ≡ motd_file setup → FindsMotd file setup.listening.client_room (Err stop)
    → IsErrAnd r (λ e. e ≡ stop) → FindsManner setup r
manner_unfound setup file (Ok _) stop is none failed = absurd failed
manner_unfound setup file (Err e) stop is none failed =
    subst (λ s. FindsManner setup (Err s)) (sym failed)
    (found_by setup stop
    (subst (λ f. FindsMotd f setup.listening.client_room (Err stop)) is none))
