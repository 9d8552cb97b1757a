-- QUIT, and the line that a client is sent before it is closed.
use Rattle.std.specs.Prelude.{ℕ, true, List, [], ◌∷◌}
use Rattle.irc_users.specs.declared.user.User.{User}
use Rattle.irc_room.specs.effect.Effect.TheVariants.{Quit}
use Rattle.irc_acts.specs.declared.act.Act.TheVariants.{Raw, Do}
use Rattle.irc_acts.specs.Words.{reason_given}
use Rattle.irc_acts.specs.Acts.{bytes_kept}
use Rattle.irc_commands.specs.Decisions.{Decided}
use Rattle.irc_commands.specs.Closing.{error_line}

-- what a QUIT does (RFC 2812 section 3.1.7): those who share a channel see it first, then the
-- client is told and closed
abbrev pub quit_decided : User → List (List ℕ) → Decided
quit_decided me params =
    let reason = reason_given params me.nick in
    record {
      steps = Do (Quit me.nick reason) ∷ Raw (bytes_kept (error_line reason)) ∷ [];
      close = true;
    }
