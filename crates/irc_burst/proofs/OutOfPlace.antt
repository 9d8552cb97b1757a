-- A line that closes a link before the end of its handshake.
use Rattle.std.proofs.Common.{◌≡◌, ℕ, Bool, Option, Some, None, Result, Err, sym, ◌∙◌, ap}
use Rattle.std.proofs.Common.{unwrap_or}
use Rattle.irc_batch.specs.declared.close_reason.CloseReason.{CloseReason}
use Rattle.irc_line.specs.Messages.{Parsed}
use Rattle.irc_room.specs.Room.{Room}
use Rattle.irc_routes.specs.Known.{Known}
use Rattle.irc_link_words.specs.Openings.{opening_of}
use Rattle.irc_link_words.specs.declared.openings.Opening.{Opening}
use Rattle.irc_burst.specs.DeedsMeant.{deeds_meant}
use Rattle.irc_burst.specs.HandshakeMeant.{handshake_meant, out_of_place}

module _ (has_password : Bool) (room : Room) (known : Known) (link : ℕ) (message : Parsed) where
  meant_as : (o : Option (Result Opening CloseReason)) → opening_of has_password message ≡ o
      → handshake_meant has_password room known link message
      ≡ unwrap_or o (Err (out_of_place (deeds_meant room known link message)))
  unfolding handshake_meant
  meant_as o is =
      ap (λ given. unwrap_or given (Err (out_of_place (deeds_meant room known link message)))) is

  pub opened-some : (given : Result Opening CloseReason)
      → opening_of has_password message ≡ Some given
      → given ≡ handshake_meant has_password room known link message
  opened-some given is = sym (meant_as (Some given) is)

  pub opened-none : (given : CloseReason) → opening_of has_password message ≡ None
      → given ≡ out_of_place (deeds_meant room known link message)
      → Err given ≡ handshake_meant has_password room known link message
  opened-none given is closed = ap Err closed ∙ sym (meant_as None is)

pub ruleset opened_so = (opened-some, opened-none)
