-- Who may link (RFC 2813 section 4.1).
use Rattle.std.specs.Prelude.{ℕ, Option, Some, None, List, if◌then◌else◌}
use Rattle.std.specs.Str.{bytes_eq}
use Rattle.irc_batch.specs.declared.close_reason.CloseReason.{CloseReason}
use Rattle.irc_batch.specs.declared.close_reason.CloseReason.TheVariants as reason
use Rattle.irc_routes.specs.Known.{Known, is_known, is_full}

-- why a server more is not taken, be it a neighbour or behind one (RFC 2813 section 4.1.2)
abbrev pub not_taken : Known → List ℕ → Option CloseReason
not_taken known name = if is_known known name then Some reason.AlreadyKnown
    else (if is_full known then Some reason.Full else None)

-- why a neighbour that names itself is refused, by the password that is kept for a peer of this
-- name, if there is one, and the password that it gave
abbrev pub refusal : Option (List ℕ) → List ℕ → Known → List ℕ → Option CloseReason
refusal None given known name = Some reason.UnknownPeer
refusal (Some kept) given known name =
    if bytes_eq kept given then not_taken known name else Some reason.Password
