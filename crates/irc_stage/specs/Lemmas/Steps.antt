-- What a server puts out stays behind what it put out before.
use Rattle.std.proofs.Common.{◌≡◌, List, ap, append_assoc}
use Rattle.irc_room.specs.effect.Effect.{Effect}
use Rattle.irc_batch.specs.Batches.{Sent}
use Rattle.irc_stage.specs.EffectTold.{Served, changed, shown_at, view_after, with_sent}
use Rattle.irc_stage.specs.Loops.Parts.{behind_sent}

-- what a server does, whatever it put out before
abbrev pub LeavesInFront : (Served → Served) → Type 0
LeavesInFront serve =
    (out : List Sent) (s : Served) → serve (behind_sent out s) ≡ behind_sent out (serve s)

pub sent_behind : (sent : List Sent) → LeavesInFront (with_sent sent)
sent_behind sent out s = ap (λ o. record { state = s.state; out = o }) (append_assoc out s.out sent)

pub changed_behind : (effect : Effect) → LeavesInFront (changed effect)
changed_behind effect out s = ap (λ o. record { state = view_after s.state effect; out = o })
    (append_assoc out s.out (shown_at s.state effect))
