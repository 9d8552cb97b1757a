-- Channels have modes within limits, whatever is changed.
use Rattle.std.proofs.Common.{refl, sym, ap, subst}
use Rattle.irc_channels.specs.declared.channel.Channel.{Channel}
use Rattle.irc_channels.specs.ModeLaws.{NewIsWithinLimits, ChangedIsWithinLimits}
use Rattle.irc_modes.specs.ModesSet.{AreWithinLimits}
use Rattle.irc_channels.proofs.ChangesParted.{all_parted}
use Rattle.irc_modes.specs.Lemmas.LimitsKept.{modes_are_within_limits}

pub changed_is_within_limits : ChangedIsWithinLimits
changed_is_within_limits changes channel h =
    subst AreWithinLimits (sym (ap (λ (c : Channel). c.modes) (all_parted changes channel)))
    (modes_are_within_limits changes channel.modes h)

pub new_is_within_limits : NewIsWithinLimits
new_is_within_limits name = record { key = tt; limit = tt; in_order = refl; masks = refl }
