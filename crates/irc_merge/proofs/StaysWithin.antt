-- What brings nothing new to a room within limits leaves it within them.
use Rattle.std.proofs.Common.{◌≡◌, ℕ, true, List, inl, inr, sym, subst}
use Rattle.std.specs.List.{list_all}
use Rattle.irc_names.specs.Names.{IsChannel}
use Rattle.irc_line.specs.Carried.{is_carried}
use Rattle.irc_modes.specs.declared.modes.Modes.{Modes}
use Rattle.irc_modes.specs.ModesSet.{AreWithinLimits}
use Rattle.irc_modes.specs.JoinedLaws.{joined_is_within_limits}
use Rattle.irc_modes.specs.Lemmas.JoinedBans.{all-joined_bans}
use Rattle.irc_channels.specs.declared.channel.Channel.{Channel}
use Rattle.irc_room.specs.Room.{Room}
use Rattle.irc_room.specs.Limits.{IsCarriedText, IsChannelWithin, IsWithinLimits}
use Rattle.irc_merge.specs.Merge.{AreAlike, one_channel}
use Rattle.irc_merge.specs.Laws.{ComesOf, IsOfBoth, of_one, of_other, of_both, ComesOfBoth}
use Rattle.irc_merge.specs.LimitLaws.{WithinLimitsIsTold}
use Rattle.irc_merge.specs.Lemmas.Joining.{greater_so}

-- a channel with the name, modes and topic of one within limits
alike_within : (channel before : Channel) → AreAlike channel before → IsChannelWithin before
    → IsChannelWithin channel
alike_within channel before alike within = record {
  name = subst IsChannel (sym alike.name) within.name;
  topic = subst IsCarriedText (sym alike.topic) within.topic;
  modes = subst AreWithinLimits (sym alike.modes) within.modes;
  bans_carried = subst (λ (modes : Modes). list_all is_carried modes.bans ≡ true)
      (sym alike.modes) within.bans_carried;
}

-- two channels within limits are joined to one
joined_within : (before theirs : Channel) → IsChannelWithin before → IsChannelWithin theirs
    → IsChannelWithin (one_channel before theirs)
joined_within before theirs within within_too = record {
  name = greater_so IsChannel before.name theirs.name within.name within_too.name;
  topic = greater_so IsCarriedText before.topic theirs.topic within.topic within_too.topic;
  modes = joined_is_within_limits before.modes theirs.modes within.modes within_too.modes;
  bans_carried = all-joined_bans is_carried before.modes.bans theirs.modes.bans within.bans_carried
      within_too.bans_carried;
}

pub both_within : (one other new : Room) → ComesOfBoth one other new → IsWithinLimits one
    → IsWithinLimits other → IsWithinLimits new
both_within one other new comes first second = record {
  users = λ fold user is. elim (comes.users fold user is) [
    | inl h ↦ first.users fold user h
    | inr h ↦ second.users fold user h
  ];
  channels = λ fold channel is. within fold channel (comes.channels fold channel is);
}
  where
    within : (fold : List ℕ) (channel : Channel) → IsOfBoth one other fold channel
        → IsChannelWithin channel
    within fold channel (of_one before at alike) =
        alike_within channel before alike (first.channels fold before at)
    within fold channel (of_other before at alike) =
        alike_within channel before alike (second.channels fold before at)
    within fold channel (of_both before theirs at that alike) =
        alike_within channel (one_channel before theirs) alike
        (joined_within before theirs (first.channels fold before at)
        (second.channels fold theirs that))

pub left_within : (room new : Room) → ComesOf room new → IsWithinLimits room → IsWithinLimits new
left_within room new comes within = record {
  users = λ fold user is. within.users fold user (comes.users fold user is);
  channels = λ fold channel is.
      let found = comes.channels fold channel is in
      alike_within channel found.0 found.1.1 (within.channels fold found.0 found.1.0);
}

pub within_is_told : WithinLimitsIsTold
within_is_told room within =
    record { modes = λ fold channel is. (within.channels fold channel is).modes }
