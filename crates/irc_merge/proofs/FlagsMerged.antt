-- The flags of a member of a channel that two sides joined, where the sides are lists.
use Rattle.std.proofs.Common.{◌≡◌, ℕ, List, ◌∙◌, ap}
use Rattle.std.specs.Option.{option_and_then}
use Rattle.std.specs.FinMap.Entries.{find}
use Rattle.irc_names.specs.Tables.{fold_cmp, row}
use Rattle.irc_channels.specs.declared.channel.Channel.{Channel}
use Rattle.irc_room.specs.Lemmas.ListedRooms.{ListedRoom, room_of}
use Rattle.irc_merge.specs.Merge.{either, merge}
use Rattle.irc_merge.specs.Lemmas.ListedMerge.{AreInOrder, list_without, flags_in, joined_flags}
use Rattle.irc_merge.specs.Lemmas.ListedMerge.{channel_merged}

pub flags_merged : (one other : ListedRoom) → AreInOrder one → AreInOrder other
    → (nick channel : List ℕ) → option_and_then (λ (c : Channel). row c.members nick)
    (row (merge (room_of one) (room_of other)).channels channel)
    ≡ either (flags_in nick (find fold_cmp channel (list_without one other).channels))
    (flags_in nick (find fold_cmp channel (list_without other one).channels))
flags_merged one other order_one order_other nick channel =
    ap (option_and_then (λ (c : Channel). row c.members nick))
    (channel_merged one other order_one order_other channel)
    ∙ joined_flags nick (find fold_cmp channel (list_without one other).channels)
    (find fold_cmp channel (list_without other one).channels)
