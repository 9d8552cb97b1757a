use Rattle.std.proofs.Common.{◌≡◌, [], fold, map, take}
use Rattle.irc_line.specs.PartViews.{words_now}
use Rattle.irc_link_reader.specs.Loops.Readings.{reader}
use Rattle.irc_burst.specs.DeedsMeant.{member_of}
use Rattle.irc_link_reader.specs.Loops.Tellings.{told_members}
use Rattle.irc_burst.specs.Loops.Deeds.{taken_as_stored}
use Rattle.irc_burst.proofs.njoin_line.members_in_turn.Given as goal

abbrev pub invariant-loop-word : goal.invariant-loop-word
invariant-loop-word l =
    told_members l.members.items
    ≡ fold (taken_as_stored (reader l.at).is_far l.at.room.now.room l.channel) []
    (map member_of (words_now (take l.word-index l.words)))
