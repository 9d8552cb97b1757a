use Rattle.std.proofs.Common.{◌≡◌, [], ◌∙◌, ap, subst, fold, map, IfOk}
use Rattle.irc_line.specs.PartViews.{words_now}
use Rattle.irc_link_reader.specs.Loops.Readings.{reader}
use Rattle.irc_burst.specs.DeedsMeant.{member_of, members_of}
use Rattle.irc_link_reader.specs.Loops.Tellings.{told_members}
use Rattle.irc_burst.specs.Loops.Deeds.{taken_as_stored}
use Rattle.irc_burst.proofs.MembersInTurn.{members_taken}
use Rattle.irc_burst.proofs.njoin_line.new_members.Goals as goal

pub returns : goal.returns
returns c =
    let far = (reader c.args.at).is_far in
    let room = c.args.at.room.now.room in
    let taken = taken_as_stored far room c.args.channel.now in
    subst (λ told. IfOk c.members_in_turn.result (λ members. told_members members.items ≡ told))
    (ap (λ words. fold taken [] (map member_of (words_now words))) c.as_slice.ensures.value
    ∙ ap (λ words. fold taken [] (map member_of words)) c.in_ok-words.ensures
    ∙ members_taken far c.args.channel.now room c.members_in_turn.ensures.well
    (members_of c.args.text.now))
    c.members_in_turn.ensures.ones
