use Rattle.std.proofs.Common.{◌∙◌, ap, map, subst}
use Rattle.irc_tables.specs.RowViews.{row_entry}
use Rattle.irc_effects.specs.Found.{AreNamed}
use Rattle.irc_effects.specs.Found.{users_under}
use Rattle.irc_effects.specs.Room.{Room}
use Rattle.irc_effects.specs.Lemmas.Rows.{found_also}
use Rattle.irc_room.proofs.WhoSees.{names_chosen, also_one}
use Rattle.irc_room.proofs.viewers.with_sharers.Goals as goal

pub returns : goal.returns
returns c =
    let named = subst
    (λ (room : Room). AreNamed room.users) c.tables.view_is c.tables.invariant.users_named in
    found_also c.users_of.result
    (λ found is. is
    ∙ ap (λ (room : Room). users_under room.users (map row_entry c.as_slice.result.now))
    c.tables.view_is
    ∙ names_chosen c.args.tables.now.users named _ c.as_slice.result.now _ c.as_slice.ensures
    (also_one _ _ c.args.nick.now c.as_bytes.result.now c.as_bytes.ensures.value _
    c.in_ok-names.ensures c.in_ok-put_name.ensures))
    c.users_of.ensures
