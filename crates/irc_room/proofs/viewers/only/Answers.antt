use Rattle.std.proofs.Common.{◌∙◌, ap, map, ◌++◌, option_to_list}
use Rattle.irc_names.specs.Fold.{key, same}
use Rattle.irc_names.specs.Tables.{row}
use Rattle.irc_effects.specs.Found.{users_who}
use Rattle.irc_effects.specs.Room.{Room}
use Rattle.irc_effects.specs.Lemmas.FoundInTurn.{one_chosen}
use Rattle.irc_room.proofs.viewers.only.Goals as goal

pub returns : goal.returns
returns c =
    let users = c.tables.inside.users.users in
    c.in_ok-add_named.ensures
    ∙ ap (λ found. map (λ user. user.now) found
    ++ option_to_list (row users (key c.as_bytes.result.now))) c.new-found.ensures.items
    ∙ ap (λ name. option_to_list (row users (key name))) c.as_bytes.ensures.value
    ∙ one_chosen users c.tables.invariant.users_named c.args.nick.now
    ∙ ap (λ (room : Room). users_who room.users (same c.args.nick.now)) c.tables.view_is
