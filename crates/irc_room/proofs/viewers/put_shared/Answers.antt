use Rattle.std.proofs.Common.{◌∙◌, ap, ℕ, List}
use Rattle.std.specs.List.{list_any}
use Rattle.irc_names.specs.Fold.{key}
use Rattle.irc_tables.specs.Lemmas.RowsAsTable.{ok_also}
use Rattle.irc_channels.specs.Channels.{has_member}
use Rattle.irc_room.specs.Indexes.{holds}
use Rattle.irc_room.proofs.WhoSees.{gains_alike}
use Rattle.irc_room.specs.OwnNameLaws.{own_shared}
use Rattle.irc_room.proofs.RowValues.{list_any-row_name}
use Rattle.irc_room.proofs.viewers.put_shared.Goals as goal

pub returns : goal.returns
returns c =
    let channels = c.args.channels.now in
    ok_also c.put_all.result
    (gains_alike c.args.names.now _ _ _
    (λ q.
    list_any-row_name (holds has_member channels q) c.channels_of_user.result.now
    ∙ ap (list_any (λ (n : List ℕ × Unit {0}). holds has_member channels q n.0))
    c.channels_of_user.ensures
    ∙ own_shared (key c.args.nick.now) channels q))
    c.put_all.ensures
