use Rattle.std.proofs.Common.{◌∙◌, ap, length}
use Rattle.std.specs.FinMap.{values}
use Rattle.irc_effects.specs.Room.{Room}
use Rattle.irc_effects.specs.Lemmas.Rows.{users_counted}
use Rattle.irc_room.proofs.tables.Tables.user_count.Goals as goal

pub returns : goal.returns
returns c = c.len.ensures ∙ users_counted c.self.inside.users.users
    ∙ ap (λ (room : Room). length (values room.users)) c.self.view_is
