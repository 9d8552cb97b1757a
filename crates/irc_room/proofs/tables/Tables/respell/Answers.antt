use Rattle.std.proofs.Common.{sym, subst}
use Rattle.irc_names.specs.Tables.{Table}
use Rattle.irc_channels.specs.declared.channel.Channel.{Channel}
use Rattle.irc_effects.specs.Room.{IsWellFormed}
use Rattle.irc_effects.specs.Lemmas.RespelledRooms.{respelled_is_well_formed}
use Rattle.irc_room.specs.Codes.{room_of}
use Rattle.irc_room.proofs.tables.Tables.respell.Goals as goal

pub invariant_of-self : goal.invariant_of-self
invariant_of-self c =
    let users = c.self.inside.users.users in
    subst (λ (channels : Table Channel). IsWellFormed (room_of users channels))
    (sym c.respell.ensures)
    (respelled_is_well_formed c.args.channel.now
    (room_of users c.self.inside.channels) c.self.invariant)
