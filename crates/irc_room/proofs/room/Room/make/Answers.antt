use Rattle.std.proofs.Common.{◌∙◌, ap, sym, subst}
use Rattle.irc_effects.specs.Applying.{ServerRoom}
use Rattle.irc_effects.specs.Effects.{brings_free, IsPossible}
use Rattle.irc_effects.specs.Room.{Room}
use Rattle.irc_room.specs.ServerRoomCodes.{server_room_of}
use Rattle.irc_room.specs.Loops.HomeCount.{home_count}
use Rattle.irc_room.proofs.CountedUsers.{still_counted}
use Rattle.irc_room.proofs.Refusals.{kept_changed, kept_refused}
use Rattle.irc_room.proofs.room.Room.make.Goals as goal

pub change-requires : goal.change-requires
change-requires c =
    subst (λ (k : ServerRoom). IsPossible k.room c.args.effect.now) (sym c.self.view_is)
    c.requires.possible

pub with_newcomer-self-inside-requires : goal.with_newcomer-self-inside-requires
with_newcomer-self-inside-requires c =
    ap (λ (r : Room). home_count c.self.inside.own r.users) c.in-Ok.ensures.changed
    ∙ still_counted c.self.inside.own c.self.inside.tables c.args.effect.now
    c.self.inside.at_home c.staying-stay.result
    (ap (λ (k : ServerRoom). brings_free k.room c.args.effect.now) c.self.view_is
    ∙ c.requires.possible.nick_free) c.self.invariant c.staying-stay.ensures

pub returns-in-Ok-clause-ok : goal.returns-in-Ok-clause-ok
returns-in-Ok-clause-ok c =
    kept_changed (server_room_of c.self.inside.own c.self.inside.failed c.self.inside.tables)
    c.args.self.now _ c.args.effect.now c.self.view_is
    (ap (λ (k : ServerRoom). k.failed) c.self.view_is ∙ c.requires.alive) c.in-Ok.ensures.changed

pub returns-in-Err-clause-refused : goal.returns-in-Err-clause-refused
returns-in-Err-clause-refused c =
    kept_refused (server_room_of c.self.inside.own c.self.inside.failed c.self.inside.tables)
    c.args.self.now _ c.self.view_is c.in-Err.ensures.refused
