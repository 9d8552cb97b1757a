use Rattle.std.proofs.Common.{◌∙◌, refl, sym}
use Rattle.std.proofs.lemmas.Bool.{not-false}
use Rattle.irc_room.specs.ToldLaws.{idle_tells_nothing}
use Rattle.irc_room.proofs.Refusals.{idle_kept}
use Rattle.irc_room.proofs.room.Room.apply.Goals as goal

pub returns-in-Ok-false-clause-applied : goal.returns-in-Ok-false-clause-applied
returns-in-Ok-false-clause-applied c =
    let told = c.in-Ok-false.ensures in
    let idle = not-false _ (sym told.1 ∙ c.in-Ok-false.field-0-test) in
    (told.0, idle_kept c.args.self.now c.args.effect.now idle, told.2)

pub returns-in-Ok-false-clause-idle : goal.returns-in-Ok-false-clause-idle
returns-in-Ok-false-clause-idle c = λ idle none.
    let now = c.args.self.now in (
      refl,
      refl,
      c.in-Ok-false.ensures.2 ∙ idle_tells_nothing now.own now.room c.args.effect.now idle,
    )
