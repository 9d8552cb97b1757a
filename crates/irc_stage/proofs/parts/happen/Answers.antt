use Rattle.std.proofs.Common.{sym, subst}
use Rattle.irc_stage.specs.Loops.Parts.{IsSound}
use Rattle.irc_stage.proofs.parts.happen.Goals as goal

pub returns-clause-sound : goal.returns-clause-sound
returns-clause-sound c =
    subst IsSound (sym c.in_ok-make.ensures.ok)
    (record {
      serves = c.requires.sound.serves;
      well_formed = c.after_is_well_formed.ensures c.args.room.now.room c.args.effect.now
          c.requires.sound.well_formed c.requires.possible;
    })
