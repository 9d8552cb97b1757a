use Rattle.std.proofs.Common.{ap}
use Rattle.irc_room.specs.Applying.{ServerRoom}
use Rattle.irc_stage.specs.Loops.Parts.{view_of}
use Rattle.irc_stage.proofs.Respelling.{room_respelled, serves_respelled}
use Rattle.irc_stage.proofs.parts.ServerParts.respell.Goals as goal

pub returns-clause-ok : goal.returns-clause-ok
returns-clause-ok c =
    ap (λ (kept : ServerRoom). record (view_of c.args.self.now) { room = kept.room })
    (room_respelled c.respell.result c.args.self.now.room c.respell.new.self c.args.channel.now
    c.requires.serving.ready.sound.serves
    c.respell.ensures.fault c.respell.ensures.ok c.respell.ensures.refused)

pub returns-clause-serving : goal.returns-clause-serving
returns-clause-serving c =
    serves_respelled c.args.self.now c.requires.serving c.args.channel.now c.respell.new.self
    c.forget.new.self
    (room_respelled c.respell.result c.args.self.now.room c.respell.new.self c.args.channel.now
    c.requires.serving.ready.sound.serves
    c.respell.ensures.fault c.respell.ensures.ok c.respell.ensures.refused)
    c.forget.ensures.forgotten
