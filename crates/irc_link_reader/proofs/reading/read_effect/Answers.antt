use Rattle.std.proofs.Common.{rules}
use Rattle.irc_line.specs.MessageViews.{parsed}
use Rattle.irc_link_reader.proofs.EffectsMeant.{meant-so, memory-so}
use Rattle.irc_link_reader.specs.Reader.{reader_of}
use Rattle.irc_link_reader.proofs.reading.read_effect.Goals as goal

pub returns-in-Ok : goal.returns-in-Ok
returns-in-Ok c =
    meant-so (reader_of c.args.room.now.room c.args.routes.now c.args.link)
    (parsed c.args.message.now) c.in-Some.command c.in-Ok.told c.given.result
    (search rules) c.in-Ok.ensures.told c.given.ensures

pub returns-in-Err : goal.returns-in-Err
returns-in-Err c =
    memory-so (reader_of c.args.room.now.room c.args.routes.now c.args.link)
    (parsed c.args.message.now) c.in-Some.command (search rules) c.in-Err.ensures.memory
