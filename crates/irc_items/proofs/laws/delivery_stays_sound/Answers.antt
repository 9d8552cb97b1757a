use Rattle.irc_items.proofs.Handshake.Greetings.{greeting_is_met}
use Rattle.irc_items.proofs.Delivery.Delivering.{delivery_stays_sound}
use Rattle.irc_items.proofs.laws.delivery_stays_sound.Goals as goal

pub returns : goal.returns
returns c = delivery_stays_sound (record {
  kept = c.keeps_its_setting.ensures;
  world = c.taken_make_world.ensures;
  greeting_met = greeting_is_met (record {
    lines =
        record {
          written = c.written_is_read.ensures;
          alone = c.every_line_is_read.ensures.alone;
          as_line = c.written_is_line.ensures;
          names = c.names_are_line_words.ensures;
        };
    passwords = c.lines_fit.ensures.passwords;
    names = c.lines_fit.ensures.names;
  });
})
