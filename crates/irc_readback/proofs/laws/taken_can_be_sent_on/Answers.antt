use Rattle.irc_readback.specs.Lemmas.ModesRead.{taken_can_be_sent_on, taken_is_read_by_the_next}
use Rattle.irc_readback.proofs.laws.taken_can_be_sent_on.Goals as goal

pub returns-clause-written : goal.returns-clause-written
returns-clause-written c =
    taken_can_be_sent_on
    (record {
      written = c.written_is_read.ensures;
      asked = c.some_asked_are_readable.ensures;
      reworded_written = c.reworded_is_written.ensures;
      reworded_readable = c.reworded_is_readable.ensures;
      names = c.names_are_line_words.ensures;
    })

pub returns-clause-read : goal.returns-clause-read
returns-clause-read c =
    taken_is_read_by_the_next
    (record {
      written = c.written_is_read.ensures;
      asked = c.some_asked_are_readable.ensures;
      reworded_written = c.reworded_is_written.ensures;
      reworded_readable = c.reworded_is_readable.ensures;
      names = c.names_are_line_words.ensures;
    })
