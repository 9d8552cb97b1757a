-- What becomes of lines, computed.
use Rattle.std.proofs.Common.{refl}
use Rattle.irc_line.specs.Reading.{read_of}
use Rattle.irc_hold.specs.Examples.{ClientsAreHeld, LinesAreJudged}

pub lines_are_judged : LinesAreJudged
unfolding read_of
lines_are_judged = record {
  asks = refl;
  wants = refl;
  wants_in_small = refl;
  wants_again = refl;
  lists = refl;
  no_word = refl;
  ends = refl;
  ends_in_small = refl;
  ends_nothing = refl;
  user = refl;
  user_in_small = refl;
  user_at_once = refl;
  short_user = refl;
  named_user = refl;
  named_cap = refl;
  named_end = refl;
  nick = refl;
  no_line = refl;
}

pub clients_are_held : ClientsAreHeld
unfolding read_of
clients_are_held = record {
  begins = (refl, refl);
  asks = (refl, refl);
  names = (refl, refl);
  keeps = (refl, refl);
  keeps_last = (refl, refl);
  wants = (refl, refl);
  ends = (refl, refl);
  ends_without = (refl, refl);
  ends_nothing = (refl, refl);
  goes_at_once = (refl, refl);
  short = (refl, refl);
}
