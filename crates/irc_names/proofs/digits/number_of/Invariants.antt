use Rattle.std.proofs.Common.{◌≡◌, take}
use Rattle.irc_names.specs.Digits.{number_of}
use Rattle.irc_names.proofs.DigitSteps.{Below}
use Rattle.irc_names.proofs.digits.number_of.Given as goal

abbrev pub invariant-loop-digit : goal.invariant-loop-digit
invariant-loop-digit l = record {
  so_far : l.number ≡ number_of (take l.digit-index l.digits);
  below : Below l.digit-index l.number;
}
