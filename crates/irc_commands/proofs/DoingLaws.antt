-- What is decided does something.
use Rattle.std.proofs.Common.{map, refl}
use Rattle.irc_names.specs.Fold.{key}
use Rattle.irc_acts.specs.Doing.{AreDoing}
use Rattle.irc_acts.specs.DoingLaws.{own_are_doing}
use Rattle.irc_acts.specs.Moves.{own_channels}
use Rattle.irc_acts.specs.OwnLaws.{stored_there}
use Rattle.irc_channel_commands.specs.Join.{leaves}
use Rattle.irc_channel_commands.specs.Laws.JoinLaw.{leaving_all_is_own}
use Rattle.irc_commands.specs.Doing.{DecidedDoes, RegisteringDoes}
use Rattle.irc_commands.proofs.CommandTable.{decided_so}
use Rattle.irc_commands.proofs.RegisteringCases.{registering_so}

pub decided_does : DecidedDoes
decided_does room place who message well =
    decided_so room place who message (λ d. AreDoing room d.steps) (record {
      silent = tt;
      own = λ me steps is own carries. own_are_doing me room steps well
          (stored_there room well (key who) me is) own;
      renamed = λ me nickname is named free. record { now = refl; later = tt };
      leaves_all = λ me is. own_are_doing me room (map (leaves me) (own_channels room me)) well
          (stored_there room well (key who) me is) (leaving_all_is_own me room well);
      quits = λ me reason line is reason_is. record { now = refl; later = tt };
    })

pub registering_does : RegisteringDoes
registering_does room place pending message =
    registering_so room place pending message (λ r. AreDoing room r.steps) (record {
      silent = λ pending given. tt;
      answered = λ pending given reply. tt;
      told = λ pending given line. tt;
      closed = λ pending given line. tt;
      added = λ pending given nickname username is named free. record { now = refl; later = tt };
    })
