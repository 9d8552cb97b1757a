use Rattle.std.proofs.Common.{◌≡◌, ℕ, ◌-◌, ◌<◌, false, List, ◌++◌, length}
use Rattle.irc_line.specs.Limits.{max_parameters}
use Rattle.irc_line.specs.Bytes.{begins, is_space}
use Rattle.irc_line.specs.Grammar.{ReadsParams}
use Rattle.irc_line.specs.MessageViews.{params_now}
use Rattle.irc_line.proofs.reading.read_params.Given as goal

-- whatever the rest holds completes the parameters of the whole text
abbrev pub invariant-loop-first : goal.invariant-loop-first
invariant-loop-first l = record {
  room : length l.params.items < max_parameters;
  no_space : begins is_space l.rest ≡ false;
  completes : (more : List (List ℕ))
      → ReadsParams (max_parameters - length l.params.items) l.rest more
      → ReadsParams max_parameters l.fn.text (params_now l.params ++ more);
}

abbrev pub decreases-loop-first : goal.decreases-loop-first
decreases-loop-first l = length l.rest
