use Rattle.std.proofs.Common.{ℕ, List, subst, sym, ap, ◌∙◌, rules}
use Rattle.std.specs.Borrow.{Bor}
use Rattle.irc_line.specs.Grammar.{CommandAt}
use Rattle.irc_line.specs.MessageViews.{params_now, optional_now}
use Rattle.irc_line.proofs.ReadingLaws.{read_as_one}
use Rattle.irc_line.proofs.LinesRead.{is_read_so_alone}
use Rattle.irc_line.proofs.ReadingSteps.{plain_line, prefixed_line, not_empty}
use Rattle.irc_line.proofs.reading.parse.Goals as goal
use Rattle.irc_line.proofs.reading.parse.Goals.{then-first-eq-COLON+else-is_empty}
use Rattle.irc_line.proofs.reading.parse.Goals.{else-first-eq-COLON}

pub returns-then-contains-clause-only : goal.returns-then-contains-clause-only
returns-then-contains-clause-only c = λ read is. read_as_one _ _ read (search rules) is

pub returns-in_default-clause-only : goal.returns-in_default-clause-only
returns-in_default-clause-only c = λ read is. read_as_one _ _ read (search rules) is

pub returns-then-is_empty-clause-only : goal.returns-then-is_empty-clause-only
returns-then-is_empty-clause-only c = λ read is. read_as_one _ _ read (search rules) is

pub returns-clause-given : goal.returns-clause-given
returns-clause-given c =
    let command_at = λ (text : Bor (List ℕ)). CommandAt text.now c.read_command.result.command.now
    (params_now c.read_command.result.params) in
    elim c.if-first-eq-COLON.branch [
      | then-first-eq-COLON+else-is_empty w ↦
          prefixed_line _ _ _ _ _ _ _ _ _ _ (c.read_command.ensures.prefix
          ∙ ap optional_now w.prefix-is) (sym c.if-contains.ensures.value)
          c.skip_spaces-start.ensures.after c.in-Some.ensures.cases.0 w.if-first-eq-COLON.true
          w.split_word.ensures w.skip_spaces-text.ensures.after
          (not_empty _ (sym w.if-is_empty.ensures))
          (subst command_at w.text-is c.read_command.ensures.command)
      | else-first-eq-COLON w ↦
          plain_line _ _ _ _ _ _ _ (c.read_command.ensures.prefix ∙ ap optional_now w.prefix-is)
          (sym c.if-contains.ensures.value)
          c.skip_spaces-start.ensures.after c.in-Some.ensures.cases.0 w.if-first-eq-COLON.false
          (subst command_at w.text-is c.read_command.ensures.command)
    ]

pub returns-clause-only : goal.returns-clause-only
returns-clause-only c = λ read is. read_as_one _ _ read (returns-clause-given c) is

pub returns-then-contains-clause-as_function : goal.returns-then-contains-clause-as_function
returns-then-contains-clause-as_function c = is_read_so_alone _ _ (search rules)

pub returns-in_default-clause-as_function : goal.returns-in_default-clause-as_function
returns-in_default-clause-as_function c = is_read_so_alone _ _ (search rules)

pub returns-then-is_empty-clause-as_function : goal.returns-then-is_empty-clause-as_function
returns-then-is_empty-clause-as_function c = is_read_so_alone _ _ (search rules)

pub returns-clause-as_function : goal.returns-clause-as_function
returns-clause-as_function c = is_read_so_alone _ _ (returns-clause-given c)
