use Rattle.std.proofs.Common.{drop, false, true, sym, ◌∙◌, ap}
use Rattle.std.specs.Option.{option_copied_mut}
use Rattle.slab.specs.Slab.{with_value}
use Rattle.irc_turns.specs.Numbered.{NumberedTalkers, talker_at}
use Rattle.irc_turns.proofs.FirstReported.{none_reported, reported, none_there, none_read}
use Rattle.irc_turns.proofs.FirstReported.{none_told, as_heard, as_told, as_read}
use Rattle.irc_turns.proofs.talkers.Talkers.report.Goals as goal

pub returns-in_err-number-clause-first : goal.returns-in_err-number-clause-first
returns-in_err-number-clause-first c = none_reported c.args.self.now _ c.args.round.now _
    (ap (λ (s : NumberedTalkers). s.queue) (sym c.self.view_is) ∙ c.in_err-number.ensures.numbers
    ∙ c.pop.ensures.rest
    ∙ ap (λ (s : NumberedTalkers). drop 1 s.queue) c.self.view_is)
    c.from_residual.ensures
    (ap (λ (s : NumberedTalkers). record s { queue = c.pop.new.self.numbers }) c.self.view_is)

pub returns-in_err-talker-clause-first : goal.returns-in_err-talker-clause-first
returns-in_err-talker-clause-first c =
    let held = c.hold.new.self in
    let number = c.in_ok-number.number in
    let none =
    ap (λ (s : NumberedTalkers). talker_at s number) (sym c.self-2.view_is)
    ∙ sym c.get_mut.ensures.value ∙ ap option_copied_mut c.in_err-talker.was in
    reported c.args.self.now _ held _ number c.pop.new.self.numbers c.args.round.now _ _
    (ap (λ (s : NumberedTalkers). s.queue) (sym c.self.view_is) ∙ c.in_ok-number.ensures.numbers)
    (ap (λ (s : NumberedTalkers). record s { queue = c.pop.new.self.numbers }) c.self.view_is)
    c.hold.ensures
    (c.from_residual-in_err-talker.ensures ∙ none_told held number none) (c.self-2.view_is
    ∙ none_there held number none) (none_read held number c.args.round.now none)

pub returns-then-not-is_asked-clause-first : goal.returns-then-not-is_asked-clause-first
returns-then-not-is_asked-clause-first c =
    let held = c.hold.new.self in
    let number = c.in_ok-number.number in
    let talker = c.in_ok-talker.talker.now in
    let there =
    ap (λ (s : NumberedTalkers). talker_at s number) (sym c.self-2.view_is)
    ∙ sym c.get_mut.ensures.value ∙ ap option_copied_mut c.in_ok-talker.was in
    let asked = sym c.is_asked.ensures ∙ c.if-not-is_asked.true in
    reported c.args.self.now _ held _ number c.pop.new.self.numbers c.args.round.now _ _
    (ap (λ (s : NumberedTalkers). s.queue) (sym c.self.view_is) ∙ c.in_ok-number.ensures.numbers)
    (ap (λ (s : NumberedTalkers). record s { queue = c.pop.new.self.numbers }) c.self.view_is)
    c.hold.ensures
    (as_told held number talker false there asked)
    (ap (λ (s : NumberedTalkers). record s { by_number = with_value s.by_number number talker })
    c.self-2.view_is
    ∙ as_heard held number talker false there asked)
    (as_read held number talker false c.args.round.now there asked)

pub returns-clause-first : goal.returns-clause-first
returns-clause-first c =
    let held = c.hold.new.self in
    let number = c.in_ok-number.number in
    let talker = c.in_ok-talker.talker.now in
    let there =
    ap (λ (s : NumberedTalkers). talker_at s number) (sym c.self-2.view_is)
    ∙ sym c.get_mut.ensures.value ∙ ap option_copied_mut c.in_ok-talker.was in
    let asked = sym c.is_asked.ensures ∙ c.if-not-is_asked.false in
    reported c.args.self.now _ held _ number c.pop.new.self.numbers c.args.round.now _ _
    (ap (λ (s : NumberedTalkers). s.queue) (sym c.self.view_is) ∙ c.in_ok-number.ensures.numbers)
    (ap (λ (s : NumberedTalkers). record s { queue = c.pop.new.self.numbers }) c.self.view_is)
    c.hold.ensures
    (as_told held number talker true there asked)
    (ap (λ (s : NumberedTalkers). record s {
      by_number =
          with_value s.by_number number (record talker { is_readable = false; was_held = false });
    }) c.self-2.view_is
    ∙ as_heard held number talker true there asked)
    (c.note_reader.ensures ∙ as_read held number talker true c.args.round.now there asked)
