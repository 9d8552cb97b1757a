use Rattle.std.proofs.Common.{◌∙◌, subst, OnOk}
use Rattle.std.specs.Io.KnownBytes.{Appends}
use Rattle.irc_script.specs.Sinks.{Wrote}
use Rattle.irc_endings.proofs.fault.tell_bad_script.Goals as goal

pub returns-clause-whole : goal.returns-clause-whole
returns-clause-whole g c =
    let held = g.E.Write.contents in
    subst (λ text. OnOk c.write_whole.result
    (Appends (held c.args.errors.now) (held c.write_whole.new.output) text))
    (c.as_slice.ensures.value ∙ c.bad_script-text.ensures)
    c.write_whole.ensures.whole

pub returns-clause-front : goal.returns-clause-front
returns-clause-front g c =
    let held = g.E.Write.contents in
    subst (λ text. Wrote (held c.args.errors.now) (held c.write_whole.new.output) text)
    (c.as_slice.ensures.value ∙ c.bad_script-text.ensures) c.write_whole.ensures.front
