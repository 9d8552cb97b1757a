use Rattle.std.proofs.Common.{◌∷◌, ◌++◌, ◌∙◌, ap}
use Rattle.irc_line.specs.Bytes.{cut, space}
use Rattle.irc_numerics.specs.Replies.{mark_text, marked_nick}
use Rattle.irc_numerics.specs.Lemmas.Cutting.{cut-nil}
use Rattle.irc_numerics.specs.Lemmas.Entries.{entry_goes_on}
use Rattle.irc_numerics.proofs.texts.names_text.Goals as goal

pub loop-i-init : goal.loop-i-init
loop-i-init c = c.new-text.ensures ∙ cut-nil

pub loop-i-preserved : goal.loop-i-preserved
loop-i-preserved c =
    let text = c.loop-i.text.items in
    let mark = mark_text c.index-names-i.result.mark in
    let name = c.as_bytes.ensures.value in
    entry_goes_on marked_nick c.args.names.now c.loop-i.i c.index-names-i.result _ _
    c.loop-i-test.true c.index-names-i.is c.loop-i.invariant
    (λ first. c.push_entry.ensures.first first ∙ ap (λ n. cut (text ++ (mark ++ n))) name)
    (λ later. c.push_entry.ensures.later later ∙ ap (λ n. cut (text ++ (space ∷ (mark ++ n)))) name)
