use Rattle.std.proofs.Common.{Some, None, subst}
use Rattle.irc_entrance.specs.Ranges.{ReadsRange}
use Rattle.irc_entrance.proofs.RangesRead.{left_behind, left_here, left_nothing}
use Rattle.irc_entrance.proofs.address_range.read_ranges.Goals as goal

pub returns-in_default-read : goal.returns-in_default-read
returns-in_default-read c =
    left_here c.loop-text.rest.now c.args.texts.now c.in-Some.more.now c.in-Some.text.now
    c.loop-text.ranges.items c.in-Some.ensures.cases.0
    (subst (λ text. ReadsRange text None) c.as_str.ensures.value c.in_default-read.ensures)
    c.loop-text.invariant

pub loop-text-preserved : goal.loop-text-preserved
loop-text-preserved c =
    left_behind c.loop-text.rest.now c.args.texts.now c.in-Some.more.now c.in-Some.text.now
    c.in-Some-read.range c.loop-text.ranges.items c.add.new.ranges.items c.in-Some.ensures.cases.0
    (subst (λ text. ReadsRange text (Some c.in-Some-read.range)) c.as_str.ensures.value
    c.in-Some-read.ensures)
    c.in_ok-add.ensures c.loop-text.invariant

pub returns : goal.returns
returns c = left_nothing c.loop-text.rest.now c.args.texts.now c.loop-text.ranges.items
    c.in_default.ensures.cases c.loop-text.invariant
