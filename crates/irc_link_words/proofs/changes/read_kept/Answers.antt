use Rattle.std.proofs.Common.{◌∙◌, ap, arith, rules}
use Rattle.std.specs.List.{filter_map}
use Rattle.irc_modes.specs.ModeViews.{all_asked}
use Rattle.irc_link_words.specs.Words.{made}
use Rattle.irc_link_words.proofs.KeptWords.{kept_at, made_done, made_more, modes_kept}
use Rattle.irc_link_words.proofs.changes.read_kept.Goals as goal

pub push_made-requires : goal.push_made-requires
push_made-requires c = search (kept_at, modes_kept, rules)

pub loop-item-preserved : goal.loop-item-preserved
loop-item-preserved c =
    made_more c.loop-item.changes.items c.push_made.new.changes.items _
    c.as_slice-item-items.result.now c.loop-item.item-index _ c.loop-item-test.true
    c.in_ok-push_made.ensures c.loop-item.invariant

pub returns : goal.returns
returns c =
    made_done c.loop-item.changes.items _ c.as_slice-item-items.result.now c.loop-item.item-index
    (omega (arith, c.loop-item-test.false))
    c.loop-item.invariant
    ∙ ap (filter_map made) (ap all_asked c.as_slice-item-items.ensures.value
    ∙ c.in_ok-items.ensures)
