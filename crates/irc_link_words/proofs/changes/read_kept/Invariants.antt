use Rattle.std.proofs.Common.{◌≡◌, ◌++◌, drop}
use Rattle.std.specs.List.{filter_map}
use Rattle.irc_modes.specs.ModeViews.{all_asked}
use Rattle.irc_link_words.specs.Words.{made}
use Rattle.irc_link_words.proofs.changes.read_kept.Given as goal

abbrev pub invariant-loop-item : goal.invariant-loop-item
invariant-loop-item l = l.changes.items ++ filter_map made
    (all_asked (drop l.item-index l.item-items)) ≡ filter_map made (all_asked l.item-items)
