use Rattle.irc_merge.proofs.ShownMerge.{shown_is_merge_shown}
use Rattle.irc_merge.proofs.laws.shown_is_merge_shown.Goals as goal

pub returns : goal.returns
returns c = shown_is_merge_shown
