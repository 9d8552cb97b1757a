-- Who is outside of a channel at the start is shown the same lines.
use Rattle.std.proofs.Common.{sym, ◌∙◌, ap, is_some}
use Rattle.irc_names.specs.Fold.{key}
use Rattle.irc_names.specs.Tables.{row}
use Rattle.irc_effects.specs.Laws.{AfterIsWellFormed}
use Rattle.irc_secrets.specs.Laws.{OutsidersAreShownAlike}
use Rattle.irc_secrets.proofs.ListsShown.{lists_show_alike}
use Rattle.irc_secrets.proofs.FromTheStart.{outside_from_the_start}

pub outsiders_are_shown_alike : AfterIsWellFormed → OutsidersAreShownAlike
outsiders_are_shown_alike keeps channel viewer one other effects others well other_well alike there
    out other_out outside other_outside left =
    lists_show_alike keeps channel viewer one other effects others well other_well alike
    (outside_from_the_start keeps viewer channel one effects well there out outside)
    (outside_from_the_start keeps viewer channel other others other_well
    (ap (λ users. is_some (row users (key viewer))) (sym alike.users) ∙ there) other_out
    other_outside) left
