use Rattle.std.proofs.Common.{◌≡◌, Some, None, ◌∙◌, ap}
use Rattle.std.specs.List.{position}
use Rattle.irc_names.specs.Fold.{same}
use Rattle.irc_modes.specs.Bans.{rises}
use Rattle.irc_modes.specs.Lemmas.BanPlaces.{taken_out, none_out}
use Rattle.irc_modes.proofs.ban_changing.take.Goals as goal

pub returns-in-Some-clause-value : goal.returns-in-Some-clause-value
returns-in-Some-clause-value c =
    let at : position (same c.args.mask.now) c.args.bans.now.items ≡ Some c.in-Some.place = cc in
    c.remove.ensures.items ∙ (taken_out c.args.mask.now c.args.bans.now.items c.in-Some.place
    c.requires.ordered at).rest

pub returns-in-Some-clause-ordered : goal.returns-in-Some-clause-ordered
returns-in-Some-clause-ordered c =
    let at : position (same c.args.mask.now) c.args.bans.now.items ≡ Some c.in-Some.place = cc in
    ap rises c.remove.ensures.items ∙ (taken_out c.args.mask.now c.args.bans.now.items
    c.in-Some.place c.requires.ordered at).in_order

pub returns-in_default-clause-value : goal.returns-in_default-clause-value
returns-in_default-clause-value c =
    let at : position (same c.args.mask.now) c.args.bans.now.items ≡ None = cc in
    none_out c.args.mask.now c.args.bans.now.items at
