use Rattle.std.proofs.Common.{◌≡◌, ◌+◌, ◌<◌, ◌≤◌, ◌∙◌, ap, length, filter, arith}
use Rattle.std.specs.Prelude.{vec_len, vec_capacity}
use Rattle.irc_modes.specs.Modes.{adds_ban}
use Rattle.irc_modes.proofs.BanRoom.{none_counted}
use Rattle.irc_modes.proofs.bans.BanList.change.Goals as goal

pub returns-in_err-reserve-clause-none_added : goal.returns-in_err-reserve-clause-none_added
returns-in_err-reserve-clause-none_added c none =
    let masks = c.self.inside.masks in
    let counted : c.additions.result ≡ 0 =
    c.additions.ensures ∙ ap (λ bans. length (filter (adds_ban bans) c.args.changes.now))
    (c.deref.ensures.value ∙ c.self.view_is)
    ∙ none_counted (adds_ban c.args.self.now) c.args.changes.now none in
    let full : vec_capacity masks < vec_len masks + c.additions.result =
    c.in_err-reserve.ensures.full in
    let within : vec_len masks ≤ vec_capacity masks = masks.ok.1 in
    absurd (omega (arith, counted, full, within))
