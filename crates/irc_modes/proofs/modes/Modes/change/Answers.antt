use Rattle.std.proofs.Common.{◌≡◌, false, true, sym, ap, ◌∙◌}
use Rattle.irc_modes.specs.Loops.ManyChanges.{settings_after}
use Rattle.irc_modes.proofs.SettingsParted.{with_bans, modes_parted}
use Rattle.irc_modes.proofs.modes.Modes.change.Goals as goal

pub returns-in_err-change-clause-none_added : goal.returns-in_err-change-clause-none_added
returns-in_err-change-clause-none_added c none =
    let bad : false ≡ true = c.in_err-change.ensures.none_added none in cc

pub returns-clause-ok : goal.returns-clause-ok
returns-clause-ok c =
    c.change_settings.ensures
    ∙ ap (λ bans. settings_after c.args.changes.now (with_bans bans c.args.self.now))
    c.in_ok-change.ensures.ok
    ∙ sym (modes_parted c.args.changes.now c.args.self.now)
