use Rattle.std.proofs.Common.{Some, ◌∙◌, ap}
use Rattle.irc_line.specs.Messages.{text}
use Rattle.irc_burst_lines.specs.DeedLines.{mode_parts}
use Rattle.irc_merge.specs.Deeds.{changes_made, raised_in}
use Rattle.irc_room.specs.Room.{Room}
use Rattle.irc_stage.specs.EffectTold.{all_changed}
use Rattle.irc_stage.specs.View.{View}
use Rattle.irc_server.specs.DeedTold.{deed_told}
use Rattle.irc_server.proofs.DeedsDone.{told_last}
use Rattle.irc_server.proofs.telling.set.Goals as goal

pub returns : goal.returns
unfolding deed_told
returns c =
    let setting = c.args.setting.now in
    let old = c.args.serving in
    told_last (Some c.args.link) _ (mode_parts setting.server setting.channel setting.changes) _ _
    c.tell_all.result
    (c.in_ok-make.ensures
    ∙ ap (λ changes. all_changed (changes_made setting.channel changes) old)
    (c.in_ok-raised.ensures
    ∙ ap (λ (room : Room). raised_in room setting.channel c.as_slice-changes.result.now)
    (c.room.ensures ∙ ap (λ (view : View). view.room) c.view-view.ensures)
    ∙ ap (raised_in old.state.room setting.channel) c.as_slice-changes.ensures))
    (c.mode_text-line.ensures ∙ ap (λ doer. text (mode_parts doer setting.channel
    c.as_slice-changes.result.now)) c.as_bytes.ensures.value
    ∙ ap (λ changes. text (mode_parts setting.server setting.channel changes))
    c.as_slice-changes.ensures)
    c.tell_all.ensures
