use Rattle.std.proofs.Common.{Some, None, ◌∙◌, ap, sym, if◌then◌else◌}
use Rattle.irc_names.specs.Spellings.{exactly_same}
use Rattle.irc_routes.specs.Known.{Known}
use Rattle.irc_burst_lines.specs.DeedLines.{kill_parts}
use Rattle.irc_merge.specs.Quits.{collision_text}
use Rattle.irc_stage.specs.EffectTold.{taken_out}
use Rattle.irc_stage.specs.Linked.{told_on_all}
use Rattle.irc_stage.specs.View.{View}
use Rattle.irc_server.specs.DeedTold.{deed_told, told_by}
use Rattle.irc_server.proofs.DeedsDone.{collision_is_whole, put_otherwise, told_last}
use Rattle.irc_server.proofs.telling.kill.Goals as goal
use Rattle.irc_server.proofs.telling.kill.Goals.{then-is_own, else-is_own}

pub returns : goal.returns
unfolding told_by deed_told
returns c =
    let killing = c.args.killing.now in
    let old = c.args.serving in
    let parts = kill_parts killing.server killing.nick in
    let done = taken_out killing.nick collision_text old in
    put_otherwise c.tell_all.result (told_on_all c.if-is_own.arrival parts done) _
    (ap (λ arrival. told_on_all arrival parts done)
    ((elim c.if-is_own.branch [
      | then-is_own w ↦ w.arrival-is
          ∙ sym (ap (λ b. if b then None else Some c.args.link) w.if-is_own.true)
      | else-is_own w ↦ w.arrival-is
          ∙ sym (ap (λ b. if b then None else Some c.args.link) w.if-is_own.false)
    ]) ∙ ap (λ b. if b then None else Some c.args.link)
    (c.eq-is_own.ensures
    ∙ ap (λ bytes. exactly_same bytes c.as_bytes-2.result.now) c.as_bytes.ensures.value
    ∙ ap (exactly_same killing.server) (c.as_bytes-2.ensures.value ∙ c.name.ensures
    ∙ ap (λ (known : Known). known.name)
    (c.routes.ensures ∙ ap (λ (view : View). view.routes) c.view.ensures)))))
    (told_last c.if-is_own.arrival _ parts _ done c.tell_all.result
    (c.in_ok-serving.ensures ∙ ap (λ words. taken_out killing.nick words old)
    (c.cut.ensures ∙ collision_is_whole)) c.kill_text-line.ensures c.tell_all.ensures)
