use Rattle.std.specs.Prelude.{IfOk}
use Rattle.std.proofs.Common.{◌≡◌, ◌∙◌, ap, map, sym, subst}
use Rattle.irc_room.proofs.AudienceLaw.{idle_has_no_viewers, no_line_no_viewers, viewers_are_seen}
use Rattle.irc_room.proofs.viewer_names.audience.Goals as goal

pub returns-then-is_idle : goal.returns-then-is_idle
returns-then-is_idle c =
    let room = c.args.tables.now in
    let effect = c.args.effect.now in
    c.new.ensures.items ∙ elim c.then-is_idle.branch [
      | goal.then-is_idle-via-then-is_idle w ↦ idle_has_no_viewers room effect
          (sym (c.is_idle.ensures room c.named-named.ensures) ∙ w.if-is_idle.true)
      | goal.then-is_idle-via-else-is_idle+then-not-has_line w ↦ no_line_no_viewers room effect
          (λ viewer. w.has_line.ensures room c.named-named.ensures viewer ∙ w.if-not-has_line.true)
    ]

pub returns : goal.returns
returns c =
    subst (λ all. IfOk c.nicknames.result (λ viewers. viewers.items ≡ all))
    (ap (λ users. map (λ user. user.now.nick) users) c.as_slice.ensures.value
    ∙ viewers_are_seen c.args.tables.now c.args.effect.now
    (sym (c.is_idle.ensures c.args.tables.now c.named-named.ensures) ∙ c.if-is_idle.false)
    (λ viewer. c.has_line.ensures c.args.tables.now c.named-named.ensures viewer
    ∙ c.if-not-has_line.false) _ c.in_ok-users.ensures) c.nicknames.ensures
