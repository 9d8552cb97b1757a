use Rattle.std.proofs.Common.{◌++◌, ap, map, subst, sym, ◌∙◌}
use Rattle.std.specs.List.{flat_map}
use Rattle.irc_room.specs.Loops.LineViews.{line_if}
use Rattle.irc_room.specs.Loops.LineViews.{ShowsAt}
use Rattle.irc_room.specs.Loops.Viewing.{own_nick, viewers}
use Rattle.irc_room.specs.ToldLaws.{all_is_told, no_line_tells_nothing, told_each}
use Rattle.irc_room.proofs.showing.show.Goals as goal

pub returns-in_ok-add_viewers : goal.returns-in_ok-add_viewers
returns-in_ok-add_viewers c =
    let own = c.args.own.now in
    let room = c.args.tables.now in
    let effect = c.args.effect.now in
    let line = c.effect_line.new.line in
    let shows = subst (λ there. ShowsAt room effect own (line_if there line)) c.if-effect_line.true
    (c.effect_line.ensures c.requires.named) in
    ap (map (λ viewer. (viewer, line))) (c.in_ok-add_viewers.ensures
    ∙ ap (λ l. l ++ flat_map (own_nick own) (viewers room effect)) c.requires.none)
    ∙ told_each own line.items (viewers room effect)
    ∙ sym
    (all_is_told own room effect _ shows c.know_well_formed.ensures.users_named c.requires.busy)

pub returns-else-effect_line : goal.returns-else-effect_line
returns-else-effect_line c =
    let own = c.args.own.now in
    let room = c.args.tables.now in
    let effect = c.args.effect.now in
    let line = c.effect_line.new.line in
    let shows = subst (λ there. ShowsAt room effect own (line_if there line)) c.if-effect_line.false
    (c.effect_line.ensures c.requires.named) in
    ap (map (λ viewer. (viewer, line))) c.requires.none ∙ sym (no_line_tells_nothing own room effect
    shows c.know_well_formed.ensures.users_named c.requires.busy)
