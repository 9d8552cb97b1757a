use Rattle.std.proofs.Common.{◌≡◌, ◌∙◌, [], ◌∷◌, ◌++◌, ap, sym, subst, map, arith}
use Rattle.std.specs.List.{AllByRecursion}
use Rattle.irc_line.specs.Bytes.{line_feed}
use Rattle.std.proofs.lemmas.Grind.{common_steps}
use Rattle.std.specs.Vec.Iter.{into_iter_items}
use Rattle.irc_script.specs.declared.fault.Trouble.TheVariants.{Memory}
use Rattle.irc_script.specs.Moves.{gives_line, lines_said}
use Rattle.irc_script.proofs.LinesSaid.{said_is_carried}
use Rattle.irc_script.proofs.Playing.{breaks_first, gives_now, moves_of_lines, playing_failed}
use Rattle.irc_script.proofs.Playing.{going_carried, going_first, going_on, going_breaks, going_end}
use Rattle.irc_script.proofs.Playing.{IsCarriedLine}
use Rattle.irc_script.proofs.script_run.ScriptRun.say.Goals as goal

pub returns-in_err-lines : goal.returns-in_err-lines
returns-in_err-lines g c =
    playing_failed _ Memory _ _ _ _ _ c.from_residual.ensures.1 (breaks_first Memory _ _ _)

pub loop-line-init : goal.loop-line-init
loop-line-init g c =
    going_first _ _ _ _
    (subst (λ ls. AllByRecursion IsCarriedLine ls) (sym c.into_iter-left.ensures.rest)
    (said_is_carried c.in_ok-lines.lines.items
    (c.args.rest.now ++ line_feed ∷ []) c.in_ok-lines.ensures))

pub give-requires : goal.give-requires
give-requires g c = going_carried _ _ (into_iter_items c.loop-line.left)
    (into_iter_items c.next.new.self) c.in-Some.line c.in-Some.ensures.items c.loop-line.invariant

pub loop-line-preserved : goal.loop-line-preserved
loop-line-preserved g c =
    going_on _ _ (into_iter_items c.loop-line.left)
    (into_iter_items c.next.new.self) c.in-Some.line c.in-Some.ensures.items c.loop-line.invariant
    c.in_ok-give.ensures

pub returns-in_err-give : goal.returns-in_err-give
returns-in_err-give g c =
    let moves : lines_said c.args.client c.args.rest.now ≡ map (gives_now c.args.client)
    (into_iter_items c.into_iter-left.result) =
    sym (ap (map (gives_now c.args.client)) c.into_iter-left.ensures.rest
    ∙ moves_of_lines c.args.client c.in_ok-lines.lines.items
    ∙ ap (map (gives_line c.args.client)) c.in_ok-lines.ensures) in
    playing_failed _ _ _ _ _ _ _ c.from_residual-in_err-give.ensures.1
    (going_breaks _ _ (into_iter_items c.loop-line.left)
    (into_iter_items c.next.new.self) c.in-Some.line _ c.in-Some.ensures.items moves
    c.loop-line.invariant c.in_err-give.ensures)

pub returns : goal.returns
returns g c =
    let moves : lines_said c.args.client c.args.rest.now ≡ map (gives_now c.args.client)
    (into_iter_items c.into_iter-left.result) =
    sym (ap (map (gives_now c.args.client)) c.into_iter-left.ensures.rest
    ∙ moves_of_lines c.args.client c.in_ok-lines.lines.items
    ∙ ap (map (gives_line c.args.client)) c.in_ok-lines.ensures) in
    going_end _ _ (into_iter_items c.loop-line.left) _
    (grind (arith, common_steps)) moves c.loop-line.invariant
