use Rattle.std.proofs.Common.{ℕ, List, ◌∙◌, ap, map, sym}
use Rattle.std.proofs.lemmas.List.{drop_all}
use Rattle.std.proofs.lemmas.Simd.{map-map}
use Rattle.irc_users.specs.declared.user.User.{User}
use Rattle.irc_merge.specs.Quits.{users_at}
use Rattle.irc_room.specs.Room.{Room}
use Rattle.irc_room.specs.effect.Effect.TheVariants.{Quit}
use Rattle.irc_stage.specs.EffectTold.{Served, all_changed}
use Rattle.irc_stage.specs.View.{View}
use Rattle.irc_server.specs.Loops.Telling.{quits_by_nick}
use Rattle.irc_server.proofs.quitting.quit_all.Goals as goal

pub returns : goal.returns
returns c =
    let loss = c.args.loss.now in
    let old = c.args.serving in
    let quitting : List (List ℕ) → Served =
    λ nicks. all_changed (quits_by_nick loss.text nicks) old in
    sym (ap (λ nicks. all_changed (quits_by_nick loss.text nicks) c.loop-nick.serving)
    (drop_all c.loop-nick.nick-index c.deref-nick-items.result.now c.loop-nick-test.false))
    ∙ c.loop-nick.invariant
    ∙ ap quitting (c.deref-nick-items.ensures.value ∙ c.in_ok-nicks.ensures)
    ∙ ap (λ (room : Room).
    quitting (map (λ (user : User). user.nick) (users_at loss.name room)))
    (c.room.ensures ∙ ap (λ (view : View). view.room) c.view-view.ensures)
    ∙ ap (λ effects. all_changed effects old)
    (map-map (λ nick. Quit nick loss.text) (λ (user : User). user.nick)
    (users_at loss.name old.state.room))
