use Rattle.std.proofs.Common.{◌≡◌, true, is_some, sym, ◌∙◌, ap}
use Rattle.irc_names.specs.Fold.{key}
use Rattle.irc_names.specs.Tables.{row}
use Rattle.irc_room.specs.Effects.{has_user}
use Rattle.irc_room.specs.effect.Effect.TheVariants.{Quit}
use Rattle.irc_stage.specs.Lemmas.Counting.{quit_possible}
use Rattle.irc_stage.specs.Lemmas.Matching.{fit_by}
use Rattle.irc_stage.specs.Loops.Parts.{machine_at}
use Rattle.irc_stage.proofs.EndedClients.{some_there}
use Rattle.irc_stage.proofs.parts.ServerParts.quit.Goals as goal

pub change-requires-clause-fit : goal.change-requires-clause-fit
change-requires-clause-fit c =
    let before = c.before.before.before.before.before.before in
    let start = before.before.before.before.before.before.args.self.now in
    let room = start.room.room in
    let there : has_user room c.copy.result ≡ true =
    ap (λ n. is_some (row room.users (key n))) (c.copy.ensures ∙ sym c.as_bytes.ensures.value)
    ∙ some_there c.user.result
    (row room.users (key c.as_bytes.result.now)) c.user.ensures c.if-is_none.ensures in
    fit_by (machine_at start) (Quit c.copy.result c.copy-2.result) c.requires.matched
    (quit_possible room c.copy.result c.copy-2.result there)
