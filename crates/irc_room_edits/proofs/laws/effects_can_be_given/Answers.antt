use Rattle.irc_room_edits.specs.AllNicks.{all_nicks}
use Rattle.irc_room_edits.specs.Lemmas.AllNicks.{all_nicks_are_listed}
use Rattle.irc_room_edits.specs.Lemmas.EffectsAreEdits.{effects_are_edits}
use Rattle.irc_room_edits.proofs.laws.effects_can_be_given.Goals as goal

pub returns : goal.returns
returns c cut room effect well within possible keeps =
    let lead = effects_are_edits all_nicks all_nicks_are_listed room effect well within possible
    keeps in
    record { may = lead.may; same = lead.same }
