use Rattle.std.proofs.Common.{◌∙◌, Some, ap, subst, sym}
use Rattle.std.specs.FinMap.{get}
use Rattle.std.specs.Option.{option_copied}
use Rattle.irc_line.specs.Reading.{read_of}
use Rattle.irc_stage.specs.View.{View}
use Rattle.irc_server.specs.Loops.Hearing.{heard_of}
use Rattle.irc_server.specs.Loops.Serving.{IsHearable}
use Rattle.irc_server.specs.Lemmas.HeardCanBeDone.{hearable}
use Rattle.irc_server.proofs.serving.hear_line.Goals as goal

pub follow-requires : goal.follow-requires
follow-requires c =
    let what = heard_of c.in_ok-heard.heard in
    let end = c.in-Some.end.now in
    record {
      hearable =
          subst (λ o. IsHearable o what)
          (sym (ap option_copied c.in-Some.is) ∙ c.end.ensures
          ∙ ap (λ (v : View). get v.ends c.args.link) c.view-view.ensures)
          (subst (IsHearable (Some end)) (sym c.in_ok-heard.ensures)
          (hearable c.view-view.result c.args.link end (read_of c.args.line.now)));
    }
