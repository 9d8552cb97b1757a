use Rattle.std.proofs.Common.{◌∷◌, [], ◌++◌, ◌∙◌, sym, ap, arith}
use Rattle.std.proofs.lemmas.Bool.{eqb-true}
use Rattle.irc_numerics.specs.Limits.{max_whois_channels}
use Rattle.irc_acts.specs.Lemmas.CameLines.{one_came, one_came_later}
use Rattle.irc_queries.specs.Whois.{channels_line}
use Rattle.irc_queries.proofs.whois.add_place.Goals as goal
use Rattle.irc_queries.proofs.whois.add_place.Goals.{then-is_full+in_ok-put, else-is_full}

pub returns : goal.returns
returns c =
    let before = c.args.steps.now.items in
    let held = c.args.held.now.items in
    elim c.if-is_full.branch [
      | then-is_full+in_ok-put w ↦
          one_came_later max_whois_channels (channels_line c.args.user.now) (omega arith) before
          c.if-is_full.steps.items held w.take.new.self.items c.push.new.self.items c.args.place
          (eqb-true _ _ (sym c.is_full.ensures.value ∙ w.if-is_full.true))
          (ap (λ s. s.items) w.steps-is ∙ w.in_ok-put.ensures
          ∙ ap (λ a. before ++ a ∷ []) (w.channels_line.ensures
          ∙ ap (λ h. channels_line c.args.user.now h.items) w.take.ensures.value))
          w.take.ensures.after
          (c.push.ensures.items ∙ ap (λ h. h.items ++ c.args.place ∷ []) w.held-is)
      | else-is_full w ↦
          one_came max_whois_channels (channels_line c.args.user.now) before
          c.if-is_full.steps.items held c.push.new.self.items c.args.place
          (ap (λ s. s.items) w.steps-is)
          (c.push.ensures.items ∙ ap (λ h. h.items ++ c.args.place ∷ []) w.held-is)
    ]
