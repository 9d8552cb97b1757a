use Rattle.std.proofs.Common.{◌∷◌, [], ◌++◌, ◌∙◌, sym, ap, arith}
use Rattle.std.proofs.lemmas.Bool.{eqb-true}
use Rattle.irc_numerics.specs.Limits.{max_names}
use Rattle.irc_acts.specs.Names.{name_line}
use Rattle.irc_acts.specs.Lemmas.CameLines.{one_came, one_came_later}
use Rattle.irc_acts.proofs.name_lines.add_name.Goals as goal
use Rattle.irc_acts.proofs.name_lines.add_name.Goals.{then-is_full+in_ok-act+in_ok-put}
use Rattle.irc_acts.proofs.name_lines.add_name.Goals.{else-is_full}

pub returns : goal.returns
returns c =
    let before = c.args.steps.now.items in
    let held = c.args.held.now.items in
    elim c.if-is_full.branch [
      | then-is_full+in_ok-act+in_ok-put w ↦
          one_came_later max_names (name_line c.args.channel.now) (omega arith) before
          c.if-is_full.steps.items held w.take.new.self.items c.push.new.self.items c.args.name
          (eqb-true _ _ (sym c.is_full.ensures.value ∙ w.if-is_full.true))
          (ap (λ s. s.items) w.steps-is ∙ w.in_ok-put.ensures
          ∙ ap (λ a. before ++ a ∷ []) (w.in_ok-act.ensures
          ∙ ap (λ h. name_line c.args.channel.now h.items) w.take.ensures.value))
          w.take.ensures.after
          (c.push.ensures.items ∙ ap (λ h. h.items ++ c.args.name ∷ []) w.held-is)
      | else-is_full w ↦
          one_came max_names (name_line c.args.channel.now) before c.if-is_full.steps.items held
          c.push.new.self.items c.args.name (ap (λ s. s.items) w.steps-is)
          (c.push.ensures.items ∙ ap (λ h. h.items ++ c.args.name ∷ []) w.held-is)
    ]
