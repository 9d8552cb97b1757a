use Rattle.std.proofs.Common.{◌∙◌, refl, subst}
use Rattle.irc_journal.specs.Saying.{AreTold}
use Rattle.irc_engine.proofs.engine.Engine.tell.Goals as goal

pub returns : goal.returns
returns g c = record {
  emptied = c.take-told.new.self;
  is_emptied = c.take-told.ensures.emptied;
  moment = c.moment.result;
  journal = c.tell_links.new.journal;
  between = g.E.Write.contents c.tell_links.new.errors;
  are_told = subst (λ told. AreTold c.moment.result told c.take-told.new.self
      c.tell_links.new.journal (g.E.Write.contents c.args.errors.now)
      (g.E.Write.contents c.tell_links.new.errors))
      (c.deref.ensures.value ∙ c.take-told.ensures.tidings) c.tell_links.ensures.told;
  notice = c.notice.result;
  notice_said = c.say_notice.ensures;
  wire = c.notice.new.self;
  keeps = λ calls was. c.notice.ensures calls (c.tell_links.ensures.keeps calls was);
  new_is = refl;
}
