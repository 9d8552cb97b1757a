use Rattle.std.proofs.Common.{◌≡◌, ◌∙◌, ◌++◌, Some, ap, drop, refl, subst, sym}
use Rattle.std.specs.Option.{option_map}
use Rattle.irc_batch.specs.Batches.{line_to, sent_of}
use Rattle.irc_layer.specs.Ends.{end_at}
use Rattle.irc_layer.specs.Putting.{ends_behind, one_put}
use Rattle.irc_layer.proofs.Following.{ends_moved_on, never_none, outs_moved_on}
use Rattle.irc_layer.proofs.putting.put_at.Goals as goal

pub returns-in_ok-put_to-in-Some-Line-clause-outs :
    goal.returns-in_ok-put_to-in-Some-Line-clause-outs
returns-in_ok-put_to-in-Some-Line-clause-outs c =
    outs_moved_on c.args.cause c.args.at.held.now.outs c.args.at.place
    (line_to c.in-Some-Line.conn c.in-Some-Line.line.now)
    (end_at c.args.ends.now) (end_at c.args.ends.now)
    (sym c.get.ensures.there ∙ ap (option_map sent_of) c.in-Some-Line.is
    ∙ ap (λ out. Some (sent_of out)) c.in-Some-Line.field-0-is) refl
    c.put_to.new.out.outs c.args.out.now.outs c.in_ok-put_to-in-Some-Line.ensures.outs

pub returns-in_ok-put_to-in-Some-Line-clause-ends :
    goal.returns-in_ok-put_to-in-Some-Line-clause-ends
returns-in_ok-put_to-in-Some-Line-clause-ends c =
    ends_moved_on c.args.cause c.args.at.held.now.outs c.args.at.place
    (line_to c.in-Some-Line.conn c.in-Some-Line.line.now)
    (end_at c.args.ends.now) (end_at c.args.ends.now)
    (sym c.get.ensures.there ∙ ap (option_map sent_of) c.in-Some-Line.is
    ∙ ap (λ out. Some (sent_of out)) c.in-Some-Line.field-0-is) refl

pub returns-in_ok-put_one-in-Some : goal.returns-in_ok-put_one-in-Some
returns-in_ok-put_one-in-Some c =
    let ends_are = subst (λ n. end_at c.put_one.new.ends
    ≡ ends_behind c.args.cause (sent_of c.in-Some.sent) (drop n c.args.at.held.now.outs)
    (end_at c.args.ends.now)) c.place_behind-behind.ensures c.in_ok-put_one-in-Some.ensures.ends in
    let there = sym c.get.ensures.there ∙ ap (option_map sent_of) c.in-Some.is in
    record {
      outs = outs_moved_on c.args.cause c.args.at.held.now.outs c.args.at.place
          (sent_of c.in-Some.sent) (end_at c.args.ends.now) (end_at c.put_one.new.ends) there
          ends_are c.put_one.new.out.outs c.args.out.now.outs
          (subst (λ n. c.put_one.new.out.outs ≡ c.args.out.now.outs
          ++ one_put c.args.cause (sent_of c.in-Some.sent) (drop n c.args.at.held.now.outs)
          (end_at c.args.ends.now)) c.place_behind-behind.ensures
          c.in_ok-put_one-in-Some.ensures.outs);
      ends = ends_moved_on c.args.cause c.args.at.held.now.outs c.args.at.place
          (sent_of c.in-Some.sent) (end_at c.args.ends.now) (end_at c.put_one.new.ends) there
          ends_are;
      hand = tt;
    }

pub returns-in-None-clause-outs : goal.returns-in-None-clause-outs
returns-in-None-clause-outs c =
    never_none c.args.at.held.now.outs c.args.at.place c.requires.there
    (sym (ap (option_map sent_of) c.in-None.is) ∙ c.get.ensures.there)

pub returns-in-None-clause-ends : goal.returns-in-None-clause-ends
returns-in-None-clause-ends c =
    never_none c.args.at.held.now.outs c.args.at.place c.requires.there
    (sym (ap (option_map sent_of) c.in-None.is) ∙ c.get.ensures.there)
