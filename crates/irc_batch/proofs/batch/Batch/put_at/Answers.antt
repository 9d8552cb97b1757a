use Rattle.std.proofs.Common.{◌∙◌, ap, sym}
use Rattle.std.specs.Option.{option_map}
use Rattle.irc_batch.specs.Batches.{sent_of}
use Rattle.irc_batch.proofs.Following.{moved_on, never_none}
use Rattle.irc_batch.proofs.batch.Batch.put_at.Goals as goal

pub returns-in-Some-clause-ok : goal.returns-in-Some-clause-ok
returns-in-Some-clause-ok c =
    moved_on c.put_one.result c.put_one.new.self.outs c.args.self.now.outs c.args.more.now.outs
    c.args.place (sent_of c.in-Some.out)
    (sym c.get.ensures.there ∙ ap (option_map sent_of) c.in-Some.is)
    c.put_one.ensures.ok

pub returns-in-None-clause-ok : goal.returns-in-None-clause-ok
returns-in-None-clause-ok c =
    never_none c.args.more.now.outs c.args.place c.requires.there
    (sym (ap (option_map sent_of) c.in-None.is) ∙ c.get.ensures.there)
