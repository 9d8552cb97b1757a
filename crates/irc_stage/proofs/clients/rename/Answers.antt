use Rattle.std.proofs.Common.{sym, ◌∙◌, ap, Some}
use Rattle.std.specs.FinMap.{insert}
use Rattle.irc_names.specs.Fold.{key}
use Rattle.irc_names.specs.Tables.{alter}
use Rattle.irc_stage.specs.declared.clients.Client.TheVariants.{Registered}
use Rattle.irc_stage.specs.Loops.Parts.{clients_of, numbered}
use Rattle.irc_stage.proofs.Index.{as_moved, not_moved, nobody_renamed, one_renamed, rename_indexed}
use Rattle.irc_stage.specs.Lemmas.Outcomes.{on_ok}
use Rattle.irc_stage.proofs.clients.rename.Goals as goal

pub returns-in_default-clause-ok : goal.returns-in_default-clause-ok
returns-in_default-clause-ok c =
    nobody_renamed (clients_of c.args.clients.now) c.args.clients.now.by_nick c.requires.indexed
    c.args.old.now c.args.new.now (sym c.number_of.ensures ∙ c.in_default.is)

pub returns-clause-ok : goal.returns-clause-ok
returns-clause-ok c =
    on_ok c.put.result _ _
    (λ is. is
    ∙ ap (λ n. insert (clients_of c.args.clients.now) c.in-Some.conn (Registered n)) c.copy.ensures
    ∙ one_renamed (clients_of c.args.clients.now) c.args.clients.now.by_nick c.requires.indexed
    c.args.old.now c.args.new.now c.in-Some.conn
    (sym c.number_of.ensures ∙ c.in-Some.is))
    c.put.ensures

pub returns-clause-indexed : goal.returns-clause-indexed
returns-clause-indexed c =
    on_ok c.put.result _ _
    (λ is. rename_indexed (clients_of c.args.clients.now) c.args.clients.now.by_nick
    c.requires.indexed c.args.old.now c.args.new.now c.in-Some.conn
    (sym c.number_of.ensures ∙ c.in-Some.is) c.requires.free c.copy.result
    (numbered c.put.new.clients) c.insert.new.self
    c.copy.ensures is (c.in_ok-insert.ensures.ok
    ∙ ap (alter (key c.args.new.now) (λ _. Some c.in-Some.conn)) c.remove.ensures.after))
    c.put.ensures

pub returns-in_default-clause-by_nick : goal.returns-in_default-clause-by_nick
returns-in_default-clause-by_nick c =
    not_moved (key c.args.old.now) (key c.args.new.now) c.args.clients.now.by_nick
    (sym c.number_of.ensures ∙ c.in_default.is)

pub returns-clause-by_nick : goal.returns-clause-by_nick
returns-clause-by_nick c =
    on_ok c.put.result _ _
    (λ is. c.in_ok-insert.ensures.ok
    ∙ ap (alter (key c.args.new.now) (λ _. Some c.in-Some.conn)) c.remove.ensures.after
    ∙ as_moved (key c.args.old.now) (key c.args.new.now) c.in-Some.conn c.args.clients.now.by_nick
    (sym c.number_of.ensures ∙ c.in-Some.is))
    c.put.ensures
