use Rattle.std.proofs.Common.{ℕ, Some, sym, ◌∙◌, ap}
use Rattle.std.specs.FinMap.{empty}
use Rattle.irc_names.specs.Fold.{key}
use Rattle.irc_names.specs.Tables.{fold_cmp, alter}
use Rattle.irc_tables.specs.Lemmas.RowsAsTable.{ok_also}
use Rattle.irc_stage.specs.Loops.Listening.{Conns}
use Rattle.irc_stage.proofs.ListsKept.{put_first, put_sets, put_there}
use Rattle.irc_stage.proofs.listeners.Listeners.put.Goals as goal

pub returns-then-has_list : goal.returns-then-has_list
returns-then-has_list c =
    ok_also c.try_at.result
    (λ is. put_sets (key c.args.channel.now)
    (key c.args.nick.now) c.args.conn c.args.self.now.lists c.try_at.new.self
    (is ∙ put_there (key c.args.channel.now) (key c.args.nick.now) c.args.conn c.args.self.now.lists
    (sym c.has_list.ensures ∙ c.if-has_list.true)))
    c.try_at.ensures.ok

pub returns : goal.returns
returns c =
    ok_also c.insert-2.result
    (λ is. put_sets (key c.args.channel.now)
    (key c.args.nick.now) c.args.conn c.args.self.now.lists c.insert-2.new.self
    (is
    ∙ ap (λ (conns : Conns). alter (key c.args.channel.now) (λ _. Some conns) c.args.self.now.lists)
    (c.in_ok-insert.ensures.ok
    ∙ ap (alter (key c.as_bytes.result.now) (λ _. Some c.args.conn)) c.in_ok-conns.ensures
    ∙ ap (λ n. alter (key n) (λ _. Some c.args.conn) (empty {X = ℕ} {R = fold_cmp}))
    c.as_bytes.ensures.value)
    ∙ put_first (key c.args.channel.now) (key c.args.nick.now) c.args.conn c.args.self.now.lists
    (sym c.has_list.ensures ∙ c.if-has_list.false)))
    c.insert-2.ensures.ok
