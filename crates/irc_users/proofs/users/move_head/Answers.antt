use Rattle.std.proofs.Common.{◌∙◌, ap, sym, Some, None}
use Rattle.std.proofs.lemmas.Bool.{not-false, not-true}
use Rattle.irc_names.specs.Fold.{key, same}
use Rattle.irc_names.specs.Tables.{alter}
use Rattle.irc_users.proofs.SeatMoves.{put_first, put_over}
use Rattle.irc_users.proofs.users.move_head.Goals as goal

pub returns-then-ne-clause-ok : goal.returns-then-ne-clause-ok
returns-then-ne-clause-ok c =
    c.remove.ensures.after
    ∙ ap (λ n. alter (key n) (λ _. None) c.insert.new.self) c.as_bytes-then-ne.ensures.value
    ∙ ap (alter (key c.args.nick.now) (λ _. None))
    (c.in_ok-insert.ensures.ok ∙ ap (λ n. alter (key n) (λ _. Some c.args.head) c.args.heads.now)
    (c.as_bytes.ensures.value ∙ c.copy-new.ensures))
    ∙ put_first c.args.heads.now c.args.nick.now c.args.head.nick c.args.head
    (ap (same c.args.nick.now) (sym c.copy-new.ensures)
    ∙ not-true _ (sym c.ne.ensures ∙ c.if-ne.true))

pub returns-else-ne-clause-ok : goal.returns-else-ne-clause-ok
returns-else-ne-clause-ok c =
    c.in_ok-insert.ensures.ok
    ∙ ap (λ n. alter (key n) (λ _. Some c.args.head) c.args.heads.now)
    (c.as_bytes.ensures.value ∙ c.copy-new.ensures)
    ∙ put_over c.args.heads.now c.args.nick.now c.args.head.nick c.args.head
    (ap (same c.args.nick.now) (sym c.copy-new.ensures)
    ∙ not-false _ (sym c.ne.ensures ∙ c.if-ne.false))
