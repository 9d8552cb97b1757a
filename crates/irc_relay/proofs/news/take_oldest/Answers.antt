use Rattle.std.proofs.Common.{◌≡◌, position, Some, None, refl, sym, subst, List}
use Rattle.irc_relay.specs.Loops.Taking.{is_between}
use Rattle.irc_relay.specs.declared.news.NewsSent.{NewsSent}
use Rattle.irc_relay.proofs.RelayingNews.{oldest_taken, none_between}
use Rattle.irc_relay.proofs.news.take_oldest.Goals as goal

pub returns-in_err-index-clause-none : goal.returns-in_err-index-clause-none
returns-in_err-index-clause-none c =
    rw c.from_residual.ensures (
      refl,
      none_between c.args.flying.now.items c.args.from c.args.to
          (subst (λ (sent : List NewsSent). position (is_between c.args.from c.args.to) sent
          ≡ None) c.deref.ensures.value (sym c.in_err-index.ensures)),
    )

pub returns-clause-some : goal.returns-clause-some
returns-clause-some c =
    rw c.remove-taken.ensures.items (oldest_taken c.args.flying.now.items c.args.from
    c.args.to c.in_ok-index.index c.remove-taken.result (subst (λ (sent : List NewsSent).
    position (is_between c.args.from c.args.to) sent ≡ Some c.in_ok-index.index)
    c.deref.ensures.value (sym c.in_ok-index.ensures)) c.remove-taken.ensures.value)
