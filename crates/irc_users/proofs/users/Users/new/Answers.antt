use Rattle.std.proofs.Common.{◌∙◌, ap, sym, subst, None, Some, option_map, slice_index_or}
use Rattle.irc_users.specs.declared.users.Head.{Head}
use Rattle.irc_users.specs.Rosters.{boxed, users_by, numbers_by, IsSeating, sitting}
use Rattle.irc_users.proofs.Heads.{each-empty, none-seated}
use Rattle.irc_users.proofs.users.Users.new.Goals as goal

pub invariant_of-result : goal.invariant_of-result
invariant_of-result c =
    subst (λ hs. IsSeating (sitting c.new.result) hs) (sym c.new-2.ensures)
    (none-seated (sitting c.new.result)
    (λ n. ap (λ slots. option_map boxed (slice_index_or slots n None)) c.new.ensures.empty))

pub returns-clause-users : goal.returns-clause-users
returns-clause-users c = ap (users_by (sitting c.new.result)) c.new-2.ensures
    ∙ each-empty (λ (h : Head). sitting c.new.result h.number)

pub returns-clause-numbers : goal.returns-clause-numbers
returns-clause-numbers c = ap numbers_by c.new-2.ensures ∙ each-empty (λ (h : Head). Some h.number)
