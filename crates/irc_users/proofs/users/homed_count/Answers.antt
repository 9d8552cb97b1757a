use Rattle.std.proofs.Common.{◌∙◌, List, ap, arith, filter, length, map}
use Rattle.irc_users.specs.declared.users.Head.{Head}
use Rattle.irc_users.specs.Rosters.{sitter}
use Rattle.irc_users.specs.UserTable.{is_home}
use Rattle.irc_users.proofs.Heads.{rest_full, counted}
use Rattle.irc_users.proofs.users.homed_count.Goals as goal

pub loop-head-init : goal.loop-head-init
loop-head-init c =
    let all = c.into_iter-head-iterator.ensures.into_iter_gives ∙ c.values-head-items.ensures in
    record {
      counted = omega (
        arith,
        ap (λ hs.
            length (filter (is_home c.args.home.now) (map (sitter c.args.seats.now) hs))) all,
      );
      fits = omega (arith, ap length all);
      sat = rest_full c.args.seats.now c.args.heads.now c.requires
          c.into_iter-head-iterator.result all;
      more = tt;
      ends = tt;
    }

pub overflow_add-count : goal.overflow_add-count
overflow_add-count c =
    omega (
      arith,
      c.loop-head.invariant.fits,
      ap (λ (hs : List Head). length hs)
          c.in-Some.ensures.steps,
      c.len.ensures,
      counted c.args.heads.now,
      c.len.type_inv,
    )
