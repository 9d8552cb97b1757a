-- Who begins no more lines each time than it may keeps to the pace.
use Rattle.std.proofs.Common.{◌≡◌, ℕ, ◌+◌, ◌-◌, ◌*◌, ◌/◌, ◌≤◌, min, max, List, [], ◌∷◌, Some, refl}
use Rattle.std.proofs.Common.{sym, ◌∙◌, ap, subst, arith, le_trans, le_refl}
use Rattle.irc_turns.specs.declared.allowance.Allowance.{Allowance}
use Rattle.irc_turns.specs.declared.allowance.LinesPace.{LinesPace}
use Rattle.irc_turns.specs.Allowances.{most_of, allowance_of, said, said_byte, counted, begun_in}
use Rattle.irc_turns.specs.Allowances.{thousandths_at, HasSaid, come, once_more}
use Rattle.irc_turns.specs.Allowances.{PaceIsKept}
use Rattle.irc_turns.proofs.LinesCounted.{lines_counted}

-- as of when it is does not change by what is said
same_moment : (bytes : List ℕ) (allowance : Allowance)
    → (said bytes allowance).counted_at ≡ allowance.counted_at
same_moment [] allowance = refl
same_moment (byte ∷ bytes) allowance = same_moment bytes (said_byte allowance byte)

-- no more is there at a moment than was left and was gained
no_more : (left gain word most : ℕ) → min (min (left + min gain word) word) most ≤ left + gain
no_more left gain word most = omega arith

stretches : (came before now rate : ℕ) → came ≤ before → before ≤ now
    → (before - came) * rate + (now - before) * rate ≡ (now - came) * rate
stretches came before now rate first second =
    let parts : (before - came) + (now - before) ≡ now - came = omega arith in
    omega (arith, ap (λ n. n * rate) parts)

one_more : (begun more all left there after earlier later time most : ℕ)
    → begun * 1000 + left ≤ most + earlier → there ≤ left + later → more ≤ there / 1000
    → after ≡ there - more * 1000 → earlier + later ≡ time → all ≡ begun + more
    → all * 1000 + after ≤ most + time
one_more begun more all left there after earlier later time most so gained few rest sum all_is =
    omega arith

at_first : (most time : ℕ) → 0 * 1000 + most ≤ most + time
at_first most time = omega arith

-- since when it is counted, and what was begun so far, with what is left
record IsKept (pace : LinesPace) (came begun : ℕ) (last : Allowance) : Type 0 where
  since : came ≤ last.counted_at
  sum :
      begun * 1000 + last.thousandths
      ≤ most_of pace + (last.counted_at - came) * max pace.per_second 1

kept : (pace : LinesPace) (came begun : ℕ) (last : Allowance)
    → HasSaid pace (allowance_of (Some pace) came) begun last → IsKept pace came begun last
kept pace came begun last come = record {
  since = le_refl came;
  sum = at_first (most_of pace) ((came - came) * max pace.per_second 1);
}
kept pace came all last (once_more begun _ now bytes before _ has says) =
    let so = kept pace came begun before has in
    let moment : last.counted_at ≡ now =
    ap (λ (a : Allowance). a.counted_at) says.left
    ∙ same_moment bytes (counted pace now before) in
    record {
      since = subst (λ n. came ≤ n) (sym moment) (le_trans so.since says.later);
      sum = subst (λ n. all * 1000 + last.thousandths
          ≤ most_of pace + (n - came) * max pace.per_second 1) (sym moment)
          (one_more begun (begun_in before.is_begun bytes) all before.thousandths
          (thousandths_at pace now before) last.thousandths
          ((before.counted_at - came) * max pace.per_second 1)
          ((now - before.counted_at) * max pace.per_second 1) _ (most_of pace) so.sum
          (no_more before.thousandths ((now - before.counted_at) * max pace.per_second 1)
          18446744073709551615 (most_of pace))
          says.within
          (ap (λ (a : Allowance). a.thousandths) says.left
          ∙ lines_counted bytes (counted pace now before))
          (stretches came before.counted_at now (max pace.per_second 1) so.since says.later)
          says.all_are);
    }

pub pace_kept : PaceIsKept
pace_kept pace came begun last has = no_left _ _ _ (kept pace came begun last has).sum
  where
    no_left : (all left most : ℕ) → all + left ≤ most → all ≤ most
    no_left all left most sum = omega arith
