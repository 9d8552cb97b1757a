-- Bytes that come in turn until nothing is on its way.
use Rattle.std.proofs.Common.{◌≡◌, ℕ, true, zero, suc, ◌+◌, ◌<◌, ◌≤◌, min, List, Option, Some, None}
use Rattle.std.proofs.Common.{option_map, refl, sym, subst, ◌∙◌, ap, arith, lt-suc_self, le_refl}
use Rattle.std.proofs.Common.{le_of_eq}
use Rattle.irc_items.specs.Kept.{TurnLeavesFewer}
use Rattle.irc_items.specs.Sound.{most_now}
use Rattle.irc_network.specs.ByteNetwork.{ByteNetwork, progress_in_lines}
use Rattle.irc_network.specs.ByteNetwork.{net_in_lines, is_byte_rest}
use Rattle.irc_network.specs.Turns.{ComesToLine, GoesToLine, TurnsGo, lines_in_turn, none_yet}
use Rattle.irc_network.specs.Turns.{turn_first, turn_in, turn_taken}
use Rattle.irc_network.specs.Whole.{ComesToSome, EachComesToLine, NoByteRests}
use Rattle.irc_net.specs.Calls.{NetView, Settles, standing}
use Rattle.irc_net.specs.Running.{SettlesOnce}
use Rattle.irc_net.specs.Loops.Settling.{GoesCounted, SettlesAt}
use Rattle.irc_net.specs.OneRoom.{IsKeptSound}
use Rattle.irc_net.proofs.StaysOneRoom.{AreTurning, IsTurnOf, next_line, nothing, turn_is}
use Rattle.irc_net.proofs.StaysOneRoom.{turns_kept}
use Rattle.irc_network.specs.Network.{Progress, Receipt, begun, lines_left, max_count, next_in_turn}
use Rattle.irc_pipes.specs.Pipes.{Direction, first_direction}

-- ---- turns behind others

none_first : (n : ℕ) → n ≡ 0 + n
none_first n = omega arith

pub turns_both : {one other : ℕ} {a b c : Progress ByteNetwork} → TurnsGo one a b
    → TurnsGo other b c → TurnsGo (one + other) a c
turns_both {other = other} {a = a} {c = c} none_yet more =
    subst (λ n. TurnsGo n a c) (none_first other) more
turns_both {one = one} {other = other} {a = a} {c = c}
    (turn_first {count = count} turn all_is rest) more =
    turn_first turn (behind one (lines_in_turn a.state) count other all_is) (turns_both rest more)
  where
    behind : (x y n m : ℕ) → x ≡ y + n → x + m ≡ y + (n + m)
    behind x y n m is = omega (arith, is)

pub one_turn : (lines : ℕ) (old new : Progress ByteNetwork) → turn_taken old ≡ Some new
    → lines ≡ lines_in_turn old.state → TurnsGo lines old new
one_turn lines old new turn is = turn_first turn (is ∙ alone (lines_in_turn old.state)) none_yet
  where
    alone : (n : ℕ) → n ≡ n + 0
    alone n = omega arith

pub to_line : (lines : ℕ) (old new : Progress ByteNetwork) → GoesToLine lines old new
    → TurnsGo lines old new
to_line lines old new goes =
    subst (λ n. TurnsGo n old new) (sym (none_first lines))
    (turns_both goes.goes (one_turn lines goes.between new goes.turn goes.lines_are))

-- ---- as the code counts them

pub none_counted : (progress : Progress ByteNetwork) → GoesCounted 0 progress progress
none_counted progress = record { count = 0; goes = none_yet; counts = omega arith }

pub lines_counted : {first : Progress ByteNetwork} (old new : Progress ByteNetwork)
    (counted lines more : ℕ) → GoesCounted counted first old → GoesToLine lines old new
    → more ≡ min (counted + lines) max_count → GoesCounted more first new
lines_counted old new counted lines more turns goes is = record {
  count = turns.count + lines;
  goes = turns_both turns.goes (to_line lines old new goes);
  counts = added turns.count counted lines more max_count turns.counts is;
}
  where
    added : (count counted lines more most : ℕ) → counted ≡ min count most
        → more ≡ min (counted + lines) most → more ≡ min (count + lines) most
    added count counted lines more most before one = omega (arith, before, one)

-- ---- no byte is left

no_direction : (progress : Progress ByteNetwork) → turn_taken progress ≡ None
    → first_direction progress.state.pipes ≡ None
no_direction progress none = by (first_direction progress.state.pipes) none
  where
    by : (o : Option Direction) → option_map (turn_in progress) o ≡ None → o ≡ None
    by None is = refl
    by (Some d) is = cc is

pub rests : NoByteRests → (progress : Progress ByteNetwork) → IsKeptSound progress.state
    → turn_taken progress ≡ None → is_byte_rest progress.state ≡ true
rests no_byte progress kept none = no_byte progress.state kept.whole (no_direction progress none)

-- ---- each line leaves fewer

none_then : (n m : ℕ) → 0 ≡ n + m → (n ≡ 0) × (m ≡ 0)
none_then n m is = (omega (arith, is), omega (arith, is))

module _ (laws : AreTurning) where
  -- turns that complete nothing change nothing where links carry lines
  pub same_lines : {count : ℕ} {old new : Progress ByteNetwork} → TurnsGo count old new → count ≡ 0
      → IsKeptSound old.state → progress_in_lines new ≡ progress_in_lines old
  same_lines none_yet is kept = refl
  same_lines {old = old} {new = new}
      (turn_first {count = left} {between = between} turn all_is rest) is kept =
      let none = none_then (lines_in_turn old.state) left (sym is ∙ all_is) in
      same_lines rest none.1
      (turns_kept laws (one_turn (lines_in_turn old.state) old between turn refl) kept).kept
      ∙ by (turn_is laws old between kept turn) none.0
    where
      by : IsTurnOf old between → lines_in_turn old.state ≡ 0
          → progress_in_lines between ≡ progress_in_lines old
      by (nothing none same) zero_is = same
      by (next_line one next) zero_is = cc (sym one ∙ zero_is)

  pub leaves_fewer : TurnLeavesFewer → (most lines : ℕ) (old new : Progress ByteNetwork)
      → IsKeptSound old.state → most_now (net_in_lines old.state) ≤ most → GoesToLine lines old new
      → lines_left most (progress_in_lines new) < lines_left most (progress_in_lines old)
  leaves_fewer fewer most lines old new kept few goes =
      by (turn_is laws goes.between new (turns_kept laws goes.goes kept).kept goes.turn)
    where
      never : (n : ℕ) → n ≡ 0 → 0 < n → ⊥
      never n is some = omega (arith, is, some)

      by : IsTurnOf goes.between new
          → lines_left most (progress_in_lines new) < lines_left most (progress_in_lines old)
      by (nothing none alike) = absurd (never lines (goes.lines_are ∙ none) goes.some)
      by (next_line one next) =
          let same = same_lines goes.goes refl kept in
          fewer most (progress_in_lines old) (progress_in_lines new) kept.sound few
          (sym (ap next_in_turn same) ∙ next)

  pub kept_settled : (net last : ByteNetwork) (counted : ℕ) (receipts : List Receipt)
      → IsKeptSound net → Settles net counted receipts (standing last) → IsKeptSound last
  kept_settled net last counted receipts kept settles =
      subst IsKeptSound (sym (ap (λ (v : NetView). v.network) settles.after))
      (turns_kept laws settles.goes kept).kept

  -- ---- as the code counts them

  pub counted_kept : {first : Progress ByteNetwork} (now : Progress ByteNetwork) (counted : ℕ)
      → IsKeptSound first.state → GoesCounted counted first now → IsKeptSound now.state
  counted_kept now counted kept turns = (turns_kept laws turns.goes kept).kept

  pub counted_fewer : TurnLeavesFewer → {first : Progress ByteNetwork}
      (old new : Progress ByteNetwork)
      (counted lines : ℕ) → IsKeptSound first.state → GoesCounted counted first old
      → GoesToLine lines old new → lines_left (most_now (net_in_lines first.state))
      (progress_in_lines new) < lines_left (most_now (net_in_lines first.state))
      (progress_in_lines old)
  counted_fewer fewer {first = first} old new counted lines kept turns goes =
      let now = turns_kept laws turns.goes kept in
      leaves_fewer fewer (most_now (net_in_lines first.state)) lines old new now.kept
      (le_of_eq now.keeps.most) goes

  -- none is left
  pub settles_at : NoByteRests → {first : Progress ByteNetwork} (old new : Progress ByteNetwork)
      (counted : ℕ) → IsKeptSound first.state → GoesCounted counted first old
      → ComesToLine None old new → SettlesAt counted first new
  settles_at no_byte {first = first} old new counted kept turns so = record {
    turns = record {
      count = turns.count + 0;
      goes = turns_both turns.goes so.0;
      counts = turns.counts ∙ ap (λ n. min n max_count) (alone turns.count);
    };
    rest = rests no_byte new (turns_kept laws so.0 (counted_kept old counted kept turns)).kept so.1;
  }
    where
      alone : (n : ℕ) → n ≡ n + 0
      alone n = omega arith

  -- ---- some end

  record Settling (progress : Progress ByteNetwork) : Type 0 where
    count : ℕ
    last : Progress ByteNetwork
    goes : TurnsGo count progress last
    rest : is_byte_rest last.state ≡ true

  settling : TurnLeavesFewer → EachComesToLine → NoByteRests → (fuel most : ℕ)
      (progress : Progress ByteNetwork) → IsKeptSound progress.state
      → most_now (net_in_lines progress.state)
      ≤ most → lines_left most (progress_in_lines progress) < fuel → Settling progress
  settling fewer comes no_byte zero most progress kept few less =
      absurd (nothing_less (lines_left most (progress_in_lines progress)) less)
    where
      nothing_less : (n : ℕ) → n < 0 → ⊥
      nothing_less n less = omega (arith, less)
  settling fewer comes no_byte (suc fuel) most progress kept few less =
      by (comes progress kept.whole.tidy) (λ next. settling fewer comes no_byte fuel most next)
    where
      further : (a b n : ℕ) → a < b → b < suc n → a < n
      further a b n one other = omega (arith, one, other)

      at : (lines : Option ℕ) (new : Progress ByteNetwork) → ComesToLine lines progress new
          → ((next : Progress ByteNetwork) → IsKeptSound next.state
          → most_now (net_in_lines next.state)
          ≤ most → lines_left most (progress_in_lines next) < fuel → Settling next)
          → Settling progress
      at None new so on = record {
        count = 0;
        last = new;
        goes = so.0;
        rest = rests no_byte new (turns_kept laws so.0 kept).kept so.1;
      }
      at (Some lines) new so on =
          let now = turns_kept laws (to_line lines progress new so) kept in
          let less_now = leaves_fewer fewer most lines progress new kept few so in
          let more = on new now.kept (subst (λ n. n ≤ most) (sym now.keeps.most) few)
          (further (lines_left most (progress_in_lines new))
          (lines_left most (progress_in_lines progress)) fuel less_now less) in
          record {
            count = lines + more.count;
            last = more.last;
            goes = turns_both (to_line lines progress new so) more.goes;
            rest = more.rest;
          }

      by : ComesToSome progress → ((next : Progress ByteNetwork)
          → IsKeptSound next.state → most_now (net_in_lines next.state) ≤ most
          → lines_left most (progress_in_lines next) < fuel → Settling next) → Settling progress
      by some on = at some.lines some.new some.comes on

  pub each_settles : TurnLeavesFewer → EachComesToLine → NoByteRests → (net : ByteNetwork)
      → IsKeptSound net → SettlesOnce net
  each_settles fewer comes no_byte net kept =
      let most = most_now (net_in_lines net) in
      let so =
      settling fewer comes no_byte (suc (lines_left most (progress_in_lines (begun net))))
      most (begun net) kept (le_refl most) (lt-suc_self _) in
      record {
        counted = min so.count max_count;
        receipts = so.last.out;
        last = so.last.state;
        settles = record {
          count = so.count;
          last = so.last;
          goes = so.goes;
          rest = so.rest;
          counts = refl;
          received = refl;
          after = refl;
        };
      }
