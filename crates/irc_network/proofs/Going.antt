-- Turn by turn: turns behind those that were taken, and until one completes a line.
use Rattle.irc_network.specs.ByteNetwork.{ByteNetwork}
use Rattle.std.proofs.Common.{◌≡◌, ℕ, zero, suc, ◌+◌, ◌<◌, ◌≤◌, Option, Some, None, refl, sym, ◌∙◌}
use Rattle.std.proofs.Common.{subst, arith}
use Rattle.irc_network.specs.Network.{Progress}
use Rattle.irc_network.specs.Loops.Turning.{bytes_on_way}
use Rattle.irc_network.specs.Turns.{ComesToLine, TurnsBy, TurnsGo, lines_in_turn, none_yet}
use Rattle.irc_network.specs.Turns.{turn_first, turn_taken}
use Rattle.irc_network.specs.Whole.{ComesToSome, EachComesToLine, IsTidy}
use Rattle.irc_network.proofs.FewerBytes.{fewer_bytes}
use Rattle.irc_network.proofs.NothingWritten.{moves_alone}

-- ---- one turn more

pub turns_behind : {all : ℕ} {progress last new : Progress ByteNetwork} → TurnsGo all progress last
    → turn_taken last ≡ Some new → TurnsGo (all + lines_in_turn last.state) progress new
turns_behind {last = last} none_yet taken =
    turn_first taken (alone (lines_in_turn last.state)) none_yet
  where
    alone : (lines : ℕ) → 0 + lines ≡ lines + 0
    alone lines = omega arith
turns_behind {last = last}
    (turn_first {all = all} {count = count} {progress = progress} first lines_are rest) taken =
    turn_first first (in_turn all (lines_in_turn progress.state) count
    (lines_in_turn last.state) lines_are) (turns_behind rest taken)
  where
    in_turn : (all first count lines : ℕ) → all ≡ first + count
        → all + lines ≡ first + (count + lines)
    in_turn all first count lines is = omega arith

pub none_behind : {progress last new : Progress ByteNetwork} → TurnsGo 0 progress last
    → turn_taken last ≡ Some new → lines_in_turn last.state ≡ 0 → TurnsGo 0 progress new
none_behind {progress = progress} {last = last} {new = new} goes taken none =
    subst (λ lines. TurnsGo lines progress new) (no_more (lines_in_turn last.state) none)
    (turns_behind goes taken)
  where
    no_more : (lines : ℕ) → lines ≡ 0 → 0 + lines ≡ 0
    no_more lines is = omega arith

-- ---- a turn by which no line is completed

pub record GoesOn (old new : Progress ByteNetwork) : Type 0 where
  pub tidy : IsTidy new.state
  pub fewer : bytes_on_way new.state.pipes < bytes_on_way old.state.pipes

pub goes_on : (old new : Progress ByteNetwork) → IsTidy old.state → turn_taken old ≡ Some new
    → lines_in_turn old.state ≡ 0 → GoesOn old new
goes_on old new tidy taken none =
    let moves = moves_alone old new tidy taken none in
    record {
      tidy = moves.tidy;
      fewer = subst (λ (progress : Progress ByteNetwork). bytes_on_way progress.state.pipes
          < bytes_on_way old.state.pipes) (sym moves.new_is)
          (fewer_bytes old.state.pipes moves.way moves.is_first);
    }

-- ---- what a call has done by a turn behind turns that completed none

-- turns that complete no line have left a tidy network
pub record GoesTidily (old new : Progress ByteNetwork) : Type 0 where
  pub goes : TurnsGo 0 old new
  pub tidy : IsTidy new.state

none_at_most : (lines : ℕ) → lines ≤ 0 → lines ≡ 0
none_at_most lines few = omega (arith, few)

pub tidily_on : (old now new : Progress ByteNetwork) (lines : ℕ) → GoesTidily old now
    → TurnsBy (Some lines) now new → lines ≤ 0 → GoesTidily old new
tidily_on old now new lines before turn few = record {
  goes = none_behind before.goes turn.0 (sym turn.1 ∙ none_at_most lines few);
  tidy = (goes_on now new before.tidy turn.0 (sym turn.1 ∙ none_at_most lines few)).tidy;
}

pub fewer_on : (old now new : Progress ByteNetwork) (lines : ℕ) → GoesTidily old now → TurnsBy
    (Some lines) now new → lines ≤ 0 → bytes_on_way new.state.pipes < bytes_on_way now.state.pipes
fewer_on old now new lines before turn few =
    (goes_on now new before.tidy turn.0 (sym turn.1 ∙ none_at_most lines few)).fewer

pub some_come : (old now new : Progress ByteNetwork) (lines : ℕ) → GoesTidily old now
    → TurnsBy (Some lines) now new → 0 < lines → ComesToLine (Some lines) old new
some_come old now new lines before turn some =
    record { between = now; goes = before.goes; turn = turn.0; lines_are = turn.1; some = some }

pub none_come : (old now new : Progress ByteNetwork) → GoesTidily old now → TurnsBy None now new
    → ComesToLine None old new
none_come old now new before turn =
    subst (λ (last : Progress ByteNetwork). TurnsGo 0 old last × (turn_taken last ≡ None))
    (sym turn.1)
    (before.goes, turn.0)

-- ---- until one is

comes_behind : (lines : Option ℕ) (old between new : Progress ByteNetwork)
    → turn_taken old ≡ Some between → lines_in_turn old.state ≡ 0 → ComesToLine lines between new
    → ComesToLine lines old new
comes_behind lines old between new taken none = by lines
  where
    before : {last : Progress ByteNetwork} → TurnsGo 0 between last → TurnsGo 0 old last
    before goes = turn_first taken (first (lines_in_turn old.state) none) goes
      where
        first : (n : ℕ) → n ≡ 0 → 0 ≡ n + 0
        first n is = omega arith

    by : (o : Option ℕ) → ComesToLine o between new → ComesToLine o old new
    by None comes = (before comes.0, comes.1)
    by (Some n) comes = record {
      between = comes.between;
      goes = before comes.goes;
      turn = comes.turn;
      lines_are = comes.lines_are;
      some = comes.some;
    }

comes_within : (fuel : ℕ) (old : Progress ByteNetwork) → IsTidy old.state
    → bytes_on_way old.state.pipes < fuel → ComesToSome old
comes_within zero old tidy within = absurd (omega (arith, within))
comes_within (suc fuel) old tidy within = by (turn_taken old) refl (comes_within fuel)
  where
    less : (now before : ℕ) → now < before → before < suc fuel → now < fuel
    less now before fewer most = omega arith

    by_lines : (between : Progress ByteNetwork) → turn_taken old ≡ Some between → (n : ℕ)
        → lines_in_turn old.state ≡ n → ((progress : Progress ByteNetwork) → IsTidy progress.state
        → bytes_on_way progress.state.pipes < fuel → ComesToSome progress) → ComesToSome old
    by_lines between taken (suc n) are later = record {
      lines = Some (suc n);
      new = between;
      comes = record {
        between = old;
        goes = none_yet;
        turn = taken;
        lines_are = sym are;
        some = omega arith;
      };
    }
    by_lines between taken zero none later =
        let on = goes_on old between tidy taken none in
        let rest = later between on.tidy
        (less (bytes_on_way between.state.pipes) (bytes_on_way old.state.pipes) on.fewer within) in
        record {
          lines = rest.lines;
          new = rest.new;
          comes = comes_behind rest.lines old between rest.new taken none rest.comes;
        }

    by : (o : Option (Progress ByteNetwork)) → turn_taken old ≡ o
        → ((progress : Progress ByteNetwork) → IsTidy progress.state
        → bytes_on_way progress.state.pipes < fuel → ComesToSome progress) → ComesToSome old
    by None is later = record { lines = None; new = old; comes = (none_yet, is) }
    by (Some between) is later = by_lines between is (lines_in_turn old.state) refl later

pub each_comes_to_line : EachComesToLine
each_comes_to_line old tidy =
    comes_within (suc (bytes_on_way old.state.pipes)) old tidy (omega arith)
