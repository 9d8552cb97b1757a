-- By a turn no line is completed, or the next in turn where links carry lines.
use Rattle.std.proofs.Common.{◌≡◌, ℕ, zero, suc, ◌+◌, ◌≤◌, Bool, true, false, not, Option, Some}
use Rattle.std.proofs.Common.{None, List, [], ◌∷◌, ◌++◌, length, take, refl, sym, ◌∙◌, ap, subst}
use Rattle.std.proofs.Common.{arith, option_map, unwrap_or}
use Rattle.std.specs.Option.{option_and_then, option_map_or}
use Rattle.irc_line.specs.Lines.{completed}
use Rattle.irc_network.specs.Network.{Progress, delivered, direction}
use Rattle.irc_network.specs.Network.{Network, first_among, is_nothing, next_in_turn, node_at}
use Rattle.irc_pipes.specs.Pipes.{Direction, LinkPipe, first_direction, has_byte, is_none}
use Rattle.irc_pipes.specs.Pipes.{lines_to_come, pipe_at}
use Rattle.irc_network.specs.Behind.{Ahead, nodes_behind}
use Rattle.irc_network.specs.ByteNetwork.{ByteNetwork, completed_in, progress_in_lines}
use Rattle.irc_network.specs.ByteNetwork.{net_in_lines, lines_ahead}
use Rattle.irc_network.specs.Turns.{bytes_in_turn, lines_in, lines_in_turn, turn_in}
use Rattle.irc_network.specs.Whole.{AreLinesWaiting, BytesComeAsLines, ComeAsLines, Delivers}
use Rattle.irc_network.specs.Whole.{IsWhole, IsWholeNet, TurnAsLines, TurnsAsLines, has_way}
use Rattle.irc_network.specs.Whole.{no_line, no_more, one_first, one_line}
use Rattle.irc_network.proofs.FirstWays.{HasAhead, first_is}
use Rattle.irc_network.proofs.PipeLines.{IsKnownOfStreams, lines_parted}

-- ---- no line is delivered, or one

none_is : {from to count : ℕ} {old last : Progress Network} → Delivers from to count old last
    → count ≡ 0 → last ≡ old
none_is no_more none = refl
none_is (one_first {count = count} first rest) none = absurd (omega (arith, none))

one_is : {from to count : ℕ} {old last : Progress Network} → Delivers from to count old last
    → count ≡ 1 → delivered from to old ≡ Some last
one_is no_more one = absurd (omega (arith, one))
one_is (one_first {count = count} first rest) one =
    first ∙ ap Some (sym (none_is rest (omega (arith, one))))

-- ---- a direction in which a byte is on its way

none_to_come : (known : IsKnownOfStreams) (pipe : LinkPipe) → IsWhole pipe → has_byte pipe ≡ false
    → lines_to_come pipe ≡ []
none_to_come known pipe whole none = by pipe.bytes refl
  where
    by : (bytes : List ℕ) → pipe.bytes ≡ bytes → lines_to_come pipe ≡ []
    by [] is = ap (completed pipe.begun) is ∙ (known.pieces pipe.begun whole.real).none
    by (byte ∷ bytes) is = cc (sym none ∙ ap (λ bs. not (is_none bs)) is)

some_to_come : (all lines rest : List (List ℕ)) → all ≡ lines ++ rest → length lines ≡ 1
    → is_nothing all ≡ false
some_to_come all [] rest is one = absurd (omega (arith, one))
some_to_come all (first ∷ lines) rest is one = ap is_nothing is

module _ (known : IsKnownOfStreams) (come : BytesComeAsLines) (old : Progress ByteNetwork)
    (whole : IsWholeNet old.state) (are : AreLinesWaiting (net_in_lines old.state))
    (d : Direction) (first : first_direction old.state.pipes ≡ Some d) where
  abbrev pipe : LinkPipe
  pipe = pipe_at old.state.pipes d.from d.to

  abbrev count : ℕ
  count = bytes_in_turn old.state d

  abbrev lines : List (List ℕ)
  lines = completed_in old.state d.from d.to count

  abbrev ahead : Ahead
  ahead = lines_ahead old.state.pipes

  comes : ComeAsLines d.from d.to count old
  comes = come d.from d.to count old whole

  one_at_most : length lines ≤ 1
  one_at_most =
      subst (λ begun. length (completed begun (take count pipe.bytes)) ≤ 1)
      (known.pieces pipe.begun (whole.whole d.from d.to).real).none_begun
      ((whole.whole d.from d.to).singly 0)

  lines_are : (n : ℕ) → length lines ≡ n → lines_in_turn old.state ≡ n
  lines_are n is = ap (λ o. option_map_or (lines_in old.state) o 0) first ∙ is

  -- ---- one is completed

  module _ (one : length lines ≡ 1) where
    some_ahead : is_nothing (ahead d.from d.to) ≡ false
    some_ahead = some_to_come (ahead d.from d.to) lines _
        (lines_parted known pipe (whole.whole d.from d.to) count) one

    way_there : has_way old.state.network d.from d.to ≡ true
    way_there = by (has_way old.state.network d.from d.to) refl
      where
        by : (b : Bool) → has_way old.state.network d.from d.to ≡ b → b ≡ true
        by true is = refl
        by false is = cc (sym some_ahead ∙ ap is_nothing (whole.ways d.from d.to is))

    ahead_there : (x : ℕ) → d.from ≡ 0 + x
        → HasAhead (node_at old.state.network x) d.to (ahead x d.to)
    ahead_there x at =
        let x_is : d.from ≡ x = omega (arith, at) in
        subst (λ n. HasAhead (node_at old.state.network n) d.to (ahead n d.to)) x_is
        (record { way = way_there; some = some_ahead })

    first_line : first_among 0 (nodes_behind ahead old.state.network.nodes)
        ≡ Some (direction d.from d.to)
    first_line =
        first_is 0 old.state.pipes old.state.network.nodes ahead d whole.tidy.rows
        (λ x to none. none_to_come known (pipe_at old.state.pipes x to) (whole.whole x to) none)
        whole.tidy.quiet ahead_there first

    next_is : next_in_turn (progress_in_lines old) ≡ Some comes.last
    next_is =
        ap (option_and_then (λ (e : Direction). delivered e.from e.to (progress_in_lines old)))
        first_line ∙ one_is comes.delivers one

  -- ---- none, or one

  turn_is : TurnsAsLines old (turn_in old d)
  turn_is = by (length lines) refl
    where
      by : (n : ℕ) → length lines ≡ n → TurnsAsLines old (turn_in old d)
      by zero none =
          let same : comes.last ≡ progress_in_lines old = none_is comes.delivers none in
          let are_last : AreLinesWaiting comes.last.state =
          subst (λ (c : Progress Network). AreLinesWaiting c.state) (sym same) are in
          no_line (lines_are 0 none) (comes.as_lines are_last ∙ same) (comes.whole are_last)
      by (suc zero) one =
          one_line comes.last (lines_are 1 one) (next_is one) comes.as_lines comes.whole
      by (suc (suc n)) more = absurd (omega (arith, one_at_most, more))

pub turn_as_lines : IsKnownOfStreams → BytesComeAsLines → TurnAsLines
turn_as_lines known come old new whole are turn = by (first_direction old.state.pipes) refl turn
  where
    by : (o : Option Direction) → first_direction old.state.pipes ≡ o
        → option_map (turn_in old) o ≡ Some new → TurnsAsLines old new
    by None none turned = cc turned
    by (Some d) first turned = subst (TurnsAsLines old) (ap (λ o. unwrap_or o old) turned)
        (turn_is known come old whole are d first)
