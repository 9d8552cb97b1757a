-- What the calls of a network whose links carry bytes leave.
use Rattle.std.proofs.Common.{◌≡◌, ℕ, Some, None, [], ◌∷◌, ◌++◌, length, option_map}
use Rattle.std.proofs.Common.{refl, sym, ◌∙◌, ap}
use Rattle.std.specs.Option.{option_map_or}
use Rattle.irc_network.specs.Network.{Progress, done_by, given}
use Rattle.irc_world.specs.Stepping.{Item}
use Rattle.irc_pipes.specs.Pipes.{Direction, SamePipes, advanced, first_direction, pipe_at}
use Rattle.irc_network.specs.ByteNetwork.{ByteNetwork, bytes_come, completed_in}
use Rattle.irc_network.specs.ByteNetwork.{progress_without_pipes, progress_written, item_given}
use Rattle.irc_network.specs.ByteNetwork.{pipes_after, pipes_come}
use Rattle.irc_network.specs.Lemmas.Rows.{rows_stay}
use Rattle.irc_network.specs.Lemmas.RowsWritten.{lean_with}
use Rattle.irc_network.specs.Loops.Progress.{all_heard_out}
use Rattle.irc_network.specs.Whole.{IsTidy}
use Rattle.irc_network.proofs.AskedOut.{all_heard_written}
use Rattle.irc_network.proofs.SentOut.{tidy_alone}
use Rattle.irc_network.specs.Turns.{TurnsBy, bytes_in_turn, lines_in, turn_in}

-- ---- what is given

-- it is kept, and lines are counted anew
abbrev pub byte_kept : Item → Progress ByteNetwork → Progress ByteNetwork
byte_kept item progress = record progress {
  state = record progress.state {
    network = record progress.state.network {
      items = progress.state.network.items ++ item ∷ [];
      taken = 0;
    };
  };
}

pub was_given : (old : ByteNetwork) (item : Item) (done : Progress ByteNetwork)
    → done ≡ progress_written (done_by item old.network) (pipes_after old.network item old.pipes)
    → byte_kept item done ≡ item_given item old
unfolding given item_given
was_given old item done is = ap (byte_kept item) is

-- ---- bytes have come

abbrev pub come_in : ℕ → ℕ → ℕ → ByteNetwork → ByteNetwork
come_in from to count net =
    record { network = net.network; pipes = pipes_come net from to count }

pub come_tidy : (from to count : ℕ) (net : ByteNetwork) → IsTidy net
    → IsTidy (come_in from to count net)
come_tidy from to count net tidy = record {
  quiet = tidy.quiet;
  rows = rows_stay from to (advanced count (pipe_at net.pipes from to)) net.pipes ∙ tidy.rows;
  lean = lean_with from to (advanced count (pipe_at net.pipes from to)) net.pipes tidy.lean;
}

-- what they complete is heard in turn, and what servers put out upon it is written at once
pub have_come : SamePipes → (from to count : ℕ) (old : Progress ByteNetwork) → IsTidy old.state
    → all_heard_out from to (record old { state = come_in from to count old.state })
    (completed_in old.state from to count) ≡ bytes_come from to count old
unfolding bytes_come
have_come same from to count old tidy =
    let now = come_tidy from to count old.state tidy in
    let lines = completed_in old.state from to count in
    ap (λ progress. all_heard_out from to progress lines)
    (sym (tidy_alone (record old { state = come_in from to count old.state }) now))
    ∙ all_heard_written same from to (pipes_come old.state from to count) now.lean lines
    (progress_without_pipes old) now.rows

-- ---- a turn

pub no_turn : (old : Progress ByteNetwork) → None ≡ first_direction old.state.pipes
    → TurnsBy None old old
no_turn old none = (ap (option_map (turn_in old)) (sym none), refl)

pub one_turn : (old new : Progress ByteNetwork) (d : Direction) (count lines : ℕ)
    → Some d ≡ first_direction old.state.pipes
    → count ≡ bytes_in_turn old.state d → new ≡ bytes_come d.from d.to count old
    → lines ≡ length (completed_in old.state d.from d.to count) → TurnsBy (Some lines) old new
one_turn old new d count lines first count_is new_is lines_are = (
  ap (option_map (turn_in old)) (sym first)
      ∙ ap Some (sym (new_is ∙ ap (λ n. bytes_come d.from d.to n old) count_is)),
  lines_are ∙ ap (λ n. length (completed_in old.state d.from d.to n)) count_is
      ∙ ap (λ o. option_map_or (lines_in old.state) o 0) first,
)
