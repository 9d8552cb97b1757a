-- Each server keeps its row of pipes, whatever is given and whatever comes.
use Rattle.std.proofs.Common.{◌≡◌, ℕ, zero, suc, Option, Some, None, List, [], ◌∷◌, length, refl}
use Rattle.std.proofs.Common.{sym, ◌∙◌, ap}
use Rattle.std.specs.List.{slice_get, slice_set}
use Rattle.std.specs.Option.{option_map_or}
use Rattle.std.specs.FinMap.{FinMap, remove}
use Rattle.std.specs.Ordering.{nat_cmp}
use Rattle.irc_network.specs.Network.{Progress, LinkPlaces, Network, Receipt, given}
use Rattle.irc_world.specs.Stepping.{Item}
use Rattle.irc_pipes.specs.Pipes.{LinkPipe, Pipes, advanced, put_in, pipe_at, with_pipe}
use Rattle.irc_pipes.specs.Pipes.{without_pipe}
use Rattle.irc_network.specs.ByteNetwork.{ByteNetwork, HasRows, all_heard, lost_along}
use Rattle.irc_network.specs.ByteNetwork.{pipes_after}
use Rattle.irc_network.specs.Lemmas.NodesStay.{all_heard_stay, given_stays}

abbrev PipeRow : Type 0
PipeRow = FinMap nat_cmp LinkPipe

pub length_set : {X : Type 0} (xs : List X) (place : ℕ) (x : X)
    → length (slice_set xs place x) ≡ length xs
length_set [] place x = refl
length_set (first ∷ xs) zero x = refl
length_set (first ∷ xs) (suc place) x = ap suc (length_set xs place x)

pub rows_stay : (from to : ℕ) (pipe : LinkPipe) (pipes : Pipes)
    → length (with_pipe from to pipe pipes) ≡ length pipes
rows_stay from to pipe pipes = by (slice_get pipes from)
  where
    by : (o : Option PipeRow) → length
        (option_map_or (λ row. slice_set pipes from (put_in to pipe row)) o pipes) ≡ length pipes
    by None = refl
    by (Some row) = length_set pipes from (put_in to pipe row)

one_closed : (from to : ℕ) (pipes : Pipes) → length (without_pipe from to pipes) ≡ length pipes
one_closed from to pipes = by (slice_get pipes from)
  where
    by : (o : Option (FinMap nat_cmp LinkPipe)) → length
        (option_map_or (λ row. slice_set pipes from (remove row to)) o pipes) ≡ length pipes
    by None = refl
    by (Some row) = length_set pipes from (remove row to)

pub closed_rows : (lost : Option LinkPlaces) (pipes : Pipes)
    → length (lost_along lost pipes) ≡ length pipes
closed_rows None pipes = refl
closed_rows (Some ends) pipes = one_closed ends.far ends.near
    (without_pipe ends.near ends.far pipes) ∙ one_closed ends.near ends.far pipes

pub rows_after_item : (old : ByteNetwork) (item : Item) (net : Network) (pipes : Pipes)
    → HasRows old → net ≡ (given item old.network).state
    → pipes ≡ pipes_after old.network item old.pipes → length pipes ≡ length net.nodes
rows_after_item old item net pipes rows net_is pipes_are =
    ap (λ (ws : Pipes). length ws) pipes_are ∙ closed_rows _ old.pipes ∙ rows
    ∙ sym (ap (λ (n : Network). length n.nodes) net_is ∙ given_stays item old.network)

pub rows_after_lines : (old : ByteNetwork) (from to count : ℕ) (lines : List (List ℕ))
    (before : List Receipt) (last : Progress Network) (pipes : Pipes) → HasRows old
    → last ≡ all_heard from to (record { state = old.network; out = before }) lines
    → pipes ≡ with_pipe from to (advanced count (pipe_at old.pipes from to)) old.pipes
    → length pipes ≡ length last.state.nodes
rows_after_lines old from to count lines before last pipes rows last_is pipes_are =
    ap (λ (ws : Pipes). length ws) pipes_are
    ∙ rows_stay from to (advanced count (pipe_at old.pipes from to)) old.pipes ∙ rows
    ∙ sym (ap (λ (c : Progress Network). length c.state.nodes) last_is
    ∙ all_heard_stay from to (record { state = old.network; out = before }) lines)
