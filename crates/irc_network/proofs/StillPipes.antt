-- Pipes on which nothing is on its way.
use Rattle.std.proofs.Common.{◌≡◌, ℕ, zero, suc, Bool, true, false, cond, is_some, Option, Some}
use Rattle.std.proofs.Common.{None, [], ◌∷◌, refl, sym, ◌∙◌, ap, unwrap_or}
use Rattle.std.specs.Cmp.{first_so, second_so}
use Rattle.std.specs.FinMap.{FinMap, contains_key-keys, get, keys, remove}
use Rattle.std.specs.List.{slice_get, slice_set}
use Rattle.std.specs.Option.{option_map_or}
use Rattle.std.specs.Ordering.{nat_cmp}
use Rattle.irc_network.specs.Network.{LinkPlaces}
use Rattle.irc_stage.specs.Lemmas.Numbers.{get-without, same_number}
use Rattle.irc_pipes.specs.Pipes.{LinkPipe, Pipes, are_still, are_still_in, is_still, new_pipe}
use Rattle.irc_pipes.specs.Pipes.{pipe_at}
use Rattle.irc_pipes.specs.Pipes.{pipe_in, without_pipe}
use Rattle.irc_pipes.specs.Lemmas.StillPipes.{one_of, still_is_new}
use Rattle.irc_network.specs.ByteNetwork.{lost_along}

abbrev PipeRow : Type 0
PipeRow = FinMap nat_cmp LinkPipe

still_in : (row : PipeRow) → are_still_in row ≡ true → (to : ℕ) → pipe_in to row ≡ new_pipe
still_in row still to = by (get row to) refl
  where
    by : (o : Option LinkPipe) → get row to ≡ o → unwrap_or o new_pipe ≡ new_pipe
    by None is = refl
    by (Some pipe) is =
        ap (λ o. unwrap_or o new_pipe) (sym is)
        ∙ still_is_new (pipe_in to row)
        (one_of (λ number. is_still (pipe_in number row)) to (keys row) still
        (sym (contains_key-keys row to) ∙ ap is_some is))

pub all_new : (pipes : Pipes) → are_still pipes ≡ true → (from to : ℕ)
    → pipe_at pipes from to ≡ new_pipe
all_new [] still from to = refl
all_new (row ∷ pipes) still zero to =
    still_in row (first_so (are_still_in row) (are_still pipes) still) to
all_new (row ∷ pipes) still (suc from) to =
    all_new pipes (second_so (are_still_in row) (are_still pipes) still) from to

-- ---- what is lost of nothing

new_without : (row : PipeRow) (lost : ℕ) → ((to : ℕ) → pipe_in to row ≡ new_pipe) → (to : ℕ)
    → pipe_in to (remove row lost) ≡ new_pipe
new_without row lost none to =
    ap (λ o. unwrap_or o new_pipe) (get-without row lost to) ∙ by (same_number to lost)
  where
    by : (b : Bool) → unwrap_or (cond b None (get row to)) new_pipe ≡ new_pipe
    by true = refl
    by false = none to

set_new : (pipes : Pipes) (from : ℕ) (row : PipeRow) → ((to : ℕ) → pipe_in to row ≡ new_pipe)
    → ((x to : ℕ) → pipe_at pipes x to ≡ new_pipe) → (x to : ℕ)
    → pipe_at (slice_set pipes from row) x to ≡ new_pipe
set_new [] from row none all x to = refl
set_new (first ∷ pipes) zero row none all zero to = none to
set_new (first ∷ pipes) zero row none all (suc x) to = all (suc x) to
set_new (first ∷ pipes) (suc from) row none all zero to = all zero to
set_new (first ∷ pipes) (suc from) row none all (suc x) to =
    set_new pipes from row none (λ y. all (suc y)) x to

one_lost : (pipes : Pipes) (from lost : ℕ) → ((x to : ℕ) → pipe_at pipes x to ≡ new_pipe)
    → (x to : ℕ) → pipe_at (without_pipe from lost pipes) x to ≡ new_pipe
one_lost pipes from lost all x to = by (slice_get pipes from) refl
  where
    by : (o : Option PipeRow) → slice_get pipes from ≡ o → pipe_at
        (option_map_or (λ row. slice_set pipes from (remove row lost)) o pipes) x to ≡ new_pipe
    by None is = all x to
    by (Some row) is =
        set_new pipes from (remove row lost) (new_without row lost
        (λ y. ap (λ o. option_map_or (pipe_in y) o new_pipe) (sym is) ∙ all from y)) all x to

pub nothing_lost : (lost : Option LinkPlaces) (pipes : Pipes)
    → ((from to : ℕ) → pipe_at pipes from to ≡ new_pipe) → (from to : ℕ)
    → pipe_at (lost_along lost pipes) from to ≡ new_pipe
nothing_lost None pipes all from to = all from to
nothing_lost (Some ends) pipes all from to = one_lost (without_pipe ends.near ends.far pipes)
    ends.far ends.near (one_lost pipes ends.near ends.far all) from to
